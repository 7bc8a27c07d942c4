use Rattle.std.proofs.Common.{ap, sym, ◌∙◌, ◌++◌}
use Rattle.std.proofs.lemmas.Bool.{true≢false}
use Rattle.std.specs.Path.{path_bytes, path_components}
use Rattle.check_sources.specs.Untagged.{parts_of}
use Rattle.check_sources.proofs.Spelling.{below_it, continues_not}
use Rattle.check_sources.proofs.untagged.is_below.Goals as goal

pub returns-in-Ok : goal.returns-in-Ok
returns-in-Ok c =
    c.leads_down.ensures ∙ below_it (parts_of c.args.folder.now) (parts_of c.args.path.now) (path_components (path_bytes c.in-Ok.rest))
    (sym c.from_here.ensures ∙ c.in-Ok.ensures.rest ∙ ap (λ ps. ps ++ path_components (path_bytes c.in-Ok.rest)) c.from_here-2.ensures)

pub returns-in-Err : goal.returns-in-Err
returns-in-Err c =
    sym (continues_not (parts_of c.args.folder.now) (parts_of c.args.path.now)
    (λ found. true≢false (sym (c.in-Err.ensures.succeeds.1
    (found.0, c.from_here.ensures ∙ found.1 ∙ ap (λ ps. ps ++ found.0) (sym c.from_here-2.ensures))))))
