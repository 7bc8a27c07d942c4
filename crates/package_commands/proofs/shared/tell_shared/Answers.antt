use Rattle.std.proofs.Common.{List, ap, map, subst, ◌∙◌}
use Rattle.std.specs.Borrow.{Bor}
use Rattle.std.specs.Prelude.{ℕ}
use Rattle.check_files.specs.Told.{Tells}
use Rattle.package_files.specs.Documents.{documents_of}
use Rattle.owed_texts.specs.Held.{name_in}
use Rattle.package_commands.specs.Shared.{AreToldAs}
use Rattle.package_commands.proofs.Ends.{shared_told}
use Rattle.package_commands.proofs.shared.tell_shared.Goals as goal

pub returns : goal.returns
returns g c =
    let old = g.T.Listener.heard c.args.listener.now in
    let new = g.T.Listener.heard c.tell_names.new.listener in
    shared_told c.args.source c.args.files.now (documents_of c.deref.result.now) (map name_in c.in_ok-shared.shared.items) old new (ap documents_of c.deref.ensures.value ∙ c.in_ok-documents.ensures)
    c.in_ok-shared.ensures.told c.in_ok-shared.ensures.ascend
    (subst (λ (names : List (Bor (List ℕ))). Tells old new (AreToldAs (map name_in names))) c.deref-2.ensures.value c.in_ok-tell_names.ensures)
