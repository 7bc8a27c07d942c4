use Rattle.std.proofs.Common.{◌++◌, ap, ◌∙◌, Bor, List, ℕ, map, string_bytes}
use Rattle.std.proofs.lemmas.List.{map-append}
use Rattle.notice_texts.specs.Lacking.{missing, unused}
use Rattle.check_sources.specs.Owed.{missing_at, those_called, unused_at, whole_names, whole_of}
use Rattle.check_sources.proofs.Unused.{unused_called}
use Rattle.check_sources.proofs.owed.all_owed.Goals as goal

pub returns : goal.returns
returns c =
    let text = λ (t : Bor (List ℕ)). t.now in
    let folder = c.args.folder.now in
    let used = map string_bytes c.args.used.now in
    let files = map string_bytes c.args.files.now in
    let names = ap (map text) c.deref-2.ensures.value ∙ c.in_ok-names.ensures in
    let needed = ap (map text) c.deref.ensures.value ∙ c.in_ok-used.ensures in
    let lacking = ap (map text) c.deref-3.ensures.value ∙ c.in_ok-owed.ensures.missing ∙ ap (λ u. missing u (map text c.deref-2.result.now)) needed ∙ ap (missing used) names in
    let idle = ap (map text) c.deref-4.ensures.value ∙ c.in_ok-owed.ensures.unused ∙ ap (λ u. unused u (map text c.deref-2.result.now)) needed ∙ ap (unused used) names in
    ap (map whole_of) c.in_ok-append.ensures.items ∙ map-append whole_of c.in_ok-wholes.wholes.items c.in_ok-unused.unused.items
    ∙ ap (λ ws. ws ++ map whole_of c.in_ok-unused.unused.items) (c.in_ok-wholes.ensures ∙ ap (map (missing_at folder)) lacking)
    ∙ ap (λ ws. map (missing_at folder) (missing used (whole_names files)) ++ ws)
    (c.in_ok-unused.ensures ∙ ap (λ ns. map unused_at (those_called ns files)) idle ∙ ap (map unused_at) (unused_called used files))
