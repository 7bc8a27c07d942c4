use Rattle.std.proofs.Common.{◌≡◌, Option, None, String, Global, option_map, string_bytes, sym, subst, ◌∙◌}
use Rattle.spdx_canonical.specs.Draft.{Drafted, difference}
use Rattle.spdx_canonical.specs.DraftModel.{bytes_of}
use Rattle.spdx_canonical.proofs.Drafts.{all_written}
use Rattle.spdx_canonical.proofs.draft.Draft.finish.Goals as goal

pub returns-in-None-clause-ok : goal.returns-in-None-clause-ok
returns-in-None-clause-ok c =
    let text = c.self.inside.text.now in
    let rest = c.self.inside.rest.now in
    subst (λ (d : Drafted). None ≡ difference d) c.self.view_is
    (subst (λ (o : Option (String Global)). None ≡ difference (record { text = text; bytes = bytes_of text rest (option_map string_bytes o) })) (sym c.in-None.is) (sym (all_written text rest (sym c.is_empty.ensures ∙ c.if-is_empty.true))))
