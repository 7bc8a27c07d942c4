use Rattle.std.proofs.Common.{◌≡◌, Option, Some, None, option_map, sym, ◌∙◌, subst, IsUtf8}
use Rattle.std.specs.Prelude.{slice_get}
use Rattle.std.proofs.lemmas.Option.{slice_get-map}
use Rattle.std.proofs.lemmas.Str.{IsUtf8-string_bytes}
use Rattle.spdx_requirement.specs.Rows.{ImpreciseRow, imprecise_of}
use Rattle.spdx_requirement.specs.declared.row.ImpreciseName.{ImpreciseName}
use Rattle.spdx_catalogue.proofs.catalogue.Catalogue.has_text_prefixes.Goals as goal

shown_text : (o : Option ImpreciseName) (m : ImpreciseRow) → option_map imprecise_of o ≡ Some m → IsUtf8 m.prefix
shown_text None m e = absurd cc
shown_text (Some n) m e = let same : imprecise_of n ≡ m = cc in subst (λ (r : ImpreciseRow). IsUtf8 r.prefix) same (IsUtf8-string_bytes n.prefix)

pub returns : goal.returns
returns c = rw (← c.self.view_is) (λ row m at. shown_text (slice_get c.self.inside.imprecise.items row) m (sym (slice_get-map imprecise_of c.self.inside.imprecise.items row) ∙ at))
