-- Both are told to mean the same exactly if they do.
use Rattle.std.proofs.Common.{◌≡◌, Bool, true, false, refl}
use Rattle.std.specs.Prelude.{◌↔◌}
use Rattle.spdx_parser.specs.Tree.{Tree}
use Rattle.spdx_meaning.specs.Meaning.{IsEquivalent}
use Rattle.spdx_meaning.specs.Relations.{IsRelation}
use Rattle.spdx_meaning.specs.declared.relation.Relation.{Relation}
use Rattle.spdx_meaning.specs.declared.relation.Relation.TheVariants.{Same, More, Less, Neither}
use Rattle.spdx_meaning.proofs.Meaning.{equivalent_asks}
use Rattle.meaning_program.specs.Compared.{is_same}

no_same : (P : Type 0) → false ≡ true → P
no_same P bad = cc

pub same_exactly : (t u : Tree) (r : Relation) → IsRelation t u r → (is_same r ≡ true) ↔ IsEquivalent t u
same_exactly t u Same h = ((λ e. h), (λ same. refl))
same_exactly t u More h = (no_same (IsEquivalent t u), (λ same. absurd (h.1 (equivalent_asks t u same).1)))
same_exactly t u Less h = (no_same (IsEquivalent t u), (λ same. absurd (h.0 (equivalent_asks t u same).0)))
same_exactly t u Neither h = (no_same (IsEquivalent t u), (λ same. absurd (h.0 (equivalent_asks t u same).0)))
