-- How what two trees ask compares, from what each asks.
use Rattle.std.proofs.Common.{◌≡◌, ◌↔◌, Bool, true, false, refl, sym, ◌∙◌}
use Rattle.spdx_parser.specs.Tree.{Tree}
use Rattle.spdx_meaning.specs.Meaning.{AsksAtLeast}
use Rattle.spdx_meaning.specs.Relations.{IsRelation, relation_of}
use Rattle.spdx_meaning.proofs.Meaning.{both_ask}

refused : (P : Type 0) → (P → false ≡ true) → P → ⊥
refused P f p = let bad : false ≡ true = f p in cc

pub is_relation : (t u : Tree) (a b : Bool) → (a ≡ true) ↔ AsksAtLeast t u → (b ≡ true) ↔ AsksAtLeast u t → IsRelation t u (relation_of a b)
is_relation t u true true h k = both_ask t u (h.0 refl) (k.0 refl)
is_relation t u true false h k = (h.0 refl, refused (AsksAtLeast u t) k.1)
is_relation t u false true h k = (refused (AsksAtLeast t u) h.1, k.0 refl)
is_relation t u false false h k = (refused (AsksAtLeast t u) h.1, refused (AsksAtLeast u t) k.1)
