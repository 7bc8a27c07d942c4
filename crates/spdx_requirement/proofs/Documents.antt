-- The text of a reference, its document's apart.
use Rattle.std.proofs.Common.{◌≡◌, ℕ, List, [], ◌++◌, Option, Some, None, codes, refl, ap, sym, append_assoc}
use Rattle.spdx_requirement.specs.Texts.{reference_text}

abbrev pub document_text : Option (List ℕ) → List ℕ
document_text None = []
document_text (Some x) = codes "DocumentRef-" ++ x ++ codes ":"

pub reference_is : (prefix : List ℕ) (d : Option (List ℕ)) (y : List ℕ) → reference_text prefix d y ≡ document_text d ++ (prefix ++ y)
reference_is prefix None y = refl
reference_is prefix (Some x) y = ap (λ (t : List ℕ). codes "DocumentRef-" ++ t) (sym (append_assoc x (codes ":") (prefix ++ y)))
