-- What one more piece of a list's text adds to its values.
use Rattle.std.proofs.Common.{◌≡◌, ℕ, zero, suc, ◌-◌, ◌<◌, ◌∷◌, [], List, length, get_or, drop, refl, ap, ◌∙◌, arith}
use Rattle.text_places.specs.declared.field_lines.Grammar.{Grammar}
use Rattle.text_places.specs.declared.texts.Extent.{Extent}
use Rattle.text_places.specs.declared.texts.Piece.TheVariants.{Value}
use Rattle.text_places.specs.Texts.{Listed, listed_by, listed, next_piece, span_at}

-- what was read is passed over
pub listed-skip : (g : Grammar) (end skip : ℕ) (text : List ℕ) → listed g end skip text ≡ listed g end 0 (drop skip text)
listed-skip g end zero [] = refl
listed-skip g end (suc skip) [] = refl
listed-skip g end zero (b ∷ bs) = refl
listed-skip g end (suc skip) (b ∷ bs) = listed-skip g end skip bs

-- a value, and what stands in the text behind it
abbrev pub value_then : ℕ → Extent → Listed → Listed
value_then start s later = record { values = span_at start s ∷ later.values; is_open = later.is_open }

drop_tail : (b : ℕ) (bs : List ℕ) (n : ℕ) → 0 < n → drop (n - 1) bs ≡ drop n (b ∷ bs)
drop_tail b bs zero some = absurd (omega arith)
drop_tail b bs (suc n) some = ap (λ (k : ℕ). drop k bs) (omega arith)

pub listed-value : (g : Grammar) (end : ℕ) (xs : List ℕ) (s : Extent) → 0 < length xs → next_piece g (get_or xs 0 0) xs ≡ Value s → 0 < s.read →
    listed g end 0 xs ≡ value_then (end - length xs) s (listed g end 0 (drop s.read xs))
listed-value g end [] s some e read = absurd (omega arith)
listed-value g end (b ∷ bs) s some e read =
    ap (listed_by (end - length (b ∷ bs)) (λ skip. listed g end skip bs)) e
    ∙ ap (value_then (end - length (b ∷ bs)) s) (listed-skip g end (s.read - 1) bs ∙ ap (listed g end 0) (drop_tail b bs s.read read))
