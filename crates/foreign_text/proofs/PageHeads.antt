-- A text in a page ends no title.
use Rattle.std.proofs.Common.{◌≡◌, ◌≢◌, ℕ, List, [], ◌∷◌, true, false, eqb, refl, arith}
use Rattle.std.proofs.lemmas.Bool.Decides.{nat_tests}
use Rattle.foreign_text.specs.PageText.{HasNoMarkup, page_text}
use Rattle.foreign_text.specs.PageHead.{has_no_tag}
use Rattle.foreign_text.proofs.PageLaws.{no_markup}

other : (b : ℕ) → b ≢ 60 → eqb b 60 ≡ false
other b = grind (arith, nat_tests)

no_tag : (bs : List ℕ) → HasNoMarkup bs → has_no_tag bs ≡ true
no_tag [] h = refl
no_tag (b ∷ bs) h = rw (other b h.0.0) (no_tag bs h.1)

pub text_has_no_tag : (text : List ℕ) → has_no_tag (page_text text) ≡ true
text_has_no_tag text = no_tag (page_text text) (no_markup text)
