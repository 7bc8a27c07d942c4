-- What is put in a message of SARIF is read as the text.
use Rattle.std.proofs.Common.{◌≡◌, ℕ, ◌<◌, List, [], ◌∷◌, ◌++◌, Bool, true, false, ◌||◌, cond, eqb, Some, flat_map, codes, refl, sym, ap, subst, arith}
use Rattle.std.proofs.lemmas.Bool.Decides.{nat_tests}
use Rattle.std.proofs.Math.Utf8.{encode, encodes}
use Rattle.foreign_text.specs.Written.{message_char}
use Rattle.foreign_text.specs.Read.{Mark, no_mark, read_message_from}
use Rattle.foreign_text.proofs.Bytes.{choose, same, Lacks, lacks-encode}

abbrev Rest : List ℕ → List ℕ → Type 0
Rest rest text = read_message_from no_mark rest ≡ Some text

abbrev Stands : ℕ → List ℕ → List ℕ → List ℕ → Type 0
Stands c rest text page = read_message_from no_mark (page ++ rest) ≡ Some (encode c ++ text)

plain : (bs rest text : List ℕ) → Lacks 91 bs → Lacks 93 bs → Lacks 92 bs → Lacks 123 bs → Lacks 125 bs → Rest rest text → read_message_from no_mark (bs ++ rest) ≡ Some (bs ++ text)
plain [] rest text h i j k l e = e
plain (b ∷ bs) rest text h i j k l e = rw (h.0, i.0, j.0, k.0, l.0, plain bs rest text h.1 i.1 j.1 k.1 l.1 e) refl

like : (c n : ℕ) (rest text page : List ℕ) → Stands n rest text page → eqb c n ≡ true → Stands c rest text page
like c n rest text page h e = subst (λ (x : ℕ). Stands x rest text page) (sym (same c n e)) h

open_brace : (rest text : List ℕ) → Rest rest text → Stands 123 rest text (codes "{{")
unfolding encode
open_brace rest text e = rw e refl

closing_brace : (rest text : List ℕ) → Rest rest text → Stands 125 rest text (codes "}}")
unfolding encode
closing_brace rest text e = rw e refl

open_bracket : (rest text : List ℕ) → Rest rest text → Stands 91 rest text (codes "\\[")
unfolding encode
open_bracket rest text e = rw e refl

closing_bracket : (rest text : List ℕ) → Rest rest text → Stands 93 rest text (codes "\\]")
unfolding encode
closing_bracket rest text e = rw e refl

backslash : (rest text : List ℕ) → Rest rest text → Stands 92 rest text (codes "\\\\")
unfolding encode
backslash rest text e = rw e refl

message_read : (c : ℕ) (rest text : List ℕ) → Rest rest text → Stands c rest text (message_char c)
message_read c rest text e =
    choose (Stands c rest text) (eqb c 123) _ _ (like c 123 rest text (codes "{{") (open_brace rest text e))
    (λ h. choose (Stands c rest text) (eqb c 125) _ _ (like c 125 rest text (codes "}}") (closing_brace rest text e))
    (λ i. choose (Stands c rest text) (eqb c 91) _ _ (like c 91 rest text (codes "\\[") (open_bracket rest text e))
    (λ j. choose (Stands c rest text) (eqb c 93) _ _ (like c 93 rest text (codes "\\]") (closing_bracket rest text e))
    (λ k. choose (Stands c rest text) (eqb c 92) _ _ (like c 92 rest text (codes "\\\\") (backslash rest text e))
    (λ l. plain (encode c) rest text (lacks-encode 91 c (omega arith) j) (lacks-encode 93 c (omega arith) k) (lacks-encode 92 c (omega arith) l) (lacks-encode 123 c (omega arith) h) (lacks-encode 125 c (omega arith) i) e)))))

pub message_chars : (cs : List ℕ) → read_message_from no_mark (flat_map message_char cs) ≡ Some (encodes cs)
message_chars [] = refl
message_chars (c ∷ cs) = message_read c (flat_map message_char cs) (encodes cs) (message_chars cs)
