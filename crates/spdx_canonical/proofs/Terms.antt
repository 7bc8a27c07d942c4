-- How a name in the canonical text is read: the text of a name, before what ends a run, is one word.
use Rattle.std.proofs.Common.{◌≡◌, ℕ, suc, ◌+◌, ◌<◌, ◌≤◌, Bool, true, false, cond, not, ◌&&◌, ◌||◌, ◌==◌, List, [], ◌∷◌, ◌++◌, map, length, take, drop, Option, Some, None, Result, Ok, Err, refl, sym, ◌∙◌, ap, subst, arith, option_map, bytes_eq, ne_eqb, append-nil, IsTrue}
use Rattle.std.specs.Prelude.{option_and_then, codes, take_while}
use Rattle.std.specs.List.{list_all, prefix_len}
use Rattle.std.specs.Char.{is_whitespace}
use Rattle.std.proofs.lemmas.Bool.Decides.{nat_tests}
use Rattle.std.proofs.lemmas.List.Sums.{take_while-cons}
use Rattle.std.proofs.Math.Seq.{drop-append_seam}
use Rattle.std.proofs.Math.Nat as nat
use Rattle.spdx_requirement.specs.Rows.{LicenseRow, ExceptionRow, Rows}
use Rattle.spdx_catalogue.specs.Names.{is_name_byte, is_name, is_operator}
use Rattle.spdx_catalogue.specs.LookUps.{listed, listed_exception}
use Rattle.spdx_catalogue.specs.RowRules.{is_well_formed}
use Rattle.spdx_lexer.specs.declared.token.ParseMode.{ParseMode}
use Rattle.spdx_lexer.specs.Words.{Word, Spdx, LicenseRef, Exception, AdditionRef, Plus, OpenParen, CloseParen, With, And, Or, Fault, SeparatedPlus, span}
use Rattle.spdx_lexer.specs.Text.{white, is_run_byte, name_at, strip}
use Rattle.spdx_lexer.specs.Lexeme.{first_of, sign, whole, operator, name_behind, names_behind, reference, lexeme}
use Rattle.spdx_lexer.specs.Groups.{Found, addition_reference, exact, referred}
use Rattle.spdx_lexer.proofs.Allowed.{sign_of}
use Rattle.spdx_requirement.specs.Texts.{reference_text}
use Rattle.spdx_lexer.specs.Reading.{said, reading}
use Rattle.spdx_canonical.proofs.Lexed.{and_both}
use Rattle.spdx_lexer.proofs.White.{white_space, white_none, white_nil}
use Rattle.spdx_lexer.proofs.Unfold.{then, behind, reading_is}
use Rattle.spdx_canonical.proofs.Lexed.{lexeme_exact, lexeme_referred}
use Rattle.spdx_canonical.proofs.Known.{license_named, exception_named}
use Rattle.spdx_canonical.proofs.Neighbours.{IsReference}

-- ---- a front of bytes that pass a test

abbrev pub Stops : (ℕ → Bool) → List ℕ → Type 0
Stops p [] = Unit {0}
Stops p (b ∷ text) = p b ≡ false

pub front_whole : (p : ℕ → Bool) (t rest : List ℕ) → list_all p t ≡ true → Stops p rest → take_while p (t ++ rest) ≡ t
front_whole p [] [] a s = refl
front_whole p [] (b ∷ rest) a s = ap (λ t. take (cond t (1 + prefix_len p rest) 0) (b ∷ rest)) s
front_whole p (x ∷ t) rest a s =
    let both = and_both (p x) (list_all p t) a in
    take_while-cons p x (t ++ rest) ∙ ap (λ b. cond b (x ∷ take_while p (t ++ rest)) []) both.0 ∙ ap (λ (ys : List ℕ). x ∷ ys) (front_whole p t rest both.1 s)

pub all_append : (p : ℕ → Bool) (xs ys : List ℕ) → list_all p xs ≡ true → list_all p ys ≡ true → list_all p (xs ++ ys) ≡ true
all_append p [] ys h k = k
all_append p (x ∷ xs) ys h k =
    let both = and_both (p x) (list_all p xs) h in
    ap (λ b. b && list_all p (xs ++ ys)) both.0 ∙ all_append p xs ys both.1 k

-- ---- the bytes of a name

name_kind : (b : ℕ) → is_name_byte b ≡ true → (45 ≤ b) × (b ≤ 122) × (b ≡ 47 → ⊥)
name_kind b h = (grind (arith, nat_tests), grind (arith, nat_tests), λ e. absurd (let g = subst (λ n. is_name_byte n ≡ true) e h in cc))

name_sign : (m : ParseMode) (b : ℕ) → is_name_byte b ≡ true → sign_of m b ≡ None
name_sign m b h =
    let k = name_kind b h in
    ap (λ t. cond t (Some Plus) (cond (b == 40) (Some OpenParen) (cond (b == 41) (Some CloseParen) (cond (b == 47 && m.allow_slash_as_or_operator) (Some Or) None)))) (ne_eqb b 43 (λ e. absurd (omega arith)))
    ∙ ap (λ t. cond t (Some OpenParen) (cond (b == 41) (Some CloseParen) (cond (b == 47 && m.allow_slash_as_or_operator) (Some Or) None))) (ne_eqb b 40 (λ e. absurd (omega arith)))
    ∙ ap (λ t. cond t (Some CloseParen) (cond (b == 47 && m.allow_slash_as_or_operator) (Some Or) None)) (ne_eqb b 41 (λ e. absurd (omega arith)))
    ∙ ap (λ t. cond (t && m.allow_slash_as_or_operator) (Some Or) None) (ne_eqb b 47 k.2)

name_low : (b : ℕ) → is_name_byte b ≡ true → b < 128
name_low b h = grind (arith, nat_tests)

name_black : (b : ℕ) → is_name_byte b ≡ true → is_whitespace b ≡ false
name_black b h =
    let k = name_kind b h in
    let low : 45 ≤ b = k.0 in
    let high : b ≤ 122 = k.1 in
    grind (arith, nat_tests)

name_other : (b : ℕ) → is_name_byte b ≡ true → (b == 43) ≡ false
name_other b h = let k = name_kind b h in ne_eqb b 43 (λ e. absurd (omega arith))

name_run : (b : ℕ) → is_name_byte b ≡ true → is_run_byte b ≡ true
name_run b h = ap (λ t. t || b == 58) h

pub all_run : (t : List ℕ) → list_all is_name_byte t ≡ true → list_all is_run_byte t ≡ true
all_run [] h = refl
all_run (b ∷ t) h =
    let both = and_both (is_name_byte b) (list_all is_name_byte t) h in
    ap (λ x. x && list_all is_run_byte t) (name_run b both.0) ∙ all_run t both.1

abbrev pub FirstName : List ℕ → Type 0
FirstName [] = ⊥
FirstName (b ∷ text) = is_name_byte b ≡ true

pub first_of_name : (t : List ℕ) → is_name t ≡ true → FirstName t
first_of_name [] h = absurd cc
first_of_name (b ∷ t) h = (and_both (is_name_byte b) (list_all is_name_byte t) (and_both (not (length (b ∷ t) == 0)) (list_all is_name_byte (b ∷ t)) h).1).0

pub bytes_of_name : (t : List ℕ) → is_name t ≡ true → list_all is_name_byte t ≡ true
bytes_of_name t h = (and_both (not (length t == 0)) (list_all is_name_byte t) h).1

pub some_length : (t : List ℕ) → FirstName t → 0 < length t
some_length [] f = absurd f
some_length (b ∷ t) f = omega arith

-- ---- the next word

module _ (c : Rows) (well : IsTrue (is_well_formed c)) (m : ParseMode) where
  abbrev pub says : ℕ → List ℕ → List (Result Word Fault)
  says at text = map said (reading c m at text)

  -- of a text that begins with no white space
  pub reads : (at b : ℕ) (t rest : List ℕ) (w : Word) → b < 128 → is_whitespace b ≡ false → lexeme c m (b ∷ (t ++ rest)) ≡ Ok (w, suc (length t)) → says at (b ∷ (t ++ rest)) ≡ Ok w ∷ says ((at + 0) + suc (length t)) rest
  reads at b t rest w low black e =
      ap (map said) (reading_is c well m at (b ∷ (t ++ rest)) ∙ ap (λ n. behind c m (reading c m) at n (drop n (b ∷ (t ++ rest)))) (white_none b (t ++ rest) low black) ∙ ap (then (reading c m) (at + 0) (b ∷ (t ++ rest))) e)
      ∙ ap (λ (r : List ℕ). let xs : List (Result Word Fault) = Ok w ∷ says ((at + 0) + suc (length t)) r in xs) (drop-append_seam t rest)

  -- of one that begins with a space
  white_one : (b : ℕ) (text : List ℕ) → b < 128 → is_whitespace b ≡ false → white (32 ∷ b ∷ text) ≡ 1
  white_one b text low black = white_space (b ∷ text) ∙ ap (λ n. 1 + n) (white_none b text low black)

  pub reads_spaced : (at b : ℕ) (t rest : List ℕ) (w : Word) → b < 128 → is_whitespace b ≡ false → (b == 43) ≡ false → lexeme c m (b ∷ (t ++ rest)) ≡ Ok (w, suc (length t)) → says at (32 ∷ b ∷ (t ++ rest)) ≡ Ok w ∷ says ((at + 1) + suc (length t)) rest
  reads_spaced at b t rest w low black other e =
      ap (map said) (reading_is c well m at (32 ∷ b ∷ (t ++ rest)) ∙ ap (λ n. behind c m (reading c m) at n (drop n (32 ∷ b ∷ (t ++ rest)))) (white_one b (t ++ rest) low black)
      ∙ ap (λ x. cond x (Err (SeparatedPlus, span at 1) ∷ []) (then (reading c m) (at + 1) (b ∷ (t ++ rest)) (lexeme c m (b ∷ (t ++ rest))))) other
      ∙ ap (then (reading c m) (at + 1) (b ∷ (t ++ rest))) e)
      ∙ ap (λ (r : List ℕ). let xs : List (Result Word Fault) = Ok w ∷ says ((at + 1) + suc (length t)) r in xs) (drop-append_seam t rest)

  -- a fault in its place
  faults : (at b : ℕ) (text : List ℕ) (x : Fault) (n : ℕ) → b < 128 → is_whitespace b ≡ false → lexeme c m (b ∷ text) ≡ Err (x, n) → says at (b ∷ text) ≡ Err x ∷ []
  faults at b text x n low black e =
      ap (map said) (reading_is c well m at (b ∷ text) ∙ ap (λ n. behind c m (reading c m) at n (drop n (b ∷ text))) (white_none b text low black) ∙ ap (then (reading c m) (at + 0) (b ∷ text)) e)

  -- a space before what is no plus
  abbrev pub Opens : List ℕ → Type 0
  Opens [] = Unit {0}
  Opens (b ∷ text) = (b < 128) × (is_whitespace b ≡ false) × ((b == 43) ≡ false)

  pub says_nil : (at : ℕ) → says at [] ≡ []
  says_nil at = ap (map said) (reading_is c well m at [] ∙ ap (λ n. behind c m (reading c m) at n (drop n [])) white_nil)

  pub skips : (at : ℕ) (rest : List ℕ) → Opens rest → says at (32 ∷ rest) ≡ says (at + 1) rest
  skips at [] h = ap (map said) (reading_is c well m at (32 ∷ []) ∙ ap (λ n. behind c m (reading c m) at n (drop n (32 ∷ []))) (white_space [] ∙ ap (λ n. 1 + n) white_nil)) ∙ sym (says_nil (at + 1))
  skips at (b ∷ text) h =
      ap (map said) (reading_is c well m at (32 ∷ b ∷ text) ∙ ap (λ n. behind c m (reading c m) at n (drop n (32 ∷ b ∷ text))) (white_one b text h.0 h.1)
      ∙ ap (λ x. cond x (Err (SeparatedPlus, span at 1) ∷ []) (then (reading c m) (at + 1) (b ∷ text) (lexeme c m (b ∷ text)))) h.2
      ∙ ap (λ n. then (reading c m) n (b ∷ text) (lexeme c m (b ∷ text))) (sym (nat.add-zero (at + 1)))
      ∙ sym (reading_is c well m (at + 1) (b ∷ text) ∙ ap (λ n. behind c m (reading c m) (at + 1) n (drop n (b ∷ text))) (white_none b text h.0 h.1)))

  -- ---- the text of a name

  -- the text t is the word w, before what ends a run
  pub record IsTerm (t : List ℕ) (w : Word) : Type 0 where
    pub first : FirstName t
    pub is : (rest : List ℕ) → Stops is_run_byte rest → lexeme c m (t ++ rest) ≡ Ok (w, length t)

  pub term_says : (at : ℕ) (t rest : List ℕ) (w : Word) → FirstName t → lexeme c m (t ++ rest) ≡ Ok (w, length t) → says at (t ++ rest) ≡ Ok w ∷ says ((at + 0) + length t) rest
  term_says at [] rest w f e = absurd f
  term_says at (b ∷ t) rest w f e = reads at b t rest w (name_low b f) (name_black b f) e

  pub term_faults : (at : ℕ) (t rest : List ℕ) (x : Fault) (n : ℕ) → FirstName t → lexeme c m (t ++ rest) ≡ Err (x, n) → says at (t ++ rest) ≡ Err x ∷ []
  term_faults at [] rest x n f e = absurd f
  term_faults at (b ∷ t) rest x n f e = faults at b (t ++ rest) x n (name_low b f) (name_black b f) e

  pub opens_name : (t rest : List ℕ) → FirstName t → Opens (t ++ rest)
  opens_name [] rest f = absurd f
  opens_name (b ∷ t) rest f = (name_low b f, name_black b f, name_other b f)

  pub no_sign : (t rest : List ℕ) → FirstName t → sign m (t ++ rest) ≡ None
  no_sign [] rest f = absurd f
  no_sign (b ∷ t) rest f = ap (option_map (λ (w : Word). (w, 1))) (name_sign m b f)

  exact_term : (t : List ℕ) (w : Word) → FirstName t → list_all is_run_byte t ≡ true → exact c t ≡ Some (w, length t) → IsTerm t w
  exact_term t w f a e = record { first = f; is = λ rest s. lexeme_exact c m (t ++ rest) (no_sign t rest f) t (front_whole is_run_byte t rest a s) (some_length t f) (w, length t) e }

  referred_term : (t : List ℕ) (w : Word) → FirstName t → list_all is_run_byte t ≡ true → exact c t ≡ None → referred t ≡ Some (w, length t) → IsTerm t w
  referred_term t w f a e h = record { first = f; is = λ rest s. lexeme_referred c m (t ++ rest) (no_sign t rest f) t (front_whole is_run_byte t rest a s) (some_length t f) (w, length t) e h }

  neither : (a b : Bool) → (a || b) ≡ false → (a ≡ false) × (b ≡ false)
  neither true b h = absurd cc
  neither false b h = (refl, h)

  pub no_operator : (t : List ℕ) → is_operator t ≡ false → operator t ≡ None
  no_operator t h =
      let n : List ℕ → Bool = bytes_eq t in
      let h1 = neither (n (codes "AND")) (n (codes "and") || (n (codes "OR") || (n (codes "or") || (n (codes "WITH") || n (codes "with"))))) h in
      let h2 = neither (n (codes "and")) (n (codes "OR") || (n (codes "or") || (n (codes "WITH") || n (codes "with")))) h1.1 in
      let h3 = neither (n (codes "OR")) (n (codes "or") || (n (codes "WITH") || n (codes "with"))) h2.1 in
      let h4 = neither (n (codes "or")) (n (codes "WITH") || n (codes "with")) h3.1 in
      let h5 = neither (n (codes "WITH")) (n (codes "with")) h4.1 in
      operators (n (codes "AND")) (n (codes "and")) (n (codes "OR")) (n (codes "or")) (n (codes "WITH")) (n (codes "with")) h1.0 h2.0 h3.0 h4.0 h5.0 h5.1
    where
      operators : (a b d e f g : Bool) → a ≡ false → b ≡ false → d ≡ false → e ≡ false → f ≡ false → g ≡ false → cond (a || b) (Some And) (cond (d || e) (Some Or) (cond (f || g) (Some With) None)) ≡ None
      operators a b d e f g p q r s u v = rw (p, q, r, s, u, v) refl

  pub license_term : (t : List ℕ) (r : LicenseRow) → listed c.licenses t ≡ Some r → IsTerm t (Spdx r)
  license_term t r e =
      let n = license_named c well t r e in
      exact_term t (Spdx r) (first_of_name t n.name) (all_run t (bytes_of_name t n.name))
      (ap (λ o. first_of (whole t o ∷ whole t (option_map Spdx (listed c.licenses t)) ∷ whole t (option_map Exception (listed_exception c.exceptions t)) ∷ [])) (no_operator t n.no_operator)
      ∙ ap (λ o. first_of (whole t (option_map Spdx o) ∷ whole t (option_map Exception (listed_exception c.exceptions t)) ∷ [])) e)

  pub exception_term : (t : List ℕ) (r : ExceptionRow) → listed c.licenses t ≡ None → listed_exception c.exceptions t ≡ Some r → IsTerm t (Exception r)
  exception_term t r o e =
      let n = exception_named c well t r e in
      exact_term t (Exception r) (first_of_name t n.name) (all_run t (bytes_of_name t n.name))
      (ap (λ o. first_of (whole t o ∷ whole t (option_map Spdx (listed c.licenses t)) ∷ whole t (option_map Exception (listed_exception c.exceptions t)) ∷ [])) (no_operator t n.no_operator)
      ∙ ap (λ o. first_of (whole t (option_map Spdx o) ∷ whole t (option_map Exception (listed_exception c.exceptions t)) ∷ [])) o
      ∙ ap (λ o. first_of (whole t (option_map Exception o) ∷ [])) e)

  -- ---- references

  pub name_whole : (y : List ℕ) → list_all is_name_byte y ≡ true → name_at y ≡ y
  name_whole y h = ap name_at (sym (append-nil y)) ∙ front_whole is_name_byte y [] h tt

  names_at : (p q x y : List ℕ) → list_all is_name_byte x ≡ true → names_behind q (reference_text p (Some x) y) ≡ option_map (λ z. (x, z)) (name_behind q (p ++ y))
  names_at p q x y h =
      let rest = x ++ (58 ∷ (p ++ y)) in
      ap (λ (n : List ℕ). option_map (λ z. (n, z)) (option_and_then (name_behind q) (strip (codes ":") (drop (length n) rest)))) (front_whole is_name_byte x (58 ∷ (p ++ y)) h refl)
      ∙ ap (λ (r : List ℕ). option_map (λ z. (x, z)) (option_and_then (name_behind q) (strip (codes ":") r))) (drop-append_seam x (58 ∷ (p ++ y)))

  pub no_row : (t : List ℕ) → operator t ≡ None → listed c.licenses t ≡ None → listed_exception c.exceptions t ≡ None → exact c t ≡ None
  no_row t o l e =
      ap (λ o. first_of (whole t o ∷ whole t (option_map Spdx (listed c.licenses t)) ∷ whole t (option_map Exception (listed_exception c.exceptions t)) ∷ [])) o
      ∙ ap (λ o. first_of (whole t (option_map Spdx o) ∷ whole t (option_map Exception (listed_exception c.exceptions t)) ∷ [])) l
      ∙ ap (λ o. first_of (whole t (option_map Exception o) ∷ [])) e

  pub license_ref_term : (d : Option (List ℕ)) (y : List ℕ) → IsReference c (codes "LicenseRef-") d y → IsTerm (reference_text (codes "LicenseRef-") d y) (LicenseRef d y)
  license_ref_term None y h =
      let p = codes "LicenseRef-" in
      referred_term (reference_text p None y) (LicenseRef None y) refl (all_run y h.name) (no_row (reference_text p None y) refl h.no_license h.no_exception)
      (ap (λ (z : List ℕ). let f : Found = Some (LicenseRef None z, length (reference_text p None z)) in f) (name_whole y h.name))
  license_ref_term (Some x) y h =
      let p = codes "LicenseRef-" in
      let t = reference_text p (Some x) y in
      referred_term t (LicenseRef (Some x) y) refl (all_append is_run_byte x (58 ∷ (p ++ y)) (all_run x h.document) (all_run y h.name)) (no_row t refl h.no_license h.no_exception)
      (ap (λ o. first_of (first_of (option_map (λ (n : List ℕ × List ℕ). (LicenseRef (Some n.0) n.1, length (reference_text p (Some n.0) n.1))) o ∷ reference p LicenseRef t ∷ []) ∷ addition_reference t ∷ [])) (names_at p p x y h.document)
      ∙ ap (λ (z : List ℕ). let f : Found = Some (LicenseRef (Some x) z, length (reference_text p (Some x) z)) in f) (name_whole y h.name))

  pub addition_ref_term : (d : Option (List ℕ)) (y : List ℕ) → IsReference c (codes "AdditionRef-") d y → IsTerm (reference_text (codes "AdditionRef-") d y) (AdditionRef d y)
  addition_ref_term None y h =
      let p = codes "AdditionRef-" in
      referred_term (reference_text p None y) (AdditionRef None y) refl (all_run y h.name) (no_row (reference_text p None y) refl h.no_license h.no_exception)
      (ap (λ (z : List ℕ). let f : Found = Some (AdditionRef None z, length (reference_text p None z)) in f) (name_whole y h.name))
  addition_ref_term (Some x) y h =
      let p = codes "AdditionRef-" in
      let l = codes "LicenseRef-" in
      let t = reference_text p (Some x) y in
      referred_term t (AdditionRef (Some x) y) refl (all_append is_run_byte x (58 ∷ (p ++ y)) (all_run x h.document) (all_run y h.name)) (no_row t refl h.no_license h.no_exception)
      (ap (λ o. first_of (first_of (option_map (λ (n : List ℕ × List ℕ). (LicenseRef (Some n.0) n.1, length (reference_text l (Some n.0) n.1))) o ∷ reference l LicenseRef t ∷ []) ∷ addition_reference t ∷ [])) (names_at p l x y h.document)
      ∙ ap (λ o. first_of (first_of (option_map (λ (n : List ℕ × List ℕ). (AdditionRef (Some n.0) n.1, length (reference_text p (Some n.0) n.1))) o ∷ reference p AdditionRef t ∷ []) ∷ [])) (names_at p p x y h.document)
      ∙ ap (λ (z : List ℕ). let f : Found = Some (AdditionRef (Some x) z, length (reference_text p (Some x) z)) in f) (name_whole y h.name))
