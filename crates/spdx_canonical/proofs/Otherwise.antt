-- The canonical text where some of its names are not good: when a strict reader accepts it.
use Rattle.std.proofs.Common.{◌≡◌, ◌↔◌, ℕ, ◌+◌, Bool, true, false, cond, not, ◌||◌, List, [], ◌∷◌, ◌++◌, map, length, drop, Option, Some, None, Result, Ok, Err, refl, sym, ◌∙◌, ap, subst, option_map, lit<, IsTrue, nat_eq, append-nil}
use Rattle.std.specs.Prelude.{option_and_then, codes}
use Rattle.std.specs.List.{list_all, starts_with}
use Rattle.std.specs.Option.{option_map_or}
use Rattle.std.proofs.Math.Seq.{drop-append_seam}
use Rattle.spdx_requirement.specs.Rows.{LicenseRow, ExceptionRow, Rows}
use Rattle.spdx_requirement.specs.Flags.{is_gnu, is_deprecated}
use Rattle.spdx_catalogue.specs.Names.{is_name_byte, is_name, is_operator}
use Rattle.spdx_requirement.specs.Endings.{or_later, without_only}
use Rattle.spdx_catalogue.specs.LookUps as LookUps
use Rattle.spdx_requirement.specs.Items.{LicenseTerm, listed, referred}
use Rattle.spdx_catalogue.specs.RowRules.{is_well_formed}
use Rattle.spdx_lexer.specs.Modes.{strict, lax}
use Rattle.spdx_lexer.specs.Words.{Word, Spdx, LicenseRef, Exception, AdditionRef, Unknown, Plus, OpenParen, CloseParen, With, And, Or, Fault, UnknownTerm}
use Rattle.spdx_lexer.specs.Text.{is_run_byte, name_at, strip}
use Rattle.spdx_lexer.specs.Lexeme.{first_of, name_behind, names_behind, reference, lexeme}
use Rattle.spdx_lexer.specs.Groups.{Found, license_reference, addition_reference}
use Rattle.spdx_requirement.specs.Texts.{reference_text}
use Rattle.spdx_parser.specs.Tree.{Tree}
use Rattle.spdx_parser.specs.Grammar.{may_stand}
use Rattle.spdx_parser.proofs.Threaded.{LicenseOf, plain, marked, named}
use Rattle.spdx_canonical.proofs.Lexed.{lexeme_none}
use Rattle.spdx_canonical.specs.Canonical.{written_name, plus_follows, text_behind, canonical_text, words_by}
use Rattle.spdx_canonical.proofs.Parts.{is_spdx}
use Rattle.spdx_canonical.specs.Law.{EachName, is_good, IsReferenceName, tree_by, Accepts}
use Rattle.spdx_canonical.proofs.Known.{license_named, license_itself}
use Rattle.spdx_canonical.proofs.Neighbours.{takes_license, is_with, AreApart, IsReference, AreRead, is_gnu_word, MayStand, apart, stand}
use Rattle.spdx_canonical.proofs.Terms.{Stops, front_whole, all_run, first_of_name, bytes_of_name, some_length, says, reads, reads_spaced, skips, IsTerm, term_says, term_faults, no_sign, no_operator, no_row, license_term, exception_term, license_ref_term, addition_ref_term}
use Rattle.spdx_canonical.proofs.Cuts.{strip_is, all_after}
use Rattle.spdx_canonical.proofs.Read.{are_read}
use Rattle.spdx_canonical.proofs.Written.{stays, written_is_name, written_no_operator, plain_name, gnu_written}
use Rattle.spdx_canonical.proofs.Says.{stops, opens, EachTerm, spells}
use Rattle.spdx_canonical.proofs.Keeps.{Keeps, EachKept, keeps}
use Rattle.spdx_canonical.proofs.Sound.{undeprecated}

-- ---- a name without a document

-- the parts of a reference into a document, behind the document's prefix
abbrev parts_behind : List ℕ → List ℕ → Option (List ℕ × List ℕ)
parts_behind q rest = option_map (λ (y : List ℕ). (name_at rest, y)) (option_and_then (name_behind q) (strip (codes ":") (drop (length (name_at rest)) rest)))

abbrev parts_after : List ℕ → List ℕ → List ℕ → Option (List ℕ × List ℕ)
parts_after q x rest = option_map (λ (y : List ℕ). (x, y)) (option_and_then (name_behind q) (strip (codes ":") rest))

names_behind_none : (q t : List ℕ) → list_all is_name_byte t ≡ true → names_behind q t ≡ None
names_behind_none q t h = go (strip (codes "DocumentRef-") t) refl
  where
    go : (o : Option (List ℕ)) → strip (codes "DocumentRef-") t ≡ o → option_and_then {U = List ℕ × List ℕ} (parts_behind q) o ≡ None
    go None e = refl
    go (Some rest) e =
        let all : list_all is_name_byte rest ≡ true = all_after is_name_byte (codes "DocumentRef-") rest (ap (list_all is_name_byte) (sym (strip_is (codes "DocumentRef-") t rest e)) ∙ h) in
        let front : name_at rest ≡ rest = ap name_at (sym (append-nil rest)) ∙ front_whole is_name_byte rest [] all tt in
        let none : drop (length rest) rest ≡ [] = ap (drop (length rest)) (sym (append-nil rest)) ∙ drop-append_seam rest [] in
        ap (λ (n : List ℕ). parts_after q n (drop (length n) rest)) front ∙ ap (λ (x : List ℕ). parts_after q rest x) none

-- where the text of a name begins with a prefix
prefixed : (p t : List ℕ) → starts_with nat_eq t p ≡ true → t ≡ p ++ drop (length p) t
prefixed p t h = strip_is p t (drop (length p) t) (ap (λ b. cond b (Some (drop (length p) t)) None) h)

-- where it does not
unprefixed : (p : List ℕ) (word : Option (List ℕ) → List ℕ → Word) (t : List ℕ) → starts_with nat_eq t p ≡ false → reference p word t ≡ None
unprefixed p word t h = ap (λ b. option_map (λ (y : List ℕ). (word None y, length (reference_text p None y))) (option_map name_at (cond b (Some (drop (length p) t)) None))) h

module _ (c : Rows) (well : IsTrue (is_well_formed c)) where
  -- ---- what a strict reader makes of a name

  -- a reference of the name's own bytes
  own_reference : (p t : List ℕ) → list_all is_name_byte t ≡ true → starts_with nat_eq t p ≡ true → LookUps.listed c.licenses t ≡ None → LookUps.listed_exception c.exceptions t ≡ None → IsReference c p None (drop (length p) t)
  own_reference p t a h l e =
      let same = prefixed p t h in
      record {
        name = all_after is_name_byte p (drop (length p) t) (ap (list_all is_name_byte) (sym same) ∙ a);
        document = tt;
        no_license = ap (LookUps.listed c.licenses) (sym same) ∙ l;
        no_exception = ap (LookUps.listed_exception c.exceptions) (sym same) ∙ e;
      }

  pub data NameCase (t : List ℕ) : Type 0 where
    a_license : (row : LicenseRow) → LookUps.listed c.licenses t ≡ Some row → NameCase t
    an_exception : (row : ExceptionRow) → IsTerm c well strict t (Exception row) → NameCase t
    a_reference : IsReferenceName c t → IsTerm c well strict t (LicenseRef None (drop 11 t)) → NameCase t
    an_addition : (y : List ℕ) → IsTerm c well strict t (AdditionRef None y) → NameCase t
    a_stranger : ((rest : List ℕ) → Stops is_run_byte rest → lexeme c strict (t ++ rest) ≡ Err (UnknownTerm, length t)) → NameCase t

  reference_term : (t : List ℕ) → is_name t ≡ true → IsReferenceName c t → IsTerm c well strict t (LicenseRef None (drop 11 t))
  reference_term t n h = subst (λ (x : List ℕ). IsTerm c well strict x (LicenseRef None (drop 11 t))) (sym (prefixed (codes "LicenseRef-") t h.prefix)) (license_ref_term c well strict None (drop 11 t) (own_reference (codes "LicenseRef-") t (bytes_of_name t n) h.prefix h.no_license h.no_exception))

  name_case : (t : List ℕ) → is_name t ≡ true → is_operator t ≡ false → NameCase t
  name_case t n o = on_license (LookUps.listed c.licenses t) refl
    where
      stranger : LookUps.listed c.licenses t ≡ None → LookUps.listed_exception c.exceptions t ≡ None → starts_with nat_eq t (codes "LicenseRef-") ≡ false → starts_with nat_eq t (codes "AdditionRef-") ≡ false → (rest : List ℕ) → Stops is_run_byte rest → lexeme c strict (t ++ rest) ≡ Err (UnknownTerm, length t)
      stranger l e p q rest s =
          let a = bytes_of_name t n in
          let f = first_of_name t n in
          let L = codes "LicenseRef-" in
          let A = codes "AdditionRef-" in
          let license : license_reference t ≡ None =
          ap (λ o. first_of (option_map (λ (x : List ℕ × List ℕ). (LicenseRef (Some x.0) x.1, length (reference_text L (Some x.0) x.1))) o ∷ reference L LicenseRef t ∷ [])) (names_behind_none L t a)
          ∙ ap (λ (x : Found). first_of (x ∷ [])) (unprefixed L LicenseRef t p) in
          let addition : addition_reference t ≡ None =
          ap (λ o. first_of (option_map (λ (x : List ℕ × List ℕ). (AdditionRef (Some x.0) x.1, length (reference_text A (Some x.0) x.1))) o ∷ reference A AdditionRef t ∷ [])) (names_behind_none A t a)
          ∙ ap (λ (x : Found). first_of (x ∷ [])) (unprefixed A AdditionRef t q) in
          lexeme_none c strict (t ++ rest) (no_sign c well strict t rest f) t (front_whole is_run_byte t rest (all_run t a) s) (some_length t f) (no_row c well strict t (no_operator c well strict t o) l e)
          (ap (λ (x : Found). first_of (x ∷ addition_reference t ∷ [])) license ∙ ap (λ (x : Found). first_of (x ∷ [])) addition) refl

      on_addition : LookUps.listed c.licenses t ≡ None → LookUps.listed_exception c.exceptions t ≡ None → starts_with nat_eq t (codes "LicenseRef-") ≡ false → (b : Bool) → starts_with nat_eq t (codes "AdditionRef-") ≡ b → NameCase t
      on_addition l e p true q = let A = codes "AdditionRef-" in an_addition (drop 12 t) (subst (λ (x : List ℕ). IsTerm c well strict x (AdditionRef None (drop 12 t))) (sym (prefixed A t q)) (addition_ref_term c well strict None (drop 12 t) (own_reference A t (bytes_of_name t n) q l e)))
      on_addition l e p false q = a_stranger (stranger l e p q)

      on_reference : LookUps.listed c.licenses t ≡ None → LookUps.listed_exception c.exceptions t ≡ None → (b : Bool) → starts_with nat_eq t (codes "LicenseRef-") ≡ b → NameCase t
      on_reference l e true p = let h : IsReferenceName c t = record { no_license = l; no_exception = e; prefix = p } in a_reference h (reference_term t n h)
      on_reference l e false p = on_addition l e p (starts_with nat_eq t (codes "AdditionRef-")) refl

      on_exception : LookUps.listed c.licenses t ≡ None → (o : Option ExceptionRow) → LookUps.listed_exception c.exceptions t ≡ o → NameCase t
      on_exception l (Some row) e = an_exception row (exception_term c well strict t row l e)
      on_exception l None e = on_reference l e (starts_with nat_eq t (codes "LicenseRef-")) refl

      on_license : (o : Option LicenseRow) → LookUps.listed c.licenses t ≡ o → NameCase t
      on_license (Some row) e = a_license row e
      on_license None e = on_exception e (LookUps.listed_exception c.exceptions t) refl

  -- ---- a strict reader that accepts

  abbrev Fits : List ℕ → Type 0
  Fits name = is_good c name ≡ false → IsReferenceName c name

  record Head (w : Word) (xs : List (Result Word Fault)) (vs : List Word) : Type 0 where
    rest : List Word
    is : vs ≡ w ∷ rest
    next : xs ≡ map Ok rest

  head : (w : Word) (xs : List (Result Word Fault)) (vs : List Word) → Ok w ∷ xs ≡ map Ok vs → Head w xs vs
  head w xs [] e = absurd cc
  head w xs (v ∷ vs) e =
      let same : w ≡ v = cc in
      let more : xs ≡ map Ok vs = cc in
      record { rest = vs; is = ap (λ (x : Word). x ∷ vs) (sym same); next = more }

  no_head : (x : Fault) (vs : List Word) → (let xs : List (Result Word Fault) = Err x ∷ [] in xs) ≡ map Ok vs → ⊥
  no_head x [] e = absurd cc
  no_head x (v ∷ vs) e = absurd cc

  stand_behind : (w : Word) (ws : List Word) → MayStand strict (w ∷ ws) → MayStand strict ws
  stand_behind (Spdx r) ws h = h.1
  stand_behind _ ws h = h

  -- what is known of the rest of the words, behind w
  abbrev Behind : Word → List Word → Type 0
  Behind w ws = (last : Word) → is_with w ≡ is_with last → (vs : List Word) (at : ℕ) → says c well strict at (text_behind (is_gnu_word w) ws) ≡ map Ok vs → AreApart last vs → MayStand strict vs → EachName Fits ws

  -- one word v is said in the place of w
  step : (w v : Word) (ws : List Word) → is_with w ≡ is_with v → Behind w ws → (last : Word) (vs : List Word) (at : ℕ) → Ok v ∷ says c well strict at (text_behind (is_gnu_word w) ws) ≡ map Ok vs → AreApart last vs → MayStand strict vs → EachName Fits ws
  step w v ws k b last vs at e a m =
      let h = head v (says c well strict at (text_behind (is_gnu_word w) ws)) vs e in
      b v k h.rest at h.next (subst (AreApart last) h.is a).1 (stand_behind v h.rest (subst (MayStand strict) h.is m))

  no_with : (last : Word) → takes_license last ≡ true → is_with last ≡ true → ⊥
  no_with OpenParen h k = absurd cc
  no_with And h k = absurd cc
  no_with Or h k = absurd cc
  no_with _ h k = absurd cc

  with_follows : (last : Word) → is_spdx last ≡ true → is_with last ≡ false
  with_follows (Spdx r) h = refl
  with_follows _ h = absurd cc

  fits_good : (t : List ℕ) → IsTrue (is_good c t) → Fits t
  fits_good t g f = absurd (let z : true ≡ false = sym g ∙ f in cc)

  stands_good : (t : List ℕ) (row : LicenseRow) → LookUps.listed c.licenses t ≡ Some row → may_stand strict row ≡ true → IsTrue (is_good c t)
  stands_good t row e h = ap (λ (o : Option LicenseRow). option_map_or (λ (r : LicenseRow). not (is_deprecated r.flags)) o false) e ∙ strictly (not (is_deprecated row.flags)) h
    where
      strictly : (b : Bool) → (b || strict.allow_deprecated) ≡ true → b ≡ true
      strictly true h = refl
      strictly false h = h

  -- a licence, in whose place something is said
  license_goes : (r : LicenseRow) (ws : List Word) → LookUps.listed c.licenses r.name ≡ Some r → AreApart (Spdx r) ws → Behind (Spdx r) ws → (last other : Word) → takes_license last ≡ true → is_with last ≡ is_with other → (vs : List Word) (at : ℕ) → says c well strict at (text_behind false (Spdx r ∷ ws)) ≡ map Ok vs → AreApart other vs → MayStand strict vs → EachName Fits (Spdx r ∷ ws)
  license_goes r ws d a b last other k w vs at e x m = each (name_case t (written_is_name c well p r d) (written_no_operator c well p r d))
    where
      p : Bool
      p = plus_follows ws

      t : List ℕ
      t = written_name (plus_follows ws) r

      rest : List ℕ
      rest = text_behind (is_gnu r.flags) ws

      place : ℕ
      place = (at + 0) + length t

      spoken : (v : Word) → IsTerm c well strict t v → Ok v ∷ says c well strict place rest ≡ map Ok vs
      spoken v term = sym (term_says c well strict at t rest v term.first (term.is rest (stops (Spdx r) ws refl a))) ∙ e

      heads : (v : Word) → IsTerm c well strict t v → Head v (says c well strict place rest) vs
      heads v term = head v (says c well strict place rest) vs (spoken v term)

      goes : (v : Word) → is_with v ≡ false → IsTerm c well strict t v → EachName Fits ws
      goes v n term = step (Spdx r) v ws (sym n) b other vs place (spoken v term) x m

      each : NameCase t → EachName Fits (Spdx r ∷ ws)
      each (a_license row l) =
          let term = license_term c well strict t row l in
          let may : MayStand strict (Spdx row ∷ (heads (Spdx row) term).rest) = subst (MayStand strict) (heads (Spdx row) term).is m in
          (fits_good t (stands_good t row l may.0), goes (Spdx row) refl term)
      each (a_reference h term) = ((λ _. h), goes (LicenseRef None (drop 11 t)) refl term)
      each (an_exception row term) =
          let follows : AreApart other (Exception row ∷ (heads (Exception row) term).rest) = subst (AreApart other) (heads (Exception row) term).is x in
          absurd (no_with last k (w ∙ follows.0))
      each (an_addition y term) =
          let follows : AreApart other (AdditionRef None y ∷ (heads (AdditionRef None y) term).rest) = subst (AreApart other) (heads (AdditionRef None y) term).is x in
          absurd (no_with last k (w ∙ follows.0))
      each (a_stranger f) =
          absurd (no_head UnknownTerm vs (sym (term_faults c well strict at t rest UnknownTerm (length t) (first_of_name t (written_is_name c well p r d)) (f rest (stops (Spdx r) ws refl a))) ∙ e))

  told : (last : Word) (ws : List Word) → AreApart last ws → AreRead c ws → Behind last ws
  told last [] a d = λ other w vs at e x m. tt
  told last (Plus ∷ ws) a d = λ other w vs at e x m. plus_case other w vs at x m (told Plus ws a.1 d.1) (is_gnu_word last) e
    where
      plus_case : (other : Word) → is_with last ≡ is_with other → (vs : List Word) (at : ℕ) → AreApart other vs → MayStand strict vs → Behind Plus ws → (g : Bool) → says c well strict at (text_behind g (Plus ∷ ws)) ≡ map Ok vs → EachName Fits ws
      plus_case other w vs at x m b true e = b other (sym (with_follows last a.0) ∙ w) vs at e x m
      plus_case other w vs at x m b false e = step Plus Plus ws refl b other vs ((at + 0) + 1) (sym (reads c well strict at 43 [] (text_behind false ws) Plus (lit< tt) refl refl) ∙ e) x m
  told last (OpenParen ∷ ws) a d = λ other w vs at e x m. step OpenParen OpenParen ws refl (told OpenParen ws a.1 d.1) other vs ((at + 0) + 1) (sym (reads c well strict at 40 [] (text_behind false ws) OpenParen (lit< tt) refl refl) ∙ e) x m
  told last (CloseParen ∷ ws) a d = λ other w vs at e x m. step CloseParen CloseParen ws refl (told CloseParen ws a.1 d.1) other vs ((at + 0) + 1) (sym (reads c well strict at 41 [] (text_behind false ws) CloseParen (lit< tt) refl refl) ∙ e) x m
  told last (With ∷ ws) a d = λ other w vs at e x m. step With With ws refl (told With ws a.1 d.1) other vs (((at + 1) + 4) + 1)
      (ap (λ (xs : List (Result Word Fault)). Ok With ∷ xs) (sym (skips c well strict ((at + 1) + 4) (text_behind false ws) (opens c well strict With ws refl a.1 d.1))) ∙ sym (reads_spaced c well strict at 87 (73 ∷ 84 ∷ 72 ∷ []) (32 ∷ text_behind false ws) With (lit< tt) refl refl refl) ∙ e) x m
  told last (And ∷ ws) a d = λ other w vs at e x m. step And And ws refl (told And ws a.1 d.1) other vs (((at + 1) + 3) + 1)
      (ap (λ (xs : List (Result Word Fault)). Ok And ∷ xs) (sym (skips c well strict ((at + 1) + 3) (text_behind false ws) (opens c well strict And ws refl a.1 d.1))) ∙ sym (reads_spaced c well strict at 65 (78 ∷ 68 ∷ []) (32 ∷ text_behind false ws) And (lit< tt) refl refl refl) ∙ e) x m
  told last (Or ∷ ws) a d = λ other w vs at e x m. step Or Or ws refl (told Or ws a.1 d.1) other vs (((at + 1) + 2) + 1)
      (ap (λ (xs : List (Result Word Fault)). Ok Or ∷ xs) (sym (skips c well strict ((at + 1) + 2) (text_behind false ws) (opens c well strict Or ws refl a.1 d.1))) ∙ sym (reads_spaced c well strict at 79 (82 ∷ []) (32 ∷ text_behind false ws) Or (lit< tt) refl refl refl) ∙ e) x m
  told last (Spdx r ∷ ws) a d = λ other w vs at e x m. license_goes r ws d.0 a.1 (told (Spdx r) ws a.1 d.1) last other a.0 w vs at e x m
  told last (LicenseRef i y ∷ ws) a d = λ other w vs at e x m.
      let t = reference_text (codes "LicenseRef-") i y in
      let term = license_ref_term c well strict i y d.0 in
      step (LicenseRef i y) (LicenseRef i y) ws refl (told (LicenseRef i y) ws a.1 d.1) other vs ((at + 0) + length t) (sym (term_says c well strict at t (text_behind false ws) (LicenseRef i y) term.first (term.is (text_behind false ws) (stops (LicenseRef i y) ws refl a.1))) ∙ e) x m
  told last (Exception r ∷ ws) a d = λ other w vs at e x m.
      let t = r.name in
      let term = exception_term c well strict t r d.0.0 d.0.1 in
      step (Exception r) (Exception r) ws refl (told (Exception r) ws a.1 d.1) other vs ((at + 0) + length t) (sym (term_says c well strict at t (text_behind false ws) (Exception r) term.first (term.is (text_behind false ws) (stops (Exception r) ws refl a.1))) ∙ e) x m
  told last (AdditionRef i y ∷ ws) a d = λ other w vs at e x m.
      let t = reference_text (codes "AdditionRef-") i y in
      let term = addition_ref_term c well strict i y d.0 in
      step (AdditionRef i y) (AdditionRef i y) ws refl (told (AdditionRef i y) ws a.1 d.1) other vs ((at + 0) + length t) (sym (term_says c well strict at t (text_behind false ws) (AdditionRef i y) term.first (term.is (text_behind false ws) (stops (AdditionRef i y) ws refl a.1))) ∙ e) x m
  told last (Unknown i ∷ ws) a d = absurd d.0

  -- ---- the words that a strict reader finds, where each name that is not good reads as a reference

  abbrev word_by : Option LicenseRow → List ℕ → Word
  word_by (Some row) t = Spdx row
  word_by None t = LicenseRef None (drop 11 t)

  abbrev license_by : Option LicenseRow → List ℕ → LicenseTerm
  license_by (Some row) t = listed row false
  license_by None t = referred (record { document = None; name = drop 11 t })

  abbrev strict_word : Bool → LicenseRow → Word
  strict_word p r = word_by (LookUps.listed c.licenses (written_name p r)) (written_name p r)

  abbrev strict_license : LicenseTerm → LicenseTerm
  strict_license (listed r true) = listed r true
  strict_license (listed r false) = license_by (LookUps.listed c.licenses (written_name false r)) (written_name false r)
  strict_license (referred x) = referred x

  fits_none : (t : List ℕ) → LookUps.listed c.licenses t ≡ None → Fits t → IsReferenceName c t
  fits_none t e f = f (ap (λ (o : Option LicenseRow). option_map_or (λ (r : LicenseRow). not (is_deprecated r.flags)) o false) e)

  fits_some : (t : List ℕ) (row : LicenseRow) → LookUps.listed c.licenses t ≡ Some row → Fits t → IsTrue (is_good c t)
  fits_some t row e f = each (is_good c t) refl
    where
      each : (b : Bool) → is_good c t ≡ b → is_good c t ≡ true
      each true g = g
      each false g = absurd (let z : Some row ≡ None = sym e ∙ (f g).no_license in cc)

  reads_as : (t : List ℕ) → is_name t ≡ true → Fits t → IsTerm c well strict t (word_by (LookUps.listed c.licenses t) t)
  reads_as t n f = go (LookUps.listed c.licenses t) refl
    where
      go : (o : Option LicenseRow) → LookUps.listed c.licenses t ≡ o → IsTerm c well strict t (word_by (LookUps.listed c.licenses t) t)
      go (Some row) e = subst (λ (o : Option LicenseRow). IsTerm c well strict t (word_by o t)) (sym e) (license_term c well strict t row e)
      go None e = subst (λ (o : Option LicenseRow). IsTerm c well strict t (word_by o t)) (sym e) (reference_term t n (fits_none t e f))

  strict_terms : (ws : List Word) → AreRead c ws → EachName Fits ws → EachTerm c well strict strict_word ws
  strict_terms [] d l = tt
  strict_terms (Spdx r ∷ ws) d l = let p = plus_follows ws in (reads_as (written_name p r) (written_is_name c well p r d.0) l.0, strict_terms ws d.1 l.1)
  strict_terms (LicenseRef x y ∷ ws) d l = strict_terms ws d.1 l
  strict_terms (Exception r ∷ ws) d l = strict_terms ws d.1 l
  strict_terms (AdditionRef x y ∷ ws) d l = strict_terms ws d.1 l
  strict_terms (Unknown x ∷ ws) d l = strict_terms ws d.1 l
  strict_terms (Plus ∷ ws) d l = strict_terms ws d.1 l
  strict_terms (OpenParen ∷ ws) d l = strict_terms ws d.1 l
  strict_terms (CloseParen ∷ ws) d l = strict_terms ws d.1 l
  strict_terms (With ∷ ws) d l = strict_terms ws d.1 l
  strict_terms (And ∷ ws) d l = strict_terms ws d.1 l
  strict_terms (Or ∷ ws) d l = strict_terms ws d.1 l

  -- ---- and their tree

  bare_kept : (t : List ℕ) → Fits t → (rest : List Word) → LicenseOf c strict (word_by (LookUps.listed c.licenses t) t ∷ rest) (license_by (LookUps.listed c.licenses t) t) rest
  bare_kept t f rest = go (LookUps.listed c.licenses t) refl
    where
      go : (o : Option LicenseRow) → LookUps.listed c.licenses t ≡ o → LicenseOf c strict (word_by (LookUps.listed c.licenses t) t ∷ rest) (license_by (LookUps.listed c.licenses t) t) rest
      go (Some row) e = subst (λ (o : Option LicenseRow). LicenseOf c strict (word_by o t ∷ rest) (license_by o t) rest) (sym e) (plain (undeprecated c well t row e (fits_some t row e f)))
      go None e = subst (λ (o : Option LicenseRow). LicenseOf c strict (word_by o t ∷ rest) (license_by o t) rest) (sym e) named

  strict_kept : (p : Bool) (r : LicenseRow) → LookUps.listed c.licenses r.name ≡ Some r → Fits (written_name p r) → Keeps c lax strict strict_word strict_license (λ _. refl) p r
  strict_kept false r d f = bare_kept (written_name false r) f
  strict_kept true r d f =
      let t = written_name true r in
      record {
        marks = λ e rest.
            let own : LookUps.listed c.licenses t ≡ Some r = ap (LookUps.listed c.licenses) (plain_name c well true r e) ∙ d in
            subst (λ (o : Option LicenseRow). LicenseOf c strict (word_by o t ∷ Plus ∷ rest) (listed r true) rest) (sym own) (marked (undeprecated c well t r own (fits_some t r own f)) e);
        names = λ e next l rest.
            let joined : LookUps.listed c.licenses t ≡ Some next = ap (LookUps.listed c.licenses) (gnu_written c well true r e) ∙ l in
            let same = (license_named c well (without_only r.name ++ or_later) next l).same in
            let again : LookUps.listed c.licenses (written_name false next) ≡ Some next = ap (LookUps.listed c.licenses) (stays (is_gnu next.flags) true r.name next.name same) ∙ license_itself c well (without_only r.name ++ or_later) next l in
            subst (λ (o : Option LicenseRow). LicenseOf c strict (word_by o t ∷ rest) (strict_license (listed next false)) rest) (sym joined)
            (subst (λ (o : Option LicenseRow). LicenseOf c strict (Spdx next ∷ rest) (license_by o (written_name false next)) rest) (sym again) (plain (undeprecated c well t next joined (fits_some t next joined f))));
      }

  all_kept : (ws : List Word) → AreRead c ws → EachName Fits ws → EachKept c lax strict strict_word strict_license (λ _. refl) ws
  all_kept [] d f = tt
  all_kept (Spdx r ∷ ws) d f = (strict_kept (plus_follows ws) r d.0 f.0, all_kept ws d.1 f.1)
  all_kept (LicenseRef x y ∷ ws) d f = all_kept ws d.1 f
  all_kept (Exception r ∷ ws) d f = all_kept ws d.1 f
  all_kept (AdditionRef x y ∷ ws) d f = all_kept ws d.1 f
  all_kept (Unknown x ∷ ws) d f = all_kept ws d.1 f
  all_kept (Plus ∷ ws) d f = all_kept ws d.1 f
  all_kept (OpenParen ∷ ws) d f = all_kept ws d.1 f
  all_kept (CloseParen ∷ ws) d f = all_kept ws d.1 f
  all_kept (With ∷ ws) d f = all_kept ws d.1 f
  all_kept (And ∷ ws) d f = all_kept ws d.1 f
  all_kept (Or ∷ ws) d f = all_kept ws d.1 f

  -- ---- the law

  pub otherwise : (text : List ℕ) (ws : List Word) (t : Tree) → Accepts c lax text ws t → ((vs : List Word) × (u : Tree) × Accepts c strict (canonical_text ws) vs u) ↔ EachName Fits ws
  otherwise text ws t s =
      let a = apart c lax ws t s.meant in
      let known = are_read c well lax refl OpenParen ws a 0 text s.read in (
        (λ (vs, u, other). told OpenParen ws a known OpenParen refl vs 0 other.read (apart c strict vs u other.meant) (stand c strict vs u other.meant)),
        (λ fits. (
          words_by strict_word false ws,
          tree_by strict_license t,
          record { read = spells c well strict strict_word OpenParen ws a known (strict_terms ws known fits) 0; meant = keeps c lax strict strict_word strict_license (λ _. refl) ws t s.meant (all_kept ws known fits) },
        )),
      )
