-- What holds of each word that a rule finds.
use Rattle.std.proofs.Common.{◌≡◌, ℕ, ◌<◌, Bool, true, false, List, [], ◌∷◌, Option, Some, None, refl, sym, subst, arith, IfSome, IfOk, option_map}
use Rattle.std.specs.Prelude.{ok_or, codes}
use Rattle.spdx_requirement.specs.Rows.{Rows, LicenseRow}
use Rattle.spdx_catalogue.specs.RowRules.{is_well_formed}
use Rattle.spdx_catalogue.specs.LookUps.{listed, listed_exception, listed_caseless, listed_exception_caseless, imprecise_license}
use Rattle.spdx_catalogue.proofs.Listed.{imprecise_is_license}
use Rattle.spdx_lexer.specs.declared.token.ParseMode.{ParseMode}
use Rattle.spdx_lexer.specs.Words.{Word, Spdx, Exception, LicenseRef, AdditionRef, Unknown}
use Rattle.spdx_lexer.specs.Text.{run_at}
use Rattle.spdx_lexer.specs.Lexeme.{first_of, sign, whole, operator, name_behind, names_behind, reference, document_reference, rules, lexeme_of, lexeme}
use Rattle.spdx_lexer.specs.Groups.{Found, license_reference, addition_reference, exact, referred, caseless, by_run, unknown, imprecise, grouped}
use Rattle.spdx_lexer.proofs.Allowed.{if_allowed, sign_of}
use Rattle.spdx_lexer.proofs.Table.{rules_grouped}

abbrev pub AllFound : (Word × ℕ → Type 0) → List Found → Type 0
AllFound P [] = Unit {0}
AllFound P (f ∷ fs) = IfSome f P × AllFound P fs

pub first_all : (P : Word × ℕ → Type 0) (fs : List Found) → AllFound P fs → IfSome (first_of fs) P
first_all P [] h = tt
first_all P (None ∷ fs) h = first_all P fs h.1
first_all P (Some w ∷ fs) h = h.0

pub mapped : {A B : Type 0} (P : B → Type 0) (g : A → B) (o : Option A) → ((x : A) → P (g x)) → IfSome (option_map g o) P
mapped P g None h = tt
mapped P g (Some x) h = h x

pub allowed : (P : Word × ℕ → Type 0) (b : Bool) (f : Found) → IfSome f P → IfSome (if_allowed b f) P
allowed P true f h = h
allowed P false f h = tt

-- a fact on each word that the sign and the rules give is one on the lexeme
module _ (P : Word × ℕ → Type 0) (c : Rows) (m : ParseMode) (text : List ℕ) where
  or_fault : {E : Type 0} (o : Found) (e : E) → IfSome o P → IfOk (ok_or o e) P
  or_fault None e h = tt
  or_fault (Some w) e h = h

  of_run : (run : List ℕ) (o : Found) → ((b : ℕ) (r : List ℕ) → run ≡ b ∷ r → IfSome o P) → IfOk (lexeme_of text run None o) P
  of_run [] o h = tt
  of_run (b ∷ run) o h = or_fault o _ (h b run refl)

  of_sign : (run : List ℕ) (s o : Found) → IfSome s P → IfOk (lexeme_of text run None o) P → IfOk (lexeme_of text run s o) P
  of_sign run None o s h = h
  of_sign run (Some w) o s h = s

  pub lexeme_all : IfSome (sign m text) P → ((b : ℕ) (r : List ℕ) → run_at text ≡ b ∷ r → IfSome (grouped c m text (b ∷ r)) P) → IfOk (lexeme c m text) P
  lexeme_all s h =
      of_sign (run_at text) (sign m text) (rules c m text (run_at text)) s
      (of_run (run_at text) (rules c m text (run_at text)) (λ b r e.
      subst (λ (o : Found). IfSome o P) (sym (rules_grouped c m text (run_at text))) (subst (λ (run : List ℕ). IfSome (grouped c m text run) P) (sym e) (h b r e))))

-- ---- each word takes a byte

abbrev Long : Word × ℕ → Type 0
Long f = 0 < f.1

sign_long : (m : ParseMode) (text : List ℕ) → IfSome (sign m text) Long
sign_long m [] = tt
sign_long m (b ∷ text) = mapped Long _ (sign_of m b) (λ w. omega arith)

whole_long : (b : ℕ) (run : List ℕ) (o : Option Word) → IfSome (whole (b ∷ run) o) Long
whole_long b run o = mapped Long _ o (λ w. omega arith)

exact_long : (c : Rows) (b : ℕ) (r : List ℕ) → IfSome (exact c (b ∷ r)) Long
exact_long c b r = let run = b ∷ r in
    first_all Long (whole run (operator run) ∷ whole run (option_map Spdx (listed c.licenses run)) ∷ whole run (option_map Exception (listed_exception c.exceptions run)) ∷ [])
    (whole_long b r _, (whole_long b r _, (whole_long b r _, tt)))

license_reference_long : (run : List ℕ) → IfSome (license_reference run) Long
license_reference_long run =
    first_all Long (document_reference (codes "LicenseRef-") LicenseRef run ∷ reference (codes "LicenseRef-") LicenseRef run ∷ [])
    (mapped Long _ (names_behind (codes "LicenseRef-") run) (λ n. omega arith), (mapped Long _ (name_behind (codes "LicenseRef-") run) (λ n. omega arith), tt))

addition_reference_long : (run : List ℕ) → IfSome (addition_reference run) Long
addition_reference_long run =
    first_all Long (document_reference (codes "AdditionRef-") AdditionRef run ∷ reference (codes "AdditionRef-") AdditionRef run ∷ [])
    (mapped Long _ (names_behind (codes "AdditionRef-") run) (λ n. omega arith), (mapped Long _ (name_behind (codes "AdditionRef-") run) (λ n. omega arith), tt))

referred_long : (run : List ℕ) → IfSome (referred run) Long
referred_long run = first_all Long (license_reference run ∷ addition_reference run ∷ []) (license_reference_long run, (addition_reference_long run, tt))

caseless_long : (c : Rows) (m : ParseMode) (b : ℕ) (r : List ℕ) → IfSome (caseless c m (b ∷ r)) Long
caseless_long c m b r = let run = b ∷ r in
    allowed Long m.allow_caseless_ids _
    (first_all Long (whole run (option_map Spdx (listed_caseless c.licenses run)) ∷ whole run (option_map Exception (listed_exception_caseless c.exceptions run)) ∷ []) (whole_long b r _, (whole_long b r _, tt)))

by_run_long : (c : Rows) (m : ParseMode) (b : ℕ) (r : List ℕ) → IfSome (by_run c m (b ∷ r)) Long
by_run_long c m b r = first_all Long (exact c (b ∷ r) ∷ referred (b ∷ r) ∷ caseless c m (b ∷ r) ∷ []) (exact_long c b r, (referred_long (b ∷ r), (caseless_long c m b r, tt)))

imprecise_long : (c : Rows) → is_well_formed c ≡ true → (m : ParseMode) (text : List ℕ) → IfSome (imprecise c m text) Long
imprecise_long c well m text = allowed Long m.allow_imprecise_license_names _ (spelled (imprecise_license c text) refl)
  where
    spelled : (o : Option (LicenseRow × ℕ)) → imprecise_license c text ≡ o → IfSome (option_map (λ (f : LicenseRow × ℕ). (Spdx f.0, f.1)) o) Long
    spelled None e = tt
    spelled (Some f) e = (imprecise_is_license c well text f.0 f.1 e).1

unknown_long : (m : ParseMode) (b : ℕ) (r : List ℕ) → IfSome (unknown m (b ∷ r)) Long
unknown_long m b r = allowed Long m.allow_unknown _ (whole_long b r (Some (Unknown (b ∷ r))))

pub lexeme_long : (c : Rows) → is_well_formed c ≡ true → (m : ParseMode) (text : List ℕ) → IfOk (lexeme c m text) Long
lexeme_long c well m text = lexeme_all Long c m text (sign_long m text) (λ b r e.
    first_all Long (by_run c m (b ∷ r) ∷ imprecise c m text ∷ unknown m (b ∷ r) ∷ []) (by_run_long c m b r, (imprecise_long c well m text, (unknown_long m b r, tt))))
