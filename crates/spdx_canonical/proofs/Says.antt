-- The reading of a canonical text, where each name in it is known to be one word.
use Rattle.std.proofs.Common.{◌≡◌, ℕ, ◌+◌, suc, ◌<◌, ◌==◌, Bool, true, false, List, [], ◌∷◌, ◌++◌, map, length, Result, Ok, refl, ◌∙◌, ap, lit<, IsTrue}
use Rattle.std.specs.Prelude.{codes}
use Rattle.std.specs.Char.{is_whitespace}
use Rattle.spdx_requirement.specs.Rows.{LicenseRow, Rows}
use Rattle.spdx_requirement.specs.Flags.{is_gnu}
use Rattle.spdx_catalogue.specs.RowRules.{is_well_formed}
use Rattle.spdx_lexer.specs.declared.token.ParseMode.{ParseMode}
use Rattle.spdx_lexer.specs.Words.{Word, Spdx, LicenseRef, Exception, AdditionRef, Unknown, Plus, OpenParen, CloseParen, With, And, Or, Fault}
use Rattle.spdx_lexer.specs.Text.{is_run_byte}
use Rattle.spdx_lexer.specs.Lexeme.{lexeme}
use Rattle.spdx_requirement.specs.Texts.{reference_text}
use Rattle.spdx_canonical.specs.Canonical.{written_name, plus_follows, text_behind, words_by}
use Rattle.spdx_canonical.proofs.Parts.{is_spdx}
use Rattle.spdx_canonical.proofs.Neighbours.{ends_term, is_operator_word, AreApart, AreRead, is_gnu_word}
use Rattle.spdx_canonical.proofs.Terms.{Stops, says, Opens, reads, reads_spaced, skips, says_nil, IsTerm, term_says, opens_name, first_of_name, exception_term, license_ref_term, addition_ref_term}
use Rattle.spdx_canonical.proofs.Written.{written_is_name}
use Rattle.spdx_canonical.proofs.Read.{no_license_behind, no_addition_behind, clash}

plus_stops : (g : Bool) (ws : List Word) → Stops is_run_byte (text_behind false ws) → Stops is_run_byte (text_behind g (Plus ∷ ws))
plus_stops true ws h = h
plus_stops false ws h = refl

-- behind a name comes what ends a run
pub stops : (last : Word) (ws : List Word) → ends_term last ≡ true → AreApart last ws → Stops is_run_byte (text_behind (is_gnu_word last) ws)
stops last [] e a = tt
stops last (Plus ∷ ws) e a = plus_stops (is_gnu_word last) ws (stops Plus ws refl a.1)
stops last (OpenParen ∷ ws) e a = refl
stops last (CloseParen ∷ ws) e a = refl
stops last (With ∷ ws) e a = refl
stops last (And ∷ ws) e a = refl
stops last (Or ∷ ws) e a = refl
stops last (Spdx r ∷ ws) e a = absurd (no_license_behind last e a.0)
stops last (LicenseRef d y ∷ ws) e a = absurd (no_license_behind last e a.0)
stops last (Exception r ∷ ws) e a = absurd (no_addition_behind last e a.0)
stops last (AdditionRef d y ∷ ws) e a = absurd (no_addition_behind last e a.0)
stops last (Unknown x ∷ ws) e a = absurd (clash (ends_term last) e a.0)

pub no_both : (w : Word) → is_operator_word w ≡ true → is_spdx w ≡ true → ⊥
no_both (Spdx r) h k = absurd cc
no_both _ h k = absurd cc

module _ (c : Rows) (well : IsTrue (is_well_formed c)) (m : ParseMode) where
  -- each name is the word that `word` says
  abbrev pub EachTerm : (Bool → LicenseRow → Word) → List Word → Type 0
  EachTerm word [] = Unit {0}
  EachTerm word (Spdx r ∷ ws) = IsTerm c well m (written_name (plus_follows ws) r) (word (plus_follows ws) r) × EachTerm word ws
  EachTerm word (_ ∷ ws) = EachTerm word ws

  -- behind an operator comes no plus and no white space
  pub opens : (last : Word) (ws : List Word) → is_operator_word last ≡ true → AreApart last ws → AreRead c ws → Opens c well m (text_behind false ws)
  opens last [] e a d = tt
  opens last (Plus ∷ ws) e a d = absurd (no_both last e a.0)
  opens last (OpenParen ∷ ws) e a d = (lit< tt, refl, refl)
  opens last (CloseParen ∷ ws) e a d = (lit< tt, refl, refl)
  opens last (With ∷ ws) e a d = absurd (clash (is_operator_word last) e a.0)
  opens last (And ∷ ws) e a d = absurd (clash (is_operator_word last) e a.0)
  opens last (Or ∷ ws) e a d = absurd (clash (is_operator_word last) e a.0)
  opens last (Spdx r ∷ ws) e a d = let t = written_name (plus_follows ws) r in opens_name c well m t (text_behind (is_gnu r.flags) ws) (first_of_name t (written_is_name c well (plus_follows ws) r d.0))
  opens last (LicenseRef x y ∷ ws) e a d = opens_name c well m (reference_text (codes "LicenseRef-") x y) (text_behind false ws) (license_ref_term c well m x y d.0).first
  opens last (Exception r ∷ ws) e a d = opens_name c well m r.name (text_behind false ws) (exception_term c well m r.name r d.0.0 d.0.1).first
  opens last (AdditionRef x y ∷ ws) e a d = opens_name c well m (reference_text (codes "AdditionRef-") x y) (text_behind false ws) (addition_ref_term c well m x y d.0).first
  opens last (Unknown x ∷ ws) e a d = absurd d.0

  -- ---- one word, and what follows

  abbrev pub Follow : List ℕ → List Word → Type 0
  Follow rest ws = (at : ℕ) → says c well m at rest ≡ map Ok ws

  joins : (at next : ℕ) (text rest : List ℕ) (w : Word) (ws : List Word) → says c well m at text ≡ Ok w ∷ says c well m next rest → Follow rest ws → says c well m at text ≡ map Ok (w ∷ ws)
  joins at next text rest w ws e h = e ∙ ap (λ (xs : List (Result Word Fault)). Ok w ∷ xs) (h next)

  -- a sign
  pub sign : (b : ℕ) (rest : List ℕ) (w : Word) (ws : List Word) → b < 128 → is_whitespace b ≡ false → lexeme c m (b ∷ rest) ≡ Ok (w, 1) → Follow rest ws → Follow (b ∷ rest) (w ∷ ws)
  sign b rest w ws low black e h at = joins at ((at + 0) + 1) (b ∷ rest) rest w ws (reads c well m at b [] rest w low black e) h

  -- a name
  pub name : (t rest : List ℕ) (w : Word) (ws : List Word) → IsTerm c well m t w → Stops is_run_byte rest → Follow rest ws → Follow (t ++ rest) (w ∷ ws)
  name t rest w ws term s h at = joins at ((at + 0) + length t) (t ++ rest) rest w ws (term_says c well m at t rest w term.first (term.is rest s)) h

  -- an operator between spaces
  pub spaced : (b : ℕ) (t rest : List ℕ) (w : Word) (ws : List Word) → b < 128 → is_whitespace b ≡ false → (b == 43) ≡ false → lexeme c m (b ∷ (t ++ (32 ∷ rest))) ≡ Ok (w, suc (length t)) → Opens c well m rest → Follow rest ws → Follow (32 ∷ b ∷ (t ++ (32 ∷ rest))) (w ∷ ws)
  spaced b t rest w ws low black other e o h at =
      let next = (at + 1) + suc (length t) in
      joins at next (32 ∷ b ∷ (t ++ (32 ∷ rest))) (32 ∷ rest) w ws (reads_spaced c well m at b t (32 ∷ rest) w low black other e) (λ n. skips c well m n rest o ∙ h (n + 1))

  module _ (word : Bool → LicenseRow → Word) where
    abbrev Says : Bool → List Word → Type 0
    Says g ws = Follow (text_behind g ws) (words_by word g ws)

    plus_case : (g : Bool) (ws : List Word) → Says false ws → Says g (Plus ∷ ws)
    plus_case true ws h = h
    plus_case false ws h = sign 43 (text_behind false ws) Plus (words_by word false ws) (lit< tt) refl refl h

    pub spells : (last : Word) (ws : List Word) → AreApart last ws → AreRead c ws → EachTerm word ws → Says (is_gnu_word last) ws
    spells last [] a d l = says_nil c well m
    spells last (Plus ∷ ws) a d l = plus_case (is_gnu_word last) ws (spells Plus ws a.1 d.1 l)
    spells last (OpenParen ∷ ws) a d l = sign 40 (text_behind false ws) OpenParen (words_by word false ws) (lit< tt) refl refl (spells OpenParen ws a.1 d.1 l)
    spells last (CloseParen ∷ ws) a d l = sign 41 (text_behind false ws) CloseParen (words_by word false ws) (lit< tt) refl refl (spells CloseParen ws a.1 d.1 l)
    spells last (With ∷ ws) a d l = spaced 87 (73 ∷ 84 ∷ 72 ∷ []) (text_behind false ws) With (words_by word false ws) (lit< tt) refl refl refl (opens With ws refl a.1 d.1) (spells With ws a.1 d.1 l)
    spells last (And ∷ ws) a d l = spaced 65 (78 ∷ 68 ∷ []) (text_behind false ws) And (words_by word false ws) (lit< tt) refl refl refl (opens And ws refl a.1 d.1) (spells And ws a.1 d.1 l)
    spells last (Or ∷ ws) a d l = spaced 79 (82 ∷ []) (text_behind false ws) Or (words_by word false ws) (lit< tt) refl refl refl (opens Or ws refl a.1 d.1) (spells Or ws a.1 d.1 l)
    spells last (Spdx r ∷ ws) a d l = name (written_name (plus_follows ws) r) (text_behind (is_gnu r.flags) ws) (word (plus_follows ws) r) (words_by word (is_gnu r.flags) ws) l.0 (stops (Spdx r) ws refl a.1) (spells (Spdx r) ws a.1 d.1 l.1)
    spells last (LicenseRef x y ∷ ws) a d l = name (reference_text (codes "LicenseRef-") x y) (text_behind false ws) (LicenseRef x y) (words_by word false ws) (license_ref_term c well m x y d.0) (stops (LicenseRef x y) ws refl a.1) (spells (LicenseRef x y) ws a.1 d.1 l)
    spells last (Exception r ∷ ws) a d l = name r.name (text_behind false ws) (Exception r) (words_by word false ws) (exception_term c well m r.name r d.0.0 d.0.1) (stops (Exception r) ws refl a.1) (spells (Exception r) ws a.1 d.1 l)
    spells last (AdditionRef x y ∷ ws) a d l = name (reference_text (codes "AdditionRef-") x y) (text_behind false ws) (AdditionRef x y) (words_by word false ws) (addition_ref_term c well m x y d.0) (stops (AdditionRef x y) ws refl a.1) (spells (AdditionRef x y) ws a.1 d.1 l)
    spells last (Unknown x ∷ ws) a d l = absurd d.0
