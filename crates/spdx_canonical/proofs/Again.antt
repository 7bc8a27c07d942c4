-- The canonical text of the canonical words is the text again.
use Rattle.std.proofs.Common.{◌≡◌, ℕ, Bool, true, false, List, [], ◌∷◌, ◌++◌, Some, refl, sym, ◌∙◌, ap, IsSome, IsTrue}
use Rattle.spdx_requirement.specs.Rows.{LicenseRow, Rows}
use Rattle.spdx_requirement.specs.Flags.{is_gnu}
use Rattle.spdx_catalogue.specs.LookUps.{listed}
use Rattle.spdx_catalogue.specs.RowRules.{is_well_formed}
use Rattle.spdx_lexer.specs.Words.{Word, Spdx, LicenseRef, Exception, AdditionRef, Unknown, Plus, OpenParen, CloseParen, With, And, Or}
use Rattle.spdx_canonical.specs.Canonical.{gnu_name, written_name, plus_follows, word_text, text_behind, canonical_row, words_by}
use Rattle.spdx_canonical.proofs.Parts.{is_spdx}
use Rattle.spdx_canonical.specs.Law.{EachName}
use Rattle.spdx_canonical.proofs.Known.{license_named}
use Rattle.spdx_canonical.proofs.Neighbours.{AreApart, AreRead, is_gnu_word}
use Rattle.spdx_canonical.proofs.Written.{stays, plain_row, plain_name, gnu_written, row_listed}

pub flag_free : (j k : Bool) (ws : List Word) → plus_follows ws ≡ false → text_behind j ws ≡ text_behind k ws
flag_free j k [] h = refl
flag_free j k (Plus ∷ ws) h = absurd cc
flag_free j k (Spdx r ∷ ws) h = refl
flag_free j k (_ ∷ ws) h = refl

-- no plus behind a plus
one_plus : (last : Word) (ws : List Word) → is_spdx last ≡ false → AreApart last ws → plus_follows ws ≡ false
one_plus last [] n a = refl
one_plus last (Plus ∷ ws) n a = absurd (let z : false ≡ true = sym n ∙ a.0 in cc)
one_plus last (_ ∷ ws) n a = refl

module _ (c : Rows) (well : IsTrue (is_well_formed c)) where
  abbrev pub canonical_word : Bool → LicenseRow → Word
  canonical_word plus r = Spdx (canonical_row c plus r)

  abbrev pub IsListed : List ℕ → Type 0
  IsListed name = IsSome (listed c.licenses name)

  no_plus : (g : Bool) (ws : List Word) → plus_follows ws ≡ false → plus_follows (words_by canonical_word g ws) ≡ false
  no_plus g [] h = refl
  no_plus g (Plus ∷ ws) h = absurd cc
  no_plus g (Spdx r ∷ ws) h = refl
  no_plus g (_ ∷ ws) h = refl

  joined_plus : (r : LicenseRow) (ws : List Word) → AreApart (Spdx r) ws → plus_follows (words_by canonical_word true ws) ≡ false
  joined_plus r [] a = refl
  joined_plus r (Plus ∷ ws) a = no_plus false ws (one_plus Plus ws refl a.1)
  joined_plus r (Spdx x ∷ ws) a = refl
  joined_plus r (_ ∷ ws) a = refl

  abbrev Same : LicenseRow → LicenseRow → Bool → List Word → Type 0
  Same r row p vs = (written_name (plus_follows vs) row ≡ written_name p r) × (text_behind (is_gnu row.flags) vs ≡ text_behind (is_gnu r.flags) vs)

  row_same : (r : LicenseRow) (g : Bool) → is_gnu r.flags ≡ g → (ws : List Word) → AreApart (Spdx r) ws → listed c.licenses r.name ≡ Some r → IsListed (written_name (plus_follows ws) r) → Same r (canonical_row c (plus_follows ws) r) (plus_follows ws) (words_by canonical_word g ws)
  row_same r false e ws a d s =
      let p = plus_follows ws in
      let vs = words_by canonical_word false ws in
      let same = plain_row c well p r e in
      (ap (λ (x : LicenseRow). written_name (plus_follows vs) x) same ∙ plain_name c well (plus_follows vs) r e ∙ sym (plain_name c well p r e), ap (λ (x : LicenseRow). text_behind (is_gnu x.flags) vs) same)
  row_same r true e ws a d s =
      let p = plus_follows ws in
      let row = canonical_row c p r in
      let vs = words_by canonical_word true ws in
      let free = joined_plus r ws a in
      let named = (license_named c well (written_name p r) row (row_listed c well p r d s)).same in
      let same : row.name ≡ gnu_name p r.name = named ∙ gnu_written c well p r e in
      (ap (λ b. written_name b row) free ∙ stays (is_gnu row.flags) p r.name row.name same ∙ named, flag_free (is_gnu row.flags) (is_gnu r.flags) vs free)

  pub again : (last : Word) (ws : List Word) → AreApart last ws → AreRead c ws → EachName IsListed ws → text_behind (is_gnu_word last) (words_by canonical_word (is_gnu_word last) ws) ≡ text_behind (is_gnu_word last) ws
  again last [] a d l = refl
  again last (Plus ∷ ws) a d l = plus (is_gnu_word last) (again Plus ws a.1 d.1 l)
    where
      plus : (g : Bool) → text_behind false (words_by canonical_word false ws) ≡ text_behind false ws → text_behind g (words_by canonical_word g (Plus ∷ ws)) ≡ text_behind g (Plus ∷ ws)
      plus true h = flag_free true false (words_by canonical_word false ws) (no_plus false ws (one_plus Plus ws refl a.1)) ∙ h
      plus false h = ap (λ (t : List ℕ). 43 ∷ t) h
  again last (Spdx r ∷ ws) a d l =
      let both = row_same r (is_gnu r.flags) refl ws a.1 d.0 l.0 in
      ap (λ (t : List ℕ). t ++ text_behind (is_gnu (canonical_row c (plus_follows ws) r).flags) (words_by canonical_word (is_gnu r.flags) ws)) both.0
      ∙ ap (λ (t : List ℕ). written_name (plus_follows ws) r ++ t) (both.1 ∙ again (Spdx r) ws a.1 d.1 l.1)
  again last (LicenseRef x y ∷ ws) a d l = ap (λ (t : List ℕ). word_text (LicenseRef x y) ++ t) (again (LicenseRef x y) ws a.1 d.1 l)
  again last (Exception r ∷ ws) a d l = ap (λ (t : List ℕ). word_text (Exception r) ++ t) (again (Exception r) ws a.1 d.1 l)
  again last (AdditionRef x y ∷ ws) a d l = ap (λ (t : List ℕ). word_text (AdditionRef x y) ++ t) (again (AdditionRef x y) ws a.1 d.1 l)
  again last (Unknown x ∷ ws) a d l = ap (λ (t : List ℕ). word_text (Unknown x) ++ t) (again (Unknown x) ws a.1 d.1 l)
  again last (OpenParen ∷ ws) a d l = ap (λ (t : List ℕ). word_text OpenParen ++ t) (again OpenParen ws a.1 d.1 l)
  again last (CloseParen ∷ ws) a d l = ap (λ (t : List ℕ). word_text CloseParen ++ t) (again CloseParen ws a.1 d.1 l)
  again last (With ∷ ws) a d l = ap (λ (t : List ℕ). word_text With ++ t) (again With ws a.1 d.1 l)
  again last (And ∷ ws) a d l = ap (λ (t : List ℕ). word_text And ++ t) (again And ws a.1 d.1 l)
  again last (Or ∷ ws) a d l = ap (λ (t : List ℕ). word_text Or ++ t) (again Or ws a.1 d.1 l)
