-- What is written and told.
use Rattle.std.specs.Prelude.{◌≡◌, ◌⊎◌, ℕ, Bool, true, false, List, [], ◌∷◌, ◌++◌, codes, decimal}
use Rattle.std.specs.Io.KnownBytes.{Appends}
use Rattle.line_engine.specs.Device.{Told}
use Rattle.check_files.specs.declared.trouble.CheckFault.{CheckFault}
use Rattle.check_files.specs.declared.trouble.CheckFault.TheVariants as fault

-- a text was written of which this holds
abbrev pub Writes : Told → Told → (List ℕ → Type 0) → Type 0
Writes old new Is = (text : List ℕ) × Appends old.bytes new.bytes text × Is text

-- so it is unless the output has failed, and then it stays so
pub record Puts (old new : Told) (Is : List ℕ → Type 0) : Type 0 where
  pub stays : old.has_failed ≡ true → new.has_failed ≡ true
  pub writes : (new.has_failed ≡ true) ⊎ Writes old new Is

-- ---- what is told

-- on a terminal it is shown between how many files a walk has seen
abbrev pub shown_count : ℕ → List ℕ
shown_count files = 13 ∷ (decimal files ++ codes " files")

-- and the line is cleared: a carriage return, and what erases all behind
abbrev pub clear : List ℕ
clear = 13 ∷ (27 ∷ codes "[K")

-- counts that are shown, and cleared lines, in any order
pub data AreMarks : List ℕ → Type 0 where
  none : AreMarks []
  shown : (files : ℕ) (rest : List ℕ) → AreMarks rest → AreMarks (shown_count files ++ rest)
  cleared : (rest : List ℕ) → AreMarks rest → AreMarks (clear ++ rest)

-- what stands where nothing is told: nothing, or where it is shown such marks
abbrev pub IsBetween : Bool → List ℕ → Type 0
IsBetween false text = text ≡ []
IsBetween true text = AreMarks text

-- what stands before each text: where marks are shown, the line is cleared
abbrev pub before : Bool → List ℕ
before false = []
before true = clear

-- what is kept of all that was told: each of it; or an output, which has a text of each, in which the
-- system may have had its say, with marks between them or none; or nothing
pub data Account (A : Type 0) : Type 0 where
  each : List A → Account A
  texts : Bool → (List ℕ → A → List ℕ) → Told → Account A
  unkept : Account A

-- the texts of these, one behind the other, whatever the system says of each
abbrev pub AreTexts : {A : Type 0} → Bool → (List ℕ → A → List ℕ) → List A → List ℕ → Type 0
AreTexts on text_of [] text = IsBetween on text
AreTexts on text_of (x ∷ xs) text =
    (marks : List ℕ) × (said : List ℕ) × (rest : List ℕ) × IsBetween on marks
    × (text ≡ marks ++ (before on ++ (text_of said x ++ rest))) × AreTexts on text_of xs rest

-- these were told behind all others
abbrev pub Hears : {A : Type 0} → Account A → Account A → List A → Type 0
Hears unkept new xs = Unit {0}
Hears (each old) (each new) xs = new ≡ old ++ xs
Hears (texts on text_of old) (texts on_by text_by new) xs =
    (on_by ≡ on) × (text_by ≡ text_of) × Puts old new (AreTexts on text_of xs)
Hears old new xs = ⊥

-- a text was written, and troubles were told, of which this holds
pub record Does {A : Type 0} (out out' : Told) (heard heard' : Account A)
    (Is : List ℕ → List A → Type 0) : Type 0 where
  pub text : List ℕ
  pub told : List A
  pub writes : Appends out.bytes out'.bytes text
  pub tells : Hears heard heard' told
  pub is : Is text told

-- troubles were told of which this holds
pub record Tells {A : Type 0} (heard heard' : Account A) (Is : List A → Type 0) : Type 0 where
  pub told : List A
  pub tells : Hears heard heard' told
  pub is : Is told

-- a check breaks off where the output has failed; nothing is said of memory
abbrev pub IsBrokenOff : Told → CheckFault → Type 0
IsBrokenOff out fault.Output = out.has_failed ≡ true
IsBrokenOff out fault.Memory = Unit {0}
