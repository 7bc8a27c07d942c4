-- What a command says once it has read all, and what of it where that breaks off.
use Rattle.std.specs.Prelude.{◌≡◌, ℕ, true, List, ◌++◌, flat_map}
use Rattle.check_files.specs.Told.{Account, Hears}
use Rattle.line_engine.specs.Device.{Told}
use Rattle.line_engine.specs.Progress.{AppendsBeginning}
use Rattle.spdx_commands.specs.declared.said.Said.{Said}
use Rattle.spdx_troubles.specs.declared.trouble.Trouble.{Trouble}
use Rattle.spdx_troubles.specs.declared.trouble.Trouble.TheVariants as trouble

-- what is told, before the text and behind it
abbrev pub told_of : Said → List Trouble
told_of s = s.before.items ++ s.after.items

abbrev pub text_of : Said → List ℕ
text_of s = s.text.items

-- its text is written, and its troubles are told
abbrev pub IsSaid : Said → List ℕ → List Trouble → Type 0
IsSaid s text told = (text ≡ text_of s) × (told ≡ told_of s)

-- so it is with each of these
abbrev pub AreSaid : List Said → List ℕ → List Trouble → Type 0
AreSaid all text told = (text ≡ flat_map text_of all) × (told ≡ flat_map told_of all)

-- ---- what breaks off

-- the output has failed, or memory was refused
abbrev pub IsBroken : Told → Trouble → Type 0
IsBroken out trouble.Output = out.has_failed ≡ true
IsBroken out trouble.Memory = Unit {0}
IsBroken out _ = ⊥

-- the first of these were told
pub record HearsBeginning {A : Type 0} (old new : Account A) (xs : List A) : Type 0 where
  pub begun : List A
  pub others : List A
  pub whole : xs ≡ begun ++ others
  pub told_first : Hears old new begun

-- a beginning of the text was written, and the first of the troubles were told
pub record Begins (out out' : Told) (heard heard' : Account Trouble) (text : List ℕ)
    (told : List Trouble) : Type 0 where
  pub written : AppendsBeginning out.bytes out'.bytes text
  pub told_first : HearsBeginning heard heard' told

-- by such a trouble it breaks off, and what was written and told is a beginning
pub record BreaksOff (out out' : Told) (heard heard' : Account Trouble) (text : List ℕ)
    (told : List Trouble) (t : Trouble) : Type 0 where
  pub broken : IsBroken out' t
  pub begins : Begins out out' heard heard' text told

abbrev pub IsCutShort : Said → Told → Told → Account Trouble → Account Trouble → Trouble → Type 0
IsCutShort s out out' heard heard' t =
    BreaksOff out out' heard heard' (text_of s) (told_of s) t

abbrev pub AreCutShort : List Said → Told → Told → Account Trouble → Account Trouble → Trouble →
    Type 0
AreCutShort all out out' heard heard' t =
    BreaksOff out out' heard heard' (flat_map text_of all) (flat_map told_of all) t
