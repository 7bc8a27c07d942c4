-- What is told of packages that have no choice.
use Rattle.std.specs.Prelude.{◌≡◌, ℕ, List, [], ◌∷◌, ◌++◌, String, codes, string_bytes}
use Rattle.std.specs.declared.alloc.Global.{Global}
use Rattle.std.specs.List.{AllZip}
use Rattle.choice_program.specs.declared.choosing.ChoiceTrouble.{ChoiceTrouble}
use Rattle.choice_program.specs.declared.choosing.ChoiceTrouble.TheVariants as choice
use Rattle.choice_program.specs.declared.unchosen.Unchosen.{Unchosen}
use Rattle.choice_program.specs.declared.unchosen.Why.{Why}
use Rattle.choice_program.specs.declared.unchosen.Why.TheVariants as why
use Rattle.spdx_minimize.specs.MinimizeTexts.{minimize_text}
use Rattle.spdx_lexer.specs.Faults.{fault_of, fault_text}
use Rattle.spdx_lexer.specs.declared.error.Reason.{Reason}
use Rattle.spdx_troubles.specs.Causes.{policy_trouble}
use Rattle.spdx_troubles.specs.declared.trouble.Trouble.{Trouble}
use Rattle.spdx_troubles.specs.declared.trouble.Trouble.TheVariants as trouble

-- one trouble is told, of which this holds
abbrev pub IsOnly : (Trouble → Type 0) → List Trouble → Type 0
IsOnly Is [] = ⊥
IsOnly Is (t ∷ []) = Is t
IsOnly Is (t ∷ u ∷ more) = ⊥

-- why there is no choice
abbrev pub why_text : Why → List ℕ
why_text why.Unstated = codes "without a licence"
why_text (why.Unreadable text reason) =
    string_bytes text ++ (codes ": " ++ fault_text (fault_of reason))
why_text (why.Unmet e) = minimize_text e
why_text why.NotAllowed = codes "not allowed by the policy"
why_text why.TooMany = codes "more than 1,024 requirements"

-- what goes by this name has no choice, for that
pub data IsNoChoice (name : List ℕ) (w : Why) : Trouble → Type 0 where
  no_choice : {n told : String Global} → string_bytes n ≡ name →
      string_bytes told ≡ why_text w → IsNoChoice name w (trouble.NoChoice n told)

-- it is told of each of the packages
abbrev pub IsUnchosenTold : Unchosen → Trouble → Type 0
IsUnchosenTold u t = IsNoChoice (string_bytes u.name) u.why t

abbrev pub AreNoChoicesTold : List Unchosen → List Trouble → Type 0
AreNoChoicesTold us told = AllZip IsUnchosenTold us told

-- whom one choice for all is for
abbrev pub all_together : List ℕ
all_together = codes "all packages together"

-- what was to be accepted is no licensee's name, for such a reason
pub data IsNoLicensee (name : String Global) (reason : Reason) : Trouble → Type 0 where
  no_licensee : {told : String Global} → string_bytes told ≡ fault_text (fault_of reason) →
      IsNoLicensee name reason (trouble.Accepted name told)

-- why nothing is chosen, unless memory was refused
abbrev pub AreUnchosenTold : ChoiceTrouble → List Trouble → Type 0
AreUnchosenTold (choice.NoLicensee name reason) told = IsOnly (IsNoLicensee name reason) told
AreUnchosenTold (choice.Policy t) told = told ≡ policy_trouble t ∷ []
AreUnchosenTold (choice.NoChoices us) told = AreNoChoicesTold us.items told
AreUnchosenTold (choice.NoneTogether w) told = IsOnly (IsNoChoice all_together w) told
AreUnchosenTold choice.Memory told = ⊥
