-- What is told of packages that have no choice.
use Rattle.std.proofs.Common.{◌≡◌, List, [], ◌∷◌, ◌++◌, ap, refl, string_bytes, subst, sym}
use Rattle.std.specs.declared.alloc.Global.{Global}
use Rattle.std.specs.Prelude.{String}
use Rattle.std.specs.Global.{Vec}
use Rattle.check_files.specs.Told.{Account, Hears, Tells}
use Rattle.check_files.proofs.Doing.{hears_nil, hears_trans}
use Rattle.choice_program.specs.declared.choosing.ChoiceTrouble.{ChoiceTrouble}
use Rattle.choice_program.specs.declared.choosing.ChoiceTrouble.TheVariants as choice
use Rattle.choice_program.specs.declared.unchosen.Unchosen.{Unchosen}
use Rattle.choice_program.specs.declared.unchosen.Why.{Why}
use Rattle.gate_program.specs.declared.policy.PolicyTrouble.{PolicyTrouble}
use Rattle.spdx_commands.proofs.Steps.{zip_push}
use Rattle.spdx_lexer.specs.Faults.{fault_of, fault_text}
use Rattle.spdx_lexer.specs.declared.error.Reason.{Reason}
use Rattle.spdx_troubles.specs.Causes.{policy_trouble}
use Rattle.spdx_troubles.specs.declared.trouble.Trouble.{Trouble}
use Rattle.spdx_troubles.specs.declared.trouble.Trouble.TheVariants as trouble
use Rattle.package_commands.specs.Unchosen.{AreNoChoicesTold, AreUnchosenTold, IsNoChoice, IsNoLicensee, IsOnly, IsUnchosenTold, all_together, no_choice, no_licensee, why_text}

-- ---- one trouble

pub only_told : (h k : Account Trouble) (Is : Trouble → Type 0) (t : Trouble) → Is t → Hears h k (t ∷ []) → Tells h k (IsOnly Is)
only_told h k Is t is tells = record { told = t ∷ []; tells = tells; is = is }

pub no_licensee_told : (h k : Account Trouble) (name : String Global) (reason : Reason) (told : String Global) → string_bytes told ≡ fault_text (fault_of reason)
    → Hears h k (trouble.Accepted name told ∷ []) → Tells h k (IsOnly (IsNoLicensee name reason))
no_licensee_told h k name reason told is tells = only_told h k (IsNoLicensee name reason) (trouble.Accepted name told) (no_licensee is) tells

pub none_together_told : (h k : Account Trouble) (w : Why) (n told : String Global) → string_bytes n ≡ all_together → string_bytes told ≡ why_text w
    → Hears h k (trouble.NoChoice n told ∷ []) → Tells h k (IsOnly (IsNoChoice all_together w))
none_together_told h k w n told named is tells = only_told h k (IsNoChoice all_together w) (trouble.NoChoice n told) (no_choice named is) tells

-- ---- each package

pub none_unchosen : (h : Account Trouble) → Tells h h (AreNoChoicesTold [])
none_unchosen h = record { told = []; tells = hears_nil h; is = tt }

pub one_unchosen : (h k l : Account Trouble) (us : List Unchosen) (u : Unchosen) (told : String Global) → Tells h k (AreNoChoicesTold us) → string_bytes told ≡ why_text u.why
    → Hears k l (trouble.NoChoice u.name told ∷ []) → Tells h l (AreNoChoicesTold (us ++ u ∷ []))
one_unchosen h k l us u told p is tells = record {
  told = p.told ++ trouble.NoChoice u.name told ∷ [];
  tells = hears_trans h k l p.told (trouble.NoChoice u.name told ∷ []) p.tells tells;
  is = zip_push IsUnchosenTold us p.told u (trouble.NoChoice u.name told) p.is (no_choice refl is);
}

-- ---- why nothing is chosen

pub unnamed_told : (h k : Account Trouble) (c : ChoiceTrouble) (name : String Global) (reason : Reason) → c ≡ choice.NoLicensee name reason
    → Tells h k (IsOnly (IsNoLicensee name reason)) → Tells h k (AreUnchosenTold c)
unnamed_told h k c name reason is p = subst (λ (x : ChoiceTrouble). Tells h k (AreUnchosenTold x)) (sym is) p

pub no_policy_told : (h k : Account Trouble) (c : ChoiceTrouble) (p : PolicyTrouble) (t : Trouble) → c ≡ choice.Policy p → t ≡ policy_trouble p
    → Hears h k (t ∷ []) → Tells h k (AreUnchosenTold c)
no_policy_told h k c p t is told tells =
    subst (λ (x : ChoiceTrouble). Tells h k (AreUnchosenTold x)) (sym is) (record { told = t ∷ []; tells = tells; is = ap (λ (x : Trouble). x ∷ []) told })

pub unchosen_told : (h k : Account Trouble) (c : ChoiceTrouble) (us : Vec Unchosen) → c ≡ choice.NoChoices us → Tells h k (AreNoChoicesTold us.items) → Tells h k (AreUnchosenTold c)
unchosen_told h k c us is p = subst (λ (x : ChoiceTrouble). Tells h k (AreUnchosenTold x)) (sym is) p

pub none_for_all_told : (h k : Account Trouble) (c : ChoiceTrouble) (w : Why) → c ≡ choice.NoneTogether w → Tells h k (IsOnly (IsNoChoice all_together w)) → Tells h k (AreUnchosenTold c)
none_for_all_told h k c w is p = subst (λ (x : ChoiceTrouble). Tells h k (AreUnchosenTold x)) (sym is) p
