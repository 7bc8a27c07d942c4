-- A text that is refused is no policy.
use Rattle.std.proofs.Common.{◌≡◌, ℕ, List, Option, Some, None, Result, Ok, Err, IfErr, string_bytes, sym, ap, subst, ◌∙◌}
use Rattle.semver.specs.Parse.{Held, req_of}
use Rattle.spdx_requirement.specs.Rows.{Rows}
use Rattle.spdx_requirement.specs.Failures.{IfRefused}
use Rattle.spdx_requirement.specs.declared.failure.Failure.{Failure}
use Rattle.spdx_licensee.specs.Replacements.{KnownReplacement}
use Rattle.spdx_policy.specs.declared.error.Place.{Place}
use Rattle.spdx_policy.specs.declared.error.Section.{Section}
use Rattle.spdx_policy.specs.declared.error.Key.{Key}
use Rattle.spdx_policy.specs.declared.fault.PolicyFault.{PolicyFault}
use Rattle.spdx_policy.specs.declared.fault.PolicyFault.TheVariants.{Unreadable, Shape, UnknownFlag, NotALicensee, NotARange}
use Rattle.spdx_policy.specs.Drafts.{DraftRows, draft_of}
use Rattle.spdx_policy.specs.Rules.{NamedRow, Rules}
use Rattle.spdx_policy.specs.Meant.{Each, IsNamed, IsRange, IsExempted, IsExempting, IsClarified, IsMeant, IsPolicyOf, unknown_flag}
use Rattle.spdx_policy.specs.Blame.{IsNoEntry, BlamesName, BlamesNames, BlamesRange}
use Rattle.spdx_policy.specs.Refused.{IsRefusedDraft, by_list, in_allow, in_deny, in_ranges, in_exceptions, in_clarifications, HasFault}
use Rattle.spdx_policy.proofs.Eaches.{each_none}
use Rattle.spdx_policy.proofs.Blamed.{refused}

pub no_entry : (c : Rows) (p : Place) (text : List ℕ) (f : PolicyFault) → BlamesName c p text f → IsNoEntry c text
no_entry c p text (NotALicensee q t s r) blame = blame.3
no_entry c p text (Unreadable u) blame = absurd blame
no_entry c p text (Shape s) blame = absurd blame
no_entry c p text (UnknownFlag q) blame = absurd blame
no_entry c p text (NotARange s t e w) blame = absurd blame

no_names : (c : Rows) (hs : List KnownReplacement) (s : Section) (k : Key) (texts : List (List ℕ)) (f : PolicyFault) (ns : List NamedRow) → BlamesNames c s k texts f → Each (IsNamed c hs) texts ns → ⊥
no_names c hs s k texts f ns blame all =
    each_none (IsNamed c hs) texts ns blame.0 blame.1 blame.2 (λ n is. no_entry c _ blame.1 f blame.4 is.requirement is.entry) all

both : {A E : Type 0} (x : A) (e : E) → Ok x ≡ Err e → ⊥
both x e h = cc

no_range : (s : Section) (versions : Option (List ℕ)) (r : Option (List Held)) (f : PolicyFault) → BlamesRange s versions f → IsRange versions r → ⊥
no_range s None r (NotARange t text e w) blame is = absurd (let h : None ≡ Some (string_bytes text) = blame.1 in cc)
no_range s (Some v) None f blame is = is
no_range s (Some v) (Some range) (NotARange t text e w) blame is =
    let same : v ≡ string_bytes text = (let h : Some v ≡ Some (string_bytes text) = blame.1 in cc) in
    both range e (sym is ∙ ap req_of same ∙ blame.2)
no_range s None r (Unreadable u) blame is = blame
no_range s None r (Shape x) blame is = blame
no_range s None r (UnknownFlag q) blame is = blame
no_range s None r (NotALicensee q t x y) blame is = blame
no_range s (Some v) (Some range) (Unreadable u) blame is = blame
no_range s (Some v) (Some range) (Shape x) blame is = blame
no_range s (Some v) (Some range) (UnknownFlag q) blame is = blame
no_range s (Some v) (Some range) (NotALicensee q t x y) blame is = blame

known_flags : (c : Rows) (d : DraftRows) (p : Place) → unknown_flag c d ≡ Some p → unknown_flag c d ≡ None → ⊥
known_flags c d p e f = let bad : Some p ≡ None = sym e ∙ f in cc

no_meaning : (c : Rows) (hs : List KnownReplacement) (d : DraftRows) (f : PolicyFault) → IsRefusedDraft c d f → (p : Rules) → IsMeant c hs d p → ⊥
no_meaning c hs d _ (by_list q e) p meant = known_flags c d q e meant.flags_known
no_meaning c hs d f (in_allow read b) p meant = no_names c hs _ _ d.allow f p.allow b meant.allow
no_meaning c hs d f (in_deny read b) p meant = no_names c hs _ _ d.deny f p.deny b meant.deny
no_meaning c hs d f (in_ranges read b) p meant =
    each_none IsExempted d.exceptions p.exempted b.0 b.1 b.2 (λ s is. no_range _ b.1.versions s.versions f b.4 is.1) meant.exempted
no_meaning c hs d f (in_exceptions read ranges b) p meant =
    each_none (IsExempting c hs) d.exceptions p.exempting b.0 b.1 b.2 (λ ns all. no_names c hs _ _ b.1.allow f ns b.4 all) meant.exempting
no_meaning c hs d f (in_clarifications read ranges names b) p meant =
    each_none IsClarified d.clarifications p.clarified b.0 b.1 b.2 (λ s is. no_range _ b.1.versions s.versions f b.4 is.1) meant.clarified

-- a draft with a fault, of a text, is that of no policy
pub no_policy : (c : Rows) (hs : List KnownReplacement) (text : List ℕ) (f : PolicyFault) → HasFault c text f → (p : Rules) → IsPolicyOf c hs text p → ⊥
no_policy c hs text f has p is =
    let one : Some has.members ≡ Some is.members = sym has.document ∙ is.document in
    let members : has.members ≡ is.members = cc in
    let two : Ok has.draft ≡ Ok is.draft = sym has.shape ∙ ap draft_of members ∙ is.shape in
    let draft : has.draft ≡ is.draft = cc in
    no_meaning c hs is.draft f (subst (λ (d : DraftRows). IsRefusedDraft c d f) draft has.refused) p is.meant

-- what holds of each refusal
pub each_refusal : {T : Type 0} (P Q : PolicyFault → Type 0) (r : Result T (Failure PolicyFault)) → ((f : PolicyFault) → P f → Q f) → IfErr r (IfRefused P) → IfErr r (IfRefused Q)
each_refusal P Q (Ok x) go all = tt
each_refusal P Q (Err e) go all = refused P Q e all go
