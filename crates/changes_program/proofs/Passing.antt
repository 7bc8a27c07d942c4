-- Where no change is marked, the policy allows what came and what changed its licence.
use Rattle.std.proofs.Common.{◌≡◌, ℕ, ◌+◌, ◌<◌, List, [], ◌∷◌, length, refl, sym, ap, ◌∙◌, subst, arith}
use Rattle.std.specs.List.{list_any}
use Rattle.std.specs.Option.{option_copied}
use Rattle.std.specs.Prelude.{All, Bool, true, false, ◌||◌, not, Option, None, Some, if◌then◌else◌}
use Rattle.std.proofs.lemmas.Bool.{true≢false}
use Rattle.std.proofs.lemmas.List.Elements.{All-cons, All-nil}
use Rattle.std.proofs.lemmas.Option.{none-some}
use Rattle.shelves.specs.Shelf.{Shelved}
use Rattle.spdx_requirement.specs.Rows.{Rows}
use Rattle.list_program.specs.Named.{InsideBytes}
use Rattle.package_files.specs.declared.fault.FileFault.{FileFault}
use Rattle.package_files.specs.declared.listed.Listed.{Listed}
use Rattle.package_files.specs.declared.listed.Wanted.{Wanted}
use Rattle.package_files.specs.All.{AreListed, none, listed, left}
use Rattle.package_files.specs.Listed.{IsListedAt}
use Rattle.package_files.proofs.Each.{whole}
use Rattle.spdx_policy.specs.Rules.{Rules}
use Rattle.spdx_gate.specs.Verdicts.{passes}
use Rattle.package_changes.specs.declared.change.LicenseChange.{LicenseChange}
use Rattle.package_changes.specs.declared.change.LicenseChange.TheVariants as change
use Rattle.package_changes.specs.Changing.{IsLicenseChange}
use Rattle.package_changes.specs.Rows.{ChangeRow, Row, came, stayed, went}
use Rattle.package_changes.specs.declared.forms.Format.{Format}
use Rattle.package_changes.specs.declared.tellings.Telling.{Telling}
use Rattle.gate_program.specs.Policy.{IsPolicyAt}
use Rattle.gate_program.specs.Run.{IsAllowed}
use Rattle.changes_program.specs.declared.run.Request.{Request}
use Rattle.changes_program.specs.declared.run.Run.{Run}
use Rattle.changes_program.specs.declared.run.ToldChanges.{ToldChanges}
use Rattle.changes_program.specs.Said.{AreSaid, IsSaidChange, SaidRow, said_license}
use Rattle.changes_program.specs.Said as saying
use Rattle.changes_program.specs.Tellings.{AreTold, IsMarkOf, judged_if}
use Rattle.changes_program.specs.Run.{IsNew, IsPolicyIf, IsRun, IsTold, IsToldOfBoth, NewOnesPass, is_refused, status_by, status_of}

-- ---- a change

abbrev new_in : Option SaidRow → Option Row
new_in None = None
new_in (Some s) = s.new

passing : (b : Bool) → not b ≡ false → b ≡ true
passing true e = refl
passing false e = absurd (true≢false e)

neither : (a b : Bool) → (a || b) ≡ false → (a ≡ false) × (b ≡ false)
neither true b e = absurd (true≢false e)
neither false b e = (refl, e)

module _ (c : Rows) (p : Rules) where
  abbrev Passes : ChangeRow → Type 0
  Passes x = (new : Row) → IsNew x new → IsAllowed c p (judged_if (Some new))

  unmarked : (new : Row) (b : Bool) → IsMarkOf c p (Some new) b → b ≡ false → IsAllowed c p (judged_if (Some new))
  unmarked new b (v, is, mark) e = (v, is, passing (passes v) (sym mark ∙ e))

  as_newer : (o : Option Row) (r new : Row) (b : Bool) → o ≡ Some r → IsMarkOf c p o b → b ≡ false → r ≡ new → IsAllowed c p (judged_if (Some new))
  as_newer o r new b is mark e same =
      subst (λ (z : Row). IsAllowed c p (judged_if (Some z))) same (unmarked r b (subst (λ (z : Option Row). IsMarkOf c p z b) is mark) e)

  -- nothing is said of a package whose licence stayed
  silent_passes : (x : ChangeRow) → IsSaidChange c x None → Passes x
  silent_passes (came r) is new h = absurd (none-some _ is)
  silent_passes (went r) is new h = absurd h
  silent_passes (stayed old r) (x, is, said) new h = kept x is said
    where
      kept : (x : LicenseChange) → IsLicenseChange c old.license r.license x → None ≡ said_license old r x → IsAllowed c p (judged_if (Some new))
      kept change.Kept is said = absurd (h.1 is)
      kept change.Rewritten is said = absurd (none-some _ said)
      kept (change.Compared x) is said = absurd (none-some _ said)
      kept (change.Untold before after) is said = absurd (none-some _ said)

  said_passes : (x : ChangeRow) (s : SaidRow) (b : Bool) → IsSaidChange c x (Some s) → IsMarkOf c p s.new b → b ≡ false → Passes x
  said_passes (came r) s b is mark e new h = as_newer s.new r new b (ap new_in is) mark e h
  said_passes (went r) s b is mark e new h = absurd h
  said_passes (stayed old r) s b (x, is, said) mark e new h = as_newer s.new r new b (newer x said) mark e h.0
    where
      newer : (x : LicenseChange) → Some s ≡ said_license old r x → s.new ≡ Some r
      newer change.Kept said = absurd (none-some s (sym said))
      newer change.Rewritten said = ap new_in said
      newer (change.Compared x) said = ap new_in said
      newer (change.Untold before after) said = ap new_in said

  each_passes : {xs : List ChangeRow} {said : List SaidRow} → AreSaid c xs said → (ts : List Telling) → AreTold c (Some p) said ts → list_any is_refused ts ≡ false → All Passes xs
  each_passes saying.none ts z e = All-nil Passes
  each_passes (saying.silent {x} {xs} is rest) ts z e = All-cons Passes x xs (silent_passes x is) (each_passes rest ts z e)
  each_passes (saying.one is rest) [] z e = absurd z
  each_passes (saying.one {x} {xs} {s} is rest) (t ∷ ts) z e =
      let parts = neither (is_refused t) (list_any is_refused ts) e in
      All-cons Passes x xs (said_passes x s t.is_refused is z.0.0 parts.0) (each_passes rest ts z.1 parts.1)

-- ---- both files

as_many : {s : Shelved} {w : Wanted} {paths : List (List ℕ)} {files : List Listed} {left_out : List FileFault}
    → AreListed s w paths files left_out → length files + length left_out ≡ length paths
as_many none = refl
as_many (listed h rest) = omega (arith, as_many rest)
as_many (left h kept rest) = omega (arith, as_many rest)

none_left : (left_out : List FileFault) → length left_out ≡ 0 → left_out ≡ []
none_left [] e = refl
none_left (f ∷ fs) e = absurd (omega (arith, e))

pub both_listed : (s : Shelved) (w : Wanted) (p q : List ℕ) (f g : Listed) (left_out : List FileFault)
    → AreListed s w (p ∷ q ∷ []) (f ∷ g ∷ []) left_out → IsListedAt s w p f × IsListedAt s w q g
both_listed s w p q f g left_out is =
    let each = whole s w (p ∷ q ∷ []) (f ∷ g ∷ []) left_out is (none_left left_out (omega (arith, as_many is))) in
    (each.0, each.1.0)

-- ---- a run of status 0

told_zero : (o : Option ToldChanges) → status_by o < 1 → (t : ToldChanges) × (o ≡ Some t) × (t.is_refused ≡ false)
told_zero None lt = absurd (omega (arith, lt))
told_zero (Some t) lt = (t, refl, allowed t.is_refused lt)
  where
    allowed : (b : Bool) → (if b then 1 else 0) < 1 → b ≡ false
    allowed true lt = absurd (omega (arith, lt))
    allowed false lt = refl

the_policy : (s : Shelved) (replacements : List ℕ) (c : Rows) (path : List ℕ) (o : Option Rules) → IsPolicyIf s replacements c (Some path) o → (p : Rules) × (o ≡ Some p) × IsPolicyAt s replacements c path p
the_policy s replacements c path None h = absurd h
the_policy s replacements c path (Some p) h = (p, refl, h)

pub the_files : (c : Rows) (p : Option Rules) (format : Format) (files : List Listed) (t : ToldChanges) → IsToldOfBoth c p format files (Some t)
    → (f : Listed) × (g : Listed) × (files ≡ f ∷ g ∷ []) × IsTold c p format f.packages.items g.packages.items t
the_files c p format [] t e = absurd (none-some t (sym e))
the_files c p format (f ∷ []) t e = absurd (none-some t (sym e))
the_files c p format (f ∷ g ∷ []) t is = (f, g, refl, is)
the_files c p format (f ∷ g ∷ h ∷ more) t e = absurd (none-some t (sym e))

pub new_ones_pass : (s : Shelved) (inside : InsideBytes) (replacements : List ℕ) (a : Request) (run : Run)
    → IsRun s inside replacements a run → status_of run < 1 → (path : List ℕ) → option_copied a.policy ≡ Some path → NewOnesPass s inside replacements a path
new_ones_pass s inside replacements a run is lt path named =
    let c = is.catalogue in
    let policy = the_policy s replacements c path is.policy (subst (λ (o : Option (List ℕ)). IsPolicyIf s replacements c o is.policy) named is.policy_is) in
    let told = told_zero run.told lt in
    let both = the_files c is.policy a.format run.files.items told.0 (subst (λ (o : Option ToldChanges). IsToldOfBoth c is.policy a.format run.files.items o) told.1 is.runs.tells) in
    let is_told : IsTold c (Some policy.0) a.format both.0.packages.items both.1.packages.items told.0 =
    subst (λ (o : Option Rules). IsTold c o a.format both.0.packages.items both.1.packages.items told.0) policy.1 both.3 in
    let each = both_listed s a.wanted a.old.now a.new.now both.0 both.1 run.left_out.items
    (subst (λ (files : List Listed). AreListed s a.wanted (a.old.now ∷ a.new.now ∷ []) files run.left_out.items) both.2 is.runs.reads) in
    record {
      catalogue = c;
      policy = policy.0;
      older = both.0;
      newer = both.1;
      list_is = is.list_is;
      policy_is = policy.2;
      older_is = each.0;
      newer_is = each.1;
      pass = each_passes c policy.0 is_told.says is_told.tellings is_told.tells (sym is_told.refused_is ∙ told.2);
    }
