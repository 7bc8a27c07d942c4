-- Packages with their expressions and choices, one more.
use Rattle.std.proofs.Common.{◌≡◌, ℕ, zero, suc, List, [], ◌∷◌, ◌++◌, map, ◌∙◌, ap, sym, subst}
use Rattle.std.specs.Prelude.{Bool, true, false, Some, is_some, slice_get, unwrap_or}
use Rattle.std.specs.Global.{Vec}
use Rattle.std.specs.List.{AllZip}
use Rattle.std.proofs.lemmas.List.{map-append}
use Rattle.package_items.specs.declared.package.Package.{Package}
use Rattle.spdx_requirement.specs.declared.failure.Failure.{Failure}
use Rattle.spdx_requirement.specs.declared.failure.Failure.TheVariants.{Refused}
use Rattle.spdx_requirement.specs.declared.requirement.LicenseReq.{LicenseReq}
use Rattle.spdx_requirement.specs.Failures.{IfRefused}
use Rattle.spdx_requirement.specs.Items.{Requirement, requirement_of}
use Rattle.spdx_requirement.specs.Rows.{Rows}
use Rattle.spdx_lexer.specs.declared.token.ParseMode.{ParseMode}
use Rattle.package_choices.specs.Accepted.{held, own_choice}
use Rattle.choice_program.specs.declared.accepted.AllStated.{AllStated}
use Rattle.choice_program.specs.declared.accepted.OwnChoices.{OwnChoices}
use Rattle.choice_program.specs.declared.accepted.Stated.{Stated}
use Rattle.choice_program.specs.declared.unchosen.Unchosen.{Unchosen}
use Rattle.choice_program.specs.Among.{error_of, trees_in, AreOwn, AreStated, HasNoOwn, HasOwn, IsExpressionOf, IsMeant, IsUnread, Meant, meant_of}
use Rattle.std.proofs.lemmas.Bool.{false≢true, true≢false}
use Rattle.spdx_minimize.specs.declared.minimize_error.MinimizeError.{MinimizeError}
use Rattle.spdx_minimize.specs.declared.minimize_error.MinimizeError.TheVariants as error
use Rattle.spdx_minimize.specs.Choice.{Choice, chosen, choice_of}
use Rattle.spdx_minimize.specs.MinimizeFaults.{refused_choice}
use Rattle.package_choices.specs.declared.accepted.unmet.Unmet.{Unmet}
use Rattle.package_choices.specs.declared.accepted.unmet.Unmet.TheVariants.{Expression, Together}
use Rattle.package_choices.specs.Refusals.{TellsJoint}
use Rattle.package_items.specs.Each.{AreHad, none}
use Rattle.package_items.proofs.Each.{more_had, more_lacked}

pub one_stated : (c : Rows) (m : ParseMode) (p : Package) (x : Stated) (old new : AllStated) (ps : List Package) → AreStated c m ps old → meant_of x ≡ record { of = p; tree = x.expression.tree } → IsExpressionOf c m p x.expression.tree
    → new.stated.items ≡ old.stated.items ++ x ∷ [] → new.lacking.items ≡ old.lacking.items → AreStated c m (ps ++ p ∷ []) new
one_stated c m p x old new ps before same is xs ls =
    more_had (IsMeant c m) (IsUnread c m) p (meant_of x) ps (map meant_of old.stated.items) (map meant_of new.stated.items) old.lacking.items new.lacking.items
    before (ap (λ (y : Meant). y.of) same, is) (ap (map meant_of) xs ∙ map-append meant_of old.stated.items (x ∷ [])) ls

pub one_unread : (c : Rows) (m : ParseMode) (p : Package) (u : Unchosen) (f : Failure Unchosen) (old new : AllStated) (ps : List Package) → AreStated c m ps old → f ≡ Refused u → IfRefused (IsUnread c m p) f
    → new.stated.items ≡ old.stated.items → new.lacking.items ≡ old.lacking.items ++ u ∷ [] → AreStated c m (ps ++ p ∷ []) new
one_unread c m p u f old new ps before told is xs ls =
    more_lacked (IsMeant c m) (IsUnread c m) p u ps (map meant_of old.stated.items) (map meant_of new.stated.items) old.lacking.items new.lacking.items
    before (subst (λ (z : Failure Unchosen). IfRefused (IsUnread c m p) z) told is) (ap (map meant_of) xs) ls

pub none_stated : (c : Rows) (m : ParseMode) (all : AllStated) → all.stated.items ≡ [] → all.lacking.items ≡ [] → AreStated c m [] all
none_stated c m all xs ls =
    subst (λ (z : List Unchosen). AreHad (IsMeant c m) (IsUnread c m) [] (map meant_of all.stated.items) z) (sym ls)
    (subst (λ (z : List Stated). AreHad (IsMeant c m) (IsUnread c m) [] (map meant_of z) []) (sym xs) none)

pub one_own : (licensees : List Requirement) (x : Meant) (v : Vec LicenseReq) (old new : OwnChoices) (meant : List Meant) → AreOwn licensees meant old → HasOwn licensees x (map requirement_of v.items)
    → new.choices.items ≡ old.choices.items ++ v ∷ [] → new.lacking.items ≡ old.lacking.items → AreOwn licensees (meant ++ x ∷ []) new
one_own licensees x v old new meant before is vs ls =
    more_had (HasOwn licensees) (HasNoOwn licensees) x (map requirement_of v.items) meant (held old.choices.items) (held new.choices.items) old.lacking.items new.lacking.items
    before is (ap held vs ∙ map-append (λ (w : Vec LicenseReq). map requirement_of w.items) old.choices.items (v ∷ [])) ls

pub one_unmet : (licensees : List Requirement) (x : Meant) (u : Unchosen) (f : Failure Unchosen) (old new : OwnChoices) (meant : List Meant) → AreOwn licensees meant old → f ≡ Refused u → IfRefused (HasNoOwn licensees x) f
    → new.choices.items ≡ old.choices.items → new.lacking.items ≡ old.lacking.items ++ u ∷ [] → AreOwn licensees (meant ++ x ∷ []) new
one_unmet licensees x u f old new meant before told is vs ls =
    more_lacked (HasOwn licensees) (HasNoOwn licensees) x u meant (held old.choices.items) (held new.choices.items) old.lacking.items new.lacking.items
    before (subst (λ (z : Failure Unchosen). IfRefused (HasNoOwn licensees x) z) told is) (ap held vs) ls

pub none_own : (licensees : List Requirement) (own : OwnChoices) → own.choices.items ≡ [] → own.lacking.items ≡ [] → AreOwn licensees [] own
none_own licensees own vs ls =
    subst (λ (z : List Unchosen). AreHad (HasOwn licensees) (HasNoOwn licensees) [] (held own.choices.items) z) (sym ls)
    (subst (λ (z : List (Vec LicenseReq)). AreHad (HasOwn licensees) (HasNoOwn licensees) [] (held z) []) (sym vs) none)

pub refused : {E : Type 0} (P : E → Type 0) (f : Failure E) (e : E) → f ≡ Refused e → IfRefused P f → P e
refused {E} P f e is h = subst (λ (z : Failure E). IfRefused P z) is h

abbrev is_chosen : Choice → Bool
is_chosen (chosen rs) = true
is_chosen c = false

not_refused : (rs : List Requirement) (e : MinimizeError) → chosen rs ≡ refused_choice e → ⊥
not_refused rs error.RequirementsUnmet e = absurd (true≢false (ap is_chosen e))
not_refused rs (error.TooManyRequirements n) e = absurd (true≢false (ap is_chosen e))

never_first : (licensees : List Requirement) (meant : List Meant) (own : List (List Requirement)) (place : ℕ) (e : MinimizeError) → AllZip (HasOwn licensees) meant own
    → slice_get (map (own_choice licensees) (trees_in meant)) place ≡ Some (refused_choice e) → ⊥
never_first licensees [] own place e h is = let bad : false ≡ true = ap is_some is in absurd (false≢true bad)
never_first licensees (x ∷ meant) [] place e h is = absurd h
never_first licensees (x ∷ meant) (rs ∷ own) zero e h is = not_refused rs e (sym h.0 ∙ ap (λ o. unwrap_or o (own_choice licensees x.tree)) is)
never_first licensees (x ∷ meant) (rs ∷ own) (suc place) e h is = never_first licensees meant own place e h.1 is

pub none_together : (licensees : List Requirement) (meant : List Meant) (own : List (List Requirement)) (unmet : Unmet) (e : MinimizeError) → AllZip (HasOwn licensees) meant own
    → TellsJoint licensees (trees_in meant) unmet → e ≡ error_of unmet → choice_of (trees_in meant) licensees ≡ refused_choice e
none_together licensees meant own (Together f) e each told same = told.0 ∙ ap refused_choice (sym same)
none_together licensees meant own (Expression place f) e each told same = absurd (never_first licensees meant own place f each told.refused)
