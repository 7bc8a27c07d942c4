-- The choices of judgements, and packages with them, one more.
use Rattle.std.proofs.Common.{◌≡◌, ℕ, zero, suc, ◌+◌, ◌<◌, ◌≤◌, List, [], ◌∷◌, ◌++◌, Option, Some, None, Ok, Err, length, map, take, get_or, refl, sym, ◌∙◌, ap, subst, arith}
use Rattle.std.specs.Prelude.{IfErr, Result, slice_get, string_bytes}
use Rattle.std.specs.Borrow.{Bor}
use Rattle.std.proofs.lemmas.List.{map-append}
use Rattle.spdx_requirement.specs.declared.failure.Failure.{Failure}
use Rattle.spdx_requirement.specs.declared.failure.Failure.TheVariants.{Memory, Refused}
use Rattle.spdx_requirement.specs.Failures.{IfRefused}
use Rattle.spdx_requirement.specs.Rows.{Rows}
use Rattle.spdx_policy.specs.Rules.{Rules}
use Rattle.package_items.specs.declared.package.Package.{Package}
use Rattle.spdx_why.specs.Least.{advised}
use Rattle.spdx_gate.specs.declared.judged.Judged.{Judged}
use Rattle.spdx_gate.specs.declared.judgement.Fault.{Fault}
use Rattle.spdx_gate.specs.declared.judgement.Judgement.{Judgement}
use Rattle.spdx_gate.specs.declared.judgement.Outcome.TheVariants as outcome
use Rattle.spdx_gate.specs.declared.report.Report.{Report}
use Rattle.spdx_gate.specs.Judging.{IsOutcome, IsUnread}
use Rattle.gate_program.specs.Asked.{lent}
use Rattle.choice_program.specs.declared.unchosen.Unchosen.{Unchosen}
use Rattle.choice_program.specs.declared.unchosen.Why.{Why}
use Rattle.choice_program.specs.declared.unchosen.Why.TheVariants as why
use Rattle.package_items.specs.Each.{AreHad, none}
use Rattle.choice_program.specs.Unchosen.{told_name}
use Rattle.package_items.proofs.Each.{more_had, more_lacked, next}
use Rattle.choice_program.specs.declared.allowed.AllOwn.{AllOwn}
use Rattle.choice_program.specs.declared.picked.Picked.{Picked}
use Rattle.choice_program.specs.Judged.{AreOwn, AreOwnOn, HasNoOwn, HasNoOwnBy, HasOwn, HasOwnBy, IsJudgedOf, IsJudgementOf, IsNotPicked, IsOneOwn, IsOwnBy, IsPickOf, IsReportOn, IsUnreadableBy, IsWhyNot, IsWhyNotBy, judgement_at, tables_for}
use Rattle.choice_program.specs.Picked.{Pick, pick_of}
use Rattle.choice_program.proofs.Judging.{judgement_is}

-- ---- of one judgement

judged_of : (c : Rows) (p : Rules) (x : Package) (j : Judgement) (k : Judged) → j.outcome ≡ outcome.Judged k → IsJudgementOf c p x (Some j) → IsJudgedOf c p x k
judged_of c p x j k e h = record {
  text = string_bytes j.text;
  text_is = h.0;
  judged = subst (IsOutcome c p (tables_for p x) (string_bytes j.text)) e h.1;
}

pub own_of_judged : (j : Judgement) (k : Judged) (pick : Pick) → j.outcome ≡ outcome.Judged k → IsPickOf k pick → IsOwnBy (Some j) pick
own_of_judged j k pick e is c p x h =
    (subst (IsJudgedOf c p x) (sym is.0) (judged_of c p x j k e h), ap (λ (z : Judged). advised z.choice) is.0 ∙ is.1)

pub none_of_judged : (j : Judgement) (k : Judged) (w : Why) → j.outcome ≡ outcome.Judged k → IsNotPicked k w → IsWhyNotBy (Some j) w
none_of_judged j k why.NotAllowed e is c p x h = (k, judged_of c p x j k e h, is)
none_of_judged j k why.TooMany e is c p x h = (k, judged_of c p x j k e h, is)
none_of_judged j k why.Unstated e is c p x h = absurd is
none_of_judged j k (why.Unreadable t r) e is c p x h = absurd is
none_of_judged j k (why.Unmet m) e is c p x h = absurd is

pub none_of_unread : (j : Judgement) (f : Fault) (w : Why) → j.outcome ≡ outcome.Unreadable f → IsUnreadableBy (string_bytes j.text) f w → IsWhyNotBy (Some j) w
none_of_unread j f (why.Unreadable told r) e is c p x h =
    let unread : IsUnread c p (string_bytes j.text) f = subst (IsOutcome c p (tables_for p x) (string_bytes j.text)) e h.1 in
    (h.0 ∙ ap Some (sym is.0), (f, subst (λ (t : List ℕ). IsUnread c p t f) (sym is.0) unread, is.1))
none_of_unread j f why.NotAllowed e is c p x h = absurd is
none_of_unread j f why.TooMany e is c p x h = absurd is
none_of_unread j f why.Unstated e is c p x h = absurd is
none_of_unread j f (why.Unmet m) e is c p x h = absurd is

pub none_stated : IsWhyNotBy None why.Unstated
none_stated c p x h = h

-- the refused value of a failure
pub refused : {E : Type 0} (P : E → Type 0) (f : Failure E) (e : E) → f ≡ Refused e → IfRefused P f → P e
refused {E} P f e is h = subst (λ (z : Failure E). IfRefused P z) is h

pub why_result : {T : Type 0} (o : Option Judgement) (j : Judgement) (k : Judged) (r : Result T (Failure Why)) → o ≡ Some j → j.outcome ≡ outcome.Judged k → IfErr r (IfRefused (IsNotPicked k)) → IfErr r (IfRefused (IsWhyNotBy o))
why_result o j k (Ok x) e f h = tt
why_result o j k (Err (Refused w)) e f h = subst (λ (z : Option Judgement). IsWhyNotBy z w) (sym e) (none_of_judged j k w f h)
why_result o j k (Err (Memory m)) e f h = tt

pub own_for : (x : Package) (o : Option Judgement) (pick : Pick) → IsOwnBy o pick → HasOwnBy x o pick
own_for x o pick is c p h = is c p x h

pub none_for : (x : Package) (o : Option Judgement) (u : Unchosen) (w : Why) → string_bytes u.name ≡ told_name x → u.why ≡ w → IsWhyNotBy o w → HasNoOwnBy x o u
none_for x o u w n e is c p h = record { name_is = n; why_is = subst (IsWhyNot c p x) (sym e) (is c p x h) }

-- ---- one more

pub one_own : (x : Package) (o : Option Judgement) (own : Picked) (old new : AllOwn) → HasOwnBy x o (pick_of own) → new.own.items ≡ old.own.items ++ own ∷ [] → new.lacking.items ≡ old.lacking.items → IsOneOwn x o old new
one_own x o own old new is ys ls c p h ps before =
    more_had (HasOwn c p) (HasNoOwn c p) x (pick_of own) ps (map pick_of old.own.items) (map pick_of new.own.items) old.lacking.items new.lacking.items
    before (is c p h) (ap (map pick_of) ys ∙ map-append pick_of old.own.items (own ∷ [])) ls

pub one_lacking : (x : Package) (o : Option Judgement) (u : Unchosen) (old new : AllOwn) → HasNoOwnBy x o u → new.own.items ≡ old.own.items → new.lacking.items ≡ old.lacking.items ++ u ∷ [] → IsOneOwn x o old new
one_lacking x o u old new is ys ls c p h ps before =
    more_lacked (HasOwn c p) (HasNoOwn c p) x u ps (map pick_of old.own.items) (map pick_of new.own.items) old.lacking.items new.lacking.items
    before (is c p h) (ap (map pick_of) ys) ls

pub none_yet : (c : Rows) (p : Rules) (all : AllOwn) → all.own.items ≡ [] → all.lacking.items ≡ [] → AreOwn c p [] all
none_yet c p all ys ls =
    subst (λ (z : List Unchosen). AreHad (HasOwn c p) (HasNoOwn c p) [] (map pick_of all.own.items) z) (sym ls)
    (subst (λ (z : List Picked). AreHad (HasOwn c p) (HasNoOwn c p) [] (map pick_of z) []) (sym ys) none)

viewed_at : {A B : Type 0} (view : A → B) (xs : List A) (n : ℕ) (d x : A) → n < length xs → x ≡ get_or xs n d → slice_get (map view xs) n ≡ Some (view x)
viewed_at view [] n d x lt is = absurd (omega (arith, lt))
viewed_at view (y ∷ ys) zero d x lt is = ap (λ z. Some (view z)) (sym is)
viewed_at view (y ∷ ys) (suc n) d x lt is =
    let less : n < length ys = omega (arith, lt) in
    viewed_at view ys n d x less is

-- after so many packages
abbrev pub AreOwnUpTo : Report → List (Bor Package) → ℕ → AllOwn → Type 0
AreOwnUpTo report ps n all = (c : Rows) → (p : Rules) → IsReportOn c p (map lent ps) report → AreOwn c p (map lent (take n ps)) all

pub next_own : (report : Report) (ps : List (Bor Package)) (n : ℕ) (d x : Bor Package) (o : Option Judgement) (old new : AllOwn) → AreOwnUpTo report ps n old → n < length ps → x ≡ get_or ps n d
    → o ≡ judgement_at report n → IsOneOwn (lent x) o old new → AreOwnUpTo report ps (n + 1) new
next_own report ps n d x o old new before lt is same more c p on =
    let judged : IsJudgementOf c p (lent x) o = subst (IsJudgementOf c p (lent x)) (sym same) (judgement_is c p report (map lent ps) n (lent x) on (viewed_at lent ps n d x lt is)) in
    next (AreOwn c p) lent ps n d x old new (before c p on) lt is (more c p judged)

take_whole : {A : Type 0} (xs : List A) (n : ℕ) → length xs ≤ n → take n xs ≡ xs
take_whole [] zero le = refl
take_whole [] (suc n) le = refl
take_whole (x ∷ xs) zero le = absurd (omega (arith, le))
take_whole {A} (x ∷ xs) (suc n) le =
    let rest : length xs ≤ n = omega (arith, le) in
    ap (λ (z : List A). x ∷ z) (take_whole xs n rest)

pub whole_own : (report : Report) (ps : List (Bor Package)) (n : ℕ) (all : AllOwn) → length ps ≤ n → AreOwnUpTo report ps n all → AreOwnOn report (map lent ps) all
whole_own report ps n all le is c p on = subst (λ (z : List (Bor Package)). AreOwn c p (map lent z) all) (take_whole ps n le) (is c p on)
