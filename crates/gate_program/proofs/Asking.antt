-- Each package is asked with its own row.
use Rattle.std.proofs.Common.{◌≡◌, ℕ, ◌+◌, ◌<◌, ◌≤◌, zero, suc, List, [], ◌∷◌, ◌++◌, get_or, length, map, drop, refl, sym, ap, ◌∙◌, add-one, append_assoc, arith}
use Rattle.std.specs.Borrow.{Bor}
use Rattle.std.specs.Prelude.{Bool, Option, None, Some, IfSome, filter, slice_get}
use Rattle.std.specs.Option.{MatchOption, option_copied}
use Rattle.std.proofs.lemmas.Option.{slice_get_past, slice_get_read}
use Rattle.std.proofs.lemmas.List.{append-nil}
use Rattle.package_items.specs.declared.package.Package.{Package}
use Rattle.spdx_gate.specs.declared.report.Report.{Report}
use Rattle.spdx_gate.specs.declared.report.Row.{Row}
use Rattle.gate_program.specs.declared.before.Asked.{Asked}
use Rattle.gate_program.specs.declared.known.Refusal.{Refusal}
use Rattle.gate_program.specs.Known.{is_known}
use Rattle.package_files.specs.declared.listed.Listed.{Listed}
use Rattle.gate_program.specs.Asked.{asked_at, asked_from, asked_of, lent, moved_asked, packages_in, refusal_in}
use Rattle.gate_program.specs.Before.{AreKnown}

pub drop_end : {X : Type 0} (xs : List X) (n : ℕ) → length xs ≤ n → drop n xs ≡ []
drop_end [] zero le = refl
drop_end [] (suc n) le = refl
drop_end (x ∷ xs) zero le = absurd (omega (arith, le))
drop_end (x ∷ xs) (suc n) le =
    let rest : length xs ≤ n = omega (arith, le) in
    drop_end xs n rest

-- one package more is asked
pub one_asked : (report : Report) (ps : List (Bor Package)) (n : ℕ) (p : Bor Package) (o : Option Row) (all new whole : List Asked)
    → map moved_asked new ≡ map moved_asked all ++ asked_at report p.now o → o ≡ slice_get report.rows.items n → drop n ps ≡ p ∷ drop (suc n) ps
    → map moved_asked all ++ asked_from report n (map lent (drop n ps)) ≡ whole
    → map moved_asked new ++ asked_from report (n + 1) (map lent (drop (n + 1) ps)) ≡ whole
one_asked report ps n p o all new whole e row first before =
    let rest = asked_from report (suc n) (map lent (drop (suc n) ps)) in
    ap (λ (m : ℕ). map moved_asked new ++ asked_from report m (map lent (drop m ps))) (add-one n)
    ∙ ap (λ (ys : List Asked). ys ++ rest) (e ∙ ap (λ (o : Option Row). map moved_asked all ++ asked_at report p.now o) row)
    ∙ append_assoc (map moved_asked all) (asked_at report p.now (slice_get report.rows.items n)) rest
    ∙ ap (λ (ys : List (Bor Package)). map moved_asked all ++ asked_from report n (map lent ys)) (sym first)
    ∙ before

-- all of them are asked
pub all_asked : (report : Report) (ps : List (Bor Package)) (n : ℕ) (all whole : List Asked) → length ps ≤ n
    → map moved_asked all ++ asked_from report n (map lent (drop n ps)) ≡ whole → map moved_asked all ≡ whole
all_asked report ps n all whole le e =
    sym (append-nil (map moved_asked all))
    ∙ ap (λ (ys : List (Bor Package)). map moved_asked all ++ asked_from report n (map lent ys)) (sym (drop_end ps n le))
    ∙ e

-- the row that is looked up
pub found : (rows : List Row) (n : ℕ) (o : Option (Bor Row)) (P : Bor Row → Type 0) → IfSome o (λ x. x.now ≡ get_or rows n x.now)
    → MatchOption o (length rows ≤ n) (λ x. (n < length rows) × P x) → option_copied o ≡ slice_get rows n
found rows n None P is at = sym (slice_get_past rows n at)
found rows n (Some x) P is at = sym (slice_get_read rows (length rows) n x.now refl at.0 is)

-- what is known is so of the packages of both
pub are_known : (older : List Listed) (older_report : Report) (files : List Listed) (report : Report) (before now seen_before seen_now : List Asked) (refused refusals refused_seen refusals_seen : List Refusal) (known : List Bool)
    → map moved_asked before ≡ asked_of older_report (packages_in older) → map moved_asked now ≡ asked_of report (packages_in files) → seen_before ≡ before → seen_now ≡ now
    → refused ≡ map refusal_in (filter (λ (a : Asked). a.is_refused) seen_before) → refusals ≡ map refusal_in seen_now → refused_seen ≡ refused → refusals_seen ≡ refusals
    → known ≡ map (is_known refused_seen) refusals_seen → AreKnown older older_report files report known
are_known older older_report files report before now seen_before seen_now refused refusals refused_seen refusals_seen known asked_before asked_now same_before same_now refused_is refusals_is same_refused same_refusals is = record {
  before = before;
  now = now;
  asked_before = asked_before;
  asked_now = asked_now;
  known_are = is
      ∙ ap (λ (rs : List Refusal). map (is_known rs) refusals_seen) (same_refused ∙ refused_is ∙ ap (λ (as' : List Asked). map refusal_in (filter (λ (a : Asked). a.is_refused) as')) same_before)
      ∙ ap (λ (rs : List Refusal). map (is_known (map refusal_in (filter (λ (a : Asked). a.is_refused) before))) rs) (same_refusals ∙ refusals_is ∙ ap (map refusal_in) same_now);
}
