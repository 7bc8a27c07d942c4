-- Each verdict counts once.
use Rattle.std.proofs.Common.{◌≡◌, ℕ, ◌+◌, Bool, cond, List, [], ◌∷◌, length, refl, arith}
use Rattle.std.specs.Prelude.{count_by}
use Rattle.std.proofs.lemmas.List.Sums.{sum_by-cons}
use Rattle.spdx_gate.specs.declared.package.Verdict.{Verdict}
use Rattle.spdx_gate.specs.declared.package.Verdict.TheVariants.{Allowed, ByException, Unstated, Unreadable, Refused}
use Rattle.spdx_gate.specs.declared.report.Row.{Row}
use Rattle.spdx_gate.specs.Reports.{counts_allowed, counts_refused, counts_unstated}

abbrev pub one_of : Bool → ℕ
one_of b = cond b 1 0

once : (v : Verdict) → one_of (counts_allowed v) + one_of (counts_refused v) + one_of (counts_unstated v) ≡ 1
once Allowed = refl
once ByException = refl
once (Unstated b) = refl
once Unreadable = refl
once Refused = refl

one_more : (p : Row → Bool) (r : Row) (rs : List Row) → count_by p (r ∷ rs) ≡ one_of (p r) + count_by p rs
one_more p r rs = sum_by-cons (λ x. cond (p x) 1 0) r rs

pub each_once : (rows : List Row) → count_by (λ r. counts_allowed r.verdict) rows + count_by (λ r. counts_refused r.verdict) rows + count_by (λ r. counts_unstated r.verdict) rows ≡ length rows
each_once [] = refl
each_once (r ∷ rs) =
    omega (arith, once r.verdict, one_more (λ r. counts_allowed r.verdict) r rs, one_more (λ r. counts_refused r.verdict) r rs, one_more (λ r. counts_unstated r.verdict) r rs, each_once rs)
