-- `empty` makes the null pointer, which owns nothing.
use Rattle.std.proofs.Common.{lit<, ◌≡◌, [], ◌∷◌, refl}
use Rattle.std.specs.Prelude.{None}
use mir.Val.{Val}
use base.Logic.{SProp, emp}
use base.Fml.{ftrue}
use types.Kit.{‵, raw, ◌⊛◌, ◌$◌, ◌∵◌, !, qed, by, keep, split, fjoin, use0}
use types.Run.{lit, no_more, and_then, returns, enter}
use types.ByLocal.{alloc_all, pass_all, free_all, look_at, sets}
use types.Part.{agg}
use contract.Monad.{fact, fact_i}
use contract.Running.{tables}
use denote.RattleType.{RattleType}
use denote.RawPtr.{null_ptr}
use denote.Steps.{nothing}
use denote.Triple.Entry.{alive}
use denote.Triple.Walked.{walk_of}
use Rattle.std.proofs.raw_atomic.Walks.{proved, leaves}
use Rattle.spdx_c.specs.contracts.loan.Loan as Loan
use Rattle.spdx_c.proofs.Pointer.{word, Data, made}
use Rattle.spdx_c.specs.contracts.loan.Loan.empty.{ended, clauses}
use Rattle.spdx_c.specs.contracts.loan.Loan.empty.Key.{name as #self}
use Rattle.spdx_c.proofs.loan.Loan.empty.Statement.{statement}
use Rattle.spdx_c.proofs.loan.Loan.empty.Code as code

pub empty_spec : {M : Type 1} → statement M
empty_spec 𝓤 𝓛 𝓜 𝓡 wired =
    let H = 𝓛.H in let 𝓣 = tables 𝓤 H 𝓜 𝓡 𝓡.env in let c = clauses 𝓛 𝓜.mem 𝓡.returns in let To : RattleType = Data Loan.the_type.name in
    proved 𝓛 ended tt c 𝓜 𝓡 tt #self code.function (code.unfolded 𝓤 H 𝓜 𝓡 wired) (λ κs. tt) (λ κs. tt) (λ κs qs bounds a gh are.
    let y : (walk_of 𝓛 ended tt c).Ghost = ((κs, qs, bounds, a, tt), gh) in let Post : Val → SProp 𝓤 = (walk_of 𝓛 ended tt c).post y in
    let r : Loan.the_row.Denot = record { at = null_ptr; held = None; life = 0 } in
    qed 𝓛 ((raw (alive 𝓛 ended.signature κs qs) ⊛ ‵ ftrue) ∷ raw (emp 𝓤) ∷ []) ∵ split ! $ keep ! (0 ∷ []) $
    enter ! 𝓣.C 𝓣.Λ code.function [] Post $ alloc_all ! (λ l. pass_all ! refl tt $
    sets ! (agg ! (and_then ! (lit ! tt) (no_more !))) refl (tt, (record { fits = lit< tt }, tt)) $
    nothing ! $ use0 𝓛 (‵ (To.own_val (null_ptr, tt) (word null_ptr ∷ []))) (made Loan.the_type.name 𝓛 null_ptr) $ fjoin ! $
    use0 𝓛 (raw (fact 𝓤 (r.held ≡ None))) (fact_i 𝓤 (r.held ≡ None) (emp 𝓤) refl) $ nothing ! $
    returns ! (look_at ! 0 refl) $ free_all ! refl $ keep ! (3 ∷ 0 ∷ 2 ∷ 1 ∷ []) $ by ! (leaves 𝓛 ended tt c y (word null_ptr) r tt tt)))
