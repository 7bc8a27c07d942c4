-- `of_parts` moves the pointer, and what the box owned goes with it.
use Rattle.std.proofs.Common.{◌≡◌, List, [], ◌∷◌, ◌++◌, refl, sym, subst}
use Rattle.std.specs.Prelude.{Some}
use mir.Val.{Val}
use base.Logic.{SProp, ent, emp, id⊢}
use base.Fml.{ftrue, fsep}
use prog.Wp.{WpFn}
use types.Kit.{‵, raw, ◌⊛◌, ◌$◌, ◌∵◌, !, qed, by, move, keep, split, fsplit, fjoin, suffices, use0, use1}
use types.Run.{stop, fld, of_opd, no_more, and_then, returns, enter}
use types.ByLocal.{alloc_all, pass_all, free_all, look_at, get, get_in, sets}
use types.Part.{agg, sub, whole}
use contract.Monad.{fact, fact_i}
use contract.Running.{tables}
use denote.Exit.{yes}
use denote.RattleType.{RattleType}
use denote.RawPtr.{Ptr, block_ptr}
use denote.Steps.{nothing}
use denote.Triple.Entry.{alive}
use denote.Triple.Walked.{Stays, stay_dropped, walk_of, Goes-dropped}
use Rattle.std.proofs.raw_atomic.Walks.{proved_at, leaves}
use Rattle.spdx_c.specs.Owned.{slot_owns}
use Rattle.spdx_c.specs.contracts.slot.Slot as Slot
use Rattle.spdx_c.proofs.Boxed.{E, AsParts}
use Rattle.std_alloc.proofs.BoxSteps.Form.{D, B, box_typed, word as box_word}
use Rattle.std_alloc.proofs.BoxSteps.Steps.{box_out}
use Rattle.spdx_c.proofs.Pointer.{word, Data, made}
use Rattle.spdx_c.specs.contracts.slot.Slot.of_parts.{ended, clauses}
use Rattle.spdx_c.specs.contracts.slot.Slot.of_parts.Key.{name as #self}
use Rattle.spdx_c.proofs.slot.Slot.of_parts.Statement.{statement}
use Rattle.spdx_c.proofs.slot.Slot.of_parts.Code as code

abbrev hs : Stays ended.signature.params ended.kept
hs = (stay_dropped AsParts yes, tt)

pub of_parts_spec : {M : Type 1} → statement M
of_parts_spec 𝓤 𝓛 𝓜 𝓡 wired =
    let H = 𝓛.H in let 𝓣 = tables 𝓤 H 𝓜 𝓡 𝓡.env in let c = clauses 𝓛 𝓜.mem 𝓡.returns in let To : RattleType = Data Slot.the_type.name in
    proved_at 𝓛 ended hs c 𝓜 𝓡 (Goes-dropped 𝓛 0 AsParts yes (λ κs x f. refl), tt) #self code.function (code.unfolded 𝓤 H 𝓜 𝓡 wired) (λ y are.
    let v : D E = record { ptr = y.0.3.0.ptr; alloc = y.0.3.0.alloc; value = y.0.3.0.value } in let vs = y.0.4.0 in
    let Post : Val → SProp 𝓤 = (walk_of 𝓛 ended hs c).post y in let Run : List Val → SProp 𝓤 = λ ws. WpFn 𝓤 H 𝓣.C 𝓣.Λ code.function ws Post in
    qed 𝓛 ((raw (alive 𝓛 ended.signature y.0.0 y.0.1) ⊛ ‵ (fsep ((B E).own_val v vs) ftrue)) ∷ raw (emp 𝓤) ∷ []) ∵ split ! $ move ! (1 ∷ []) $ fsplit ! $
    box_out E ! v vs (λ b o hv e ws fa. fjoin ! $
    let p : Ptr = block_ptr b o in let w : Val = box_word E hv b o in let r : Slot.the_row.Denot = record { at = p; held = Some v.value } in
    -- [what the box owned; the tokens]
    use1 𝓛 (‵ (slot_owns p (Some v.value))) (id⊢ 𝓤 _) $ move ! (0 ∷ 3 ∷ []) $
    suffices ! (Run (w ∷ [])) (subst (λ (us : List Val). ent 𝓤 (Run (w ∷ [])) (Run us)) (sym (λ i. ws i ++ [])) (id⊢ 𝓤 (Run (w ∷ [])))) $
    enter ! 𝓣.C 𝓣.Λ code.function (w ∷ []) Post $ alloc_all ! (λ l. pass_all ! refl (box_typed E hv b o fa, tt) $
    sets ! (of_opd ! (get_in ! (fld ! refl (stop !)) (sub ! 0 refl (whole !)))) refl (tt, tt) $ sets ! (of_opd ! (get ! refl)) refl (tt, tt) $
    sets ! (agg ! (and_then ! (get ! refl) (no_more !))) refl (tt, (tt, tt)) $
    use0 𝓛 (‵ (To.own_val (p, tt) (word p ∷ []))) (made Slot.the_type.name 𝓛 p) $ fjoin ! $
    use0 𝓛 (raw (fact 𝓤 (r.held ≡ Some v.value))) (fact_i 𝓤 (r.held ≡ Some v.value) (emp 𝓤) refl) $ nothing ! $ nothing ! $ fjoin ! $
    returns ! (look_at ! 0 refl) $ free_all ! refl $ keep ! (3 ∷ 0 ∷ 2 ∷ 1 ∷ []) $ by ! (leaves 𝓛 ended hs c y (word p) r (tt, tt) (tt, tt)))))
