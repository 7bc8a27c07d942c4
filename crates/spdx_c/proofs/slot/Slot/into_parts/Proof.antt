-- `into_parts` moves the pointer, and what the slot owned goes with it.
use Rattle.std.proofs.Common.{◌≡◌, List, [], ◌∷◌, ◌++◌, refl, sym, ap, ◌∙◌, subst}
use Rattle.std.specs.Prelude.{Some}
use mir.Val.{Val}
use base.Logic.{SProp, ent, emp, id⊢, never, fst∗}
use base.Fml.{ftrue, fsep}
use prog.Wp.{WpFn}
use types.Logic.{sem}
use types.Kit.{‵, raw, ◌⊛◌, ◌$◌, ◌∵◌, !, qed, by, move, keep, drop, split, fsplit, fjoin, suffices, use0, use1, rewrite}
use types.Run.{stop, fld, of_opd, no_more, and_then, returns, enter}
use types.ByLocal.{alloc_all, pass_all, free_all, look_at, get, get_in, sets}
use types.Part.{agg, sub, whole}
use contract.Monad.{fact, fact_i}
use contract.Running.{tables}
use denote.Exit.{yes}
use denote.RattleType.{RattleType}
use denote.Laws.{Is, shows}
use denote.Signature.{plain}
use denote.Memory.{part_at}
use base.Fraction.{full_share}
use denote.RawPtr.{Ptr, block_ptr, in_a_block}
use denote.Steps.{nothing, heard, peeks}
use denote.Triple.Entry.{alive}
use denote.Triple.Walked.{Stays, stay_dropped, walk_of, Goes-dropped}
use Rattle.std.proofs.raw_atomic.Walks.{proved_at, leaves}
use Rattle.spdx_c.specs.Owned.{slot_owns}
use Rattle.spdx_c.specs.Held.{IsHeld}
use Rattle.spdx_c.specs.contracts.slot.Slot as Slot
use Rattle.spdx_c.proofs.Boxed.{E}
use Rattle.std_alloc.proofs.BoxSteps.Form.{D, R, τ, box_typed, word as box_word}
use Rattle.std_alloc.proofs.BoxSteps.Steps.{box_in}
use Rattle.std.proofs.alloc.Calls.{token, handle_tells}
use Rattle.std_heap.specs.contracts.Global as Heap
use mir.Raw.{raw as bare}
use denote.Signature.{type_at}
use denote.RawPtr.{null_ptr}
use Rattle.spdx_c.proofs.Pointer.{word, Data, told, held_some}
use Rattle.spdx_c.specs.contracts.slot.Slot.into_parts.{ended, clauses, signature}
use Rattle.spdx_c.specs.contracts.slot.Slot.into_parts.Key.{name as #self}
use Rattle.spdx_c.proofs.slot.Slot.into_parts.Statement.{statement}
use Rattle.spdx_c.proofs.slot.Slot.into_parts.Code as code

abbrev hs : Stays ended.signature.params ended.kept
hs = (stay_dropped (plain (λ _. Slot.the_row)) yes, (stay_dropped (plain (λ _. Heap.the_row)) yes, tt))

pub into_parts_spec : {M : Type 1} → statement M
into_parts_spec 𝓤 𝓛 𝓜 𝓡 wired =
    let H = 𝓛.H in let 𝓣 = tables 𝓤 H 𝓜 𝓡 𝓡.env in let c = clauses 𝓛 𝓜.mem 𝓡.returns in let From : RattleType = Data Slot.the_type.name in let To = type_at signature.result tt in
    proved_at 𝓛 ended hs c 𝓜 𝓡 (Goes-dropped 𝓛 0 (plain (λ _. Slot.the_row)) yes (λ κs x f. refl), (Goes-dropped 𝓛 0 (plain (λ _. Heap.the_row)) yes (λ κs x f. refl), tt)) #self code.function (code.unfolded 𝓤 H 𝓜 𝓡 wired) (λ y are.
    let v = y.0.3.0 in let a = y.0.3.1.0 in let vs = y.0.4.0 in let us = y.0.4.1.0 in
    let Post : Val → SProp 𝓤 = (walk_of 𝓛 ended hs c).post y in let Run : List Val → SProp 𝓤 = λ ws. WpFn 𝓤 H 𝓣.C 𝓣.Λ code.function ws Post in
    qed 𝓛 ((raw (alive 𝓛 ended.signature y.0.0 y.0.1) ⊛ ‵ (fsep (Slot.the_row.own_val v vs) (fsep (Heap.the_row.own_val a us) ftrue))) ∷ raw (fact 𝓤 (IsHeld v.held)) ∷ []) ∵ move ! (1 ∷ []) $ heard ! (IsHeld v.held) (λ held.
    let x = (held_some v.held held).0 in let is = (held_some v.held held).1 in
    split ! $ move ! (1 ∷ []) $ fsplit ! $ fsplit ! $ move ! (2 ∷ []) $ fsplit ! $
    -- [the allocator; the field; what the slot owns; the tokens]
    move ! (0 ∷ 2 ∷ 3 ∷ 4 ∷ []) $ rewrite ! 2 (λ o. ‵ (slot_owns v.at o)) is refl $
    handle_tells E.al ! a us (λ hv ea fa. move ! (1 ∷ []) $
    peeks ! From (Is From) (shows 𝓛 From) (v.at, tt) vs (λ so. drop ! $ move ! (1 ∷ []) $
    in_a_block ! v.at (λ p. slot_owns p (Some x)) (fst∗ 𝓤 (never 𝓤) (sem 𝓛 (token E.al a (bare (τ E)) null_ptr))) (λ b o e.
    let p : Ptr = block_ptr b o in let w : Val = word p in let r : D E = record { ptr = p; alloc = a; value = x } in let made-of : To.Denot = record { ptr = p; alloc = a; value = x } in
    let ws : vs ≡ w ∷ [] = told Slot.the_type.name v.at vs so ∙ ap (λ (q : Ptr). word q ∷ []) e in
    suffices ! (Run (w ∷ hv ∷ [])) (subst (λ (all : List Val). ent 𝓤 (Run (w ∷ hv ∷ [])) (Run all)) (sym (λ i. ws i ++ (ea i ++ []))) (id⊢ 𝓤 (Run (w ∷ hv ∷ [])))) $
    enter ! 𝓣.C 𝓣.Λ code.function (w ∷ hv ∷ []) Post $ alloc_all ! (λ l. pass_all ! refl ((tt, (tt, tt)), (fa, tt)) $
    sets ! (of_opd ! (get_in ! (fld ! refl (stop !)) (sub ! 0 refl (whole !)))) refl (tt, tt) $ sets ! (of_opd ! (get ! refl)) refl (tt, tt) $
    sets ! (agg ! (and_then ! (get ! refl) (and_then ! (get ! refl) (no_more !)))) refl (box_typed E hv b o fa) $
    -- [what the slot owned; the allocator; the tokens]
    use1 𝓛 (‵ (part_at (R E) full_share x b o) ⊛ ‵ (token E.al a (bare (τ E)) p)) (id⊢ 𝓤 _) $ split ! $ box_in E ! r b o x refl refl $
    use1 𝓛 (‵ (To.own_val made-of (box_word E hv b o ∷ []))) (id⊢ 𝓤 _) $
    use0 𝓛 (raw (fact 𝓤 (v.held ≡ Some x))) (fact_i 𝓤 (v.held ≡ Some x) (emp 𝓤) is) $ nothing ! $ nothing ! $ fjoin ! $ nothing ! $ fjoin ! $
    returns ! (look_at ! 0 refl) $ free_all ! refl $ keep ! (3 ∷ 0 ∷ 2 ∷ 1 ∷ []) $ by ! (leaves 𝓛 ended hs c y (box_word E hv b o) made-of (tt, (tt, tt)) (tt, (tt, tt)))))))))
