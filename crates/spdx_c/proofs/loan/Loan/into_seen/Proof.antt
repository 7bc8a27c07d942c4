-- `into_seen` moves the pointer, and the right to read goes with it.
use Rattle.std.proofs.Common.{◌≡◌, List, [], ◌∷◌, ◌++◌, refl, sym, ap, ◌∙◌, subst}
use Rattle.std.specs.Prelude.{Some}
use mir.Val.{Val}
use base.Logic.{SProp, ent, emp, id⊢, never, fst∗}
use base.Fml.{ftrue, fsep}
use prog.Wp.{WpFn}
use types.Logic.{sem}
use types.Kit.{‵, raw, ◌⊛◌, ◌$◌, ◌∵◌, !, qed, by, move, keep, drop, split, fsplit, fjoin, suffices, use0, rewrite}
use types.Run.{stop, fld, of_opd, no_more, and_then, returns, enter}
use types.ByLocal.{alloc_all, pass_all, free_all, look_at, get, get_in, sets}
use types.Part.{agg, sub, whole}
use contract.Monad.{fact, fact_i}
use contract.Running.{tables}
use denote.Exit.{yes}
use denote.RattleType.{RattleType}
use denote.Laws.{Is, shows}
use denote.Signature.{plain}
use denote.Memory.{shared_of}
use denote.RawPtr.{Ptr, block_ptr, in_a_block}
use denote.Steps.{nothing, heard, peeks}
use denote.Struct.Lending.{lent_at}
use denote.Triple.Entry.{alive}
use denote.Triple.Walked.{Stays, stay_dropped, walk_of, Goes-dropped}
use Rattle.std.proofs.raw_atomic.Walks.{proved_at, leaves}
use Rattle.spdx_catalogue.specs.contracts.catalogue.Catalogue.{the_row as T}
use Rattle.spdx_c.specs.Owned.{loan_owns}
use Rattle.spdx_c.specs.Held.{IsHeld}
use Rattle.spdx_c.specs.contracts.loan.Loan as Loan
use Rattle.spdx_c.specs.contracts.loan.Seen as Seen
use Rattle.spdx_c.proofs.Pointer.{word, Data, told, made, held_some}
use Rattle.spdx_c.specs.contracts.loan.Loan.into_seen.{ended, clauses}
use Rattle.spdx_c.specs.contracts.loan.Loan.into_seen.Key.{name as #self}
use Rattle.spdx_c.proofs.loan.Loan.into_seen.Statement.{statement}
use Rattle.spdx_c.proofs.loan.Loan.into_seen.Code as code

abbrev hs : Stays ended.signature.params ended.kept
hs = (stay_dropped (plain (λ _. Loan.the_row)) yes, tt)

pub into_seen_spec : {M : Type 1} → statement M
into_seen_spec 𝓤 𝓛 𝓜 𝓡 wired =
    let H = 𝓛.H in let 𝓣 = tables 𝓤 H 𝓜 𝓡 𝓡.env in let c = clauses 𝓛 𝓜.mem 𝓡.returns in let From : RattleType = Data Loan.the_type.name in let To : RattleType = Data Seen.the_type.name in
    proved_at 𝓛 ended hs c 𝓜 𝓡 (Goes-dropped 𝓛 0 (plain (λ _. Loan.the_row)) yes (λ κs x f. refl), tt) #self code.function (code.unfolded 𝓤 H 𝓜 𝓡 wired) (λ y are.
    let v = y.0.3.0 in let vs = y.0.4.0 in let Post : Val → SProp 𝓤 = (walk_of 𝓛 ended hs c).post y in let Run : List Val → SProp 𝓤 = λ ws. WpFn 𝓤 H 𝓣.C 𝓣.Λ code.function ws Post in
    qed 𝓛 ((raw (alive 𝓛 ended.signature y.0.0 y.0.1) ⊛ ‵ (fsep (Loan.the_row.own_val v vs) ftrue)) ∷ raw (fact 𝓤 (IsHeld v.held)) ∷ []) ∵ move ! (1 ∷ []) $ heard ! (IsHeld v.held) (λ held.
    let x = (held_some v.held held).0 in let is = (held_some v.held held).1 in
    split ! $ move ! (1 ∷ []) $ fsplit ! $ fsplit ! $
    -- [the field; what it is lent; nothing; the tokens]
    move ! (0 ∷ 1 ∷ 3 ∷ []) $ rewrite ! 1 (λ o. ‵ (loan_owns v.at v.life o)) is refl $
    peeks ! From (Is From) (shows 𝓛 From) (v.at, tt) vs (λ so. drop ! $ fsplit ! $ move ! (1 ∷ []) $
    in_a_block ! v.at (λ p. lent_at T p x (v.life ∷ [])) (fst∗ 𝓤 (never 𝓤) (sem 𝓛 (shared_of T x 0 0 (v.life ∷ [])))) (λ b o e.
    let p : Ptr = block_ptr b o in let w : Val = word p in let r : Seen.the_row.Denot = record { at = p; rows = x; life = v.life } in
    let ws : vs ≡ w ∷ [] = told Loan.the_type.name v.at vs so ∙ ap (λ (q : Ptr). word q ∷ []) e in
    suffices ! (Run (w ∷ [])) (subst (λ (us : List Val). ent 𝓤 (Run (w ∷ [])) (Run us)) (sym (λ i. ws i ++ [])) (id⊢ 𝓤 (Run (w ∷ [])))) $
    enter ! 𝓣.C 𝓣.Λ code.function (w ∷ []) Post $ alloc_all ! (λ l. pass_all ! refl ((tt, (tt, tt)), tt) $
    sets ! (of_opd ! (get_in ! (fld ! refl (stop !)) (sub ! 0 refl (whole !)))) refl (tt, tt) $ sets ! (of_opd ! (get ! refl)) refl (tt, tt) $
    sets ! (agg ! (and_then ! (get ! refl) (no_more !))) refl (tt, (tt, tt)) $
    -- [the loan; the token; the tokens]
    move ! (1 ∷ 0 ∷ []) $ fjoin ! $ use0 𝓛 (‵ (To.own_val (p, tt) (w ∷ []))) (made Seen.the_type.name 𝓛 p) $ fjoin ! $
    use0 𝓛 (raw (fact 𝓤 (v.held ≡ Some x))) (fact_i 𝓤 (v.held ≡ Some x) (emp 𝓤) is) $ nothing ! $ nothing ! $ fjoin ! $
    returns ! (look_at ! 0 refl) $ free_all ! refl $ keep ! (3 ∷ 0 ∷ 2 ∷ 1 ∷ []) $ by ! (leaves 𝓛 ended hs c y w r (tt, tt) (tt, tt)))))))
