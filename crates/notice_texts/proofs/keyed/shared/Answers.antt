use Rattle.std.proofs.Common.{◌≡◌, ◌+◌, ◌<◌, List, [], ◌∷◌, ◌++◌, Contains, length, map, take, sym, ap, ◌∙◌, subst, arith}
use Rattle.std.specs.Prelude.{option_map}
use Rattle.notice_texts.specs.Shared.{Held, Shared, held, shared_of}
use Rattle.notice_texts.specs.Entries.{entry_of, firsts, shared_by, holders_at, HasRest, Takes}
use Rattle.notice_texts.proofs.Holding.{map_more, items}
use Rattle.notice_texts.proofs.Sharing.{rest_more, new_pushed, old_left, found_new, found_all, found_old, under_some}
use Rattle.notice_texts.proofs.Viewed.{view_of}
use Rattle.notice_texts.proofs.keyed.shared.Goals.{in-Some+in_ok-push, in_default}
use Rattle.notice_texts.proofs.keyed.shared.Goals as goal

pub loop-one-preserved : goal.loop-one-preserved
loop-one-preserved c =
    let all = c.args.keyed.now in
    let i = c.loop-one.one-index in
    let lt : i < length all = omega arith in
    let es = map entry_of all in
    let met = map entry_of (take i all) in
    let one = c.one-item.result in
    let e = entry_of one in
    let key : c.as_slice.result.now ≡ e.key = c.as_slice.ensures.value in
    let more : map entry_of (take (i + 1) all) ≡ met ++ e ∷ [] = map_more entry_of all i one lt ∙ ap (λ o. met ++ entry_of o ∷ []) (sym c.one-item.is) in
    let taken : Takes c.loop-one.holders e.key c.take.new.holders = subst (λ k. Takes c.loop-one.holders k c.take.new.holders) key c.take.ensures.left in
    let rest : HasRest c.take.new.holders es (met ++ e ∷ []) = rest_more c.loop-one.holders c.take.new.holders es met e c.loop-one.invariant.rest taken in
    let told = ap (option_map (map held)) (c.take.ensures.taken ∙ ap (holders_at c.loop-one.holders) key) ∙ c.loop-one.invariant.rest e.key in
    let there : Contains es e = view_of entry_of all one (i, lt, sym c.one-item.is) in
    record {
      rest = subst (HasRest c.take.new.holders es) (sym more) rest;
      is = subst (λ m. map shared_of c.match-take.shared.items ≡ map (shared_by es) (firsts m)) (sym more)
          (elim c.match-take.branch [
            | in-Some+in_ok-push w ↦
                let found = ap (λ r. option_map (map held) (option_map items r)) (sym w.in-Some.is) ∙ told in
                ap (λ v. map shared_of v.items) w.shared-is
                ∙ new_pushed es met e c.loop-one.shared.items w.push.new.self.items _ w.in_ok-push.ensures.items c.loop-one.invariant.is (found_new _ _ _ found)
                (ap (λ (hs : List Held). let s : Shared = record { bytes = one.text.bytes.now; holders = hs } in s) (found_all _ _ _ found))
            | in_default w ↦
                let found = ap (λ r. option_map (map held) (option_map items r)) (sym w.in_default.is) ∙ told in
                ap (λ v. map shared_of v.items) w.shared-is
                ∙ old_left es met e c.loop-one.shared.items c.loop-one.invariant.is (found_old _ _ (under_some es e there) found)
          ]);
    }
