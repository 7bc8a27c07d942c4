use Rattle.std.proofs.Common.{arith, ◌≡◌, ◌∙◌, ◌++◌, ◌∷◌, [], length, map, ap, sym}
use Rattle.std.proofs.lemmas.List.{map-append}
use Rattle.std.proofs.lemmas.Grind.{common_steps}
use Rattle.spdx_tables.specs.Places.{numbered}
use Rattle.spdx_tables.proofs.Numbered.{numbered-shown}
use Rattle.spdx_list.proofs.tables.order.numbered.Goals as goal

pub loop-row-preserved : goal.loop-row-preserved
loop-row-preserved g c =
    let shown = g.R.Placed.shown in
    let place = g.R.Placed.place in
    let done = c.loop-row.yielded in
    let row = c.in-Some.row in
    let items : c.push.new.self.items ≡ c.loop-row.placed.items ++ c.at.result ∷ [] = c.in_ok-push.ensures.items in
    let index : c.len-index.result ≡ length done = grind (arith, c.loop-row.invariant.count) in
    record {
      count = grind (arith, common_steps, c.in_ok-push.ensures.len);
      rows =
          ap (map shown) items ∙ map-append shown c.loop-row.placed.items (c.at.result ∷ [])
          ∙ ap (λ zs. zs ++ shown c.at.result ∷ []) c.loop-row.invariant.rows
          ∙ numbered-shown place shown done row (shown c.at.result) c.len-index.result index c.at.ensures
          ∙ ap (numbered place 0) (sym (map-append shown done (row ∷ [])));
    }
