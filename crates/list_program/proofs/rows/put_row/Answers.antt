use Rattle.std.proofs.Common.{rules, ◌≡◌, ◌∙◌, ◌++◌, ◌∷◌, [], length, map, ap}
use Rattle.std.proofs.lemmas.List.{map-append}
use Rattle.list_program.proofs.Gathered.{length_behind}
use Rattle.list_program.proofs.rows.put_row.Goals as goal

pub returns-in_ok-push-in-Some : goal.returns-in_ok-push-in-Some
returns-in_ok-push-in-Some g c =
    let items : c.push.new.self.items ≡ c.args.rows.now.items ++ c.in-Some.row ∷ [] = search rules in (
      g.R.LineRow.shown c.in-Some.row,
      search rules,
      ap (map g.R.LineRow.shown) items ∙ map-append g.R.LineRow.shown c.args.rows.now.items (c.in-Some.row ∷ []),
      ap length items ∙ length_behind c.args.rows.now.items c.in-Some.row,
    )
