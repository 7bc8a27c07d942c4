use Rattle.std.proofs.Common.{◌≡◌, ◌↔◌, drop}
use Rattle.serde_json.specs.View.{items_view, members_view}
use Rattle.json_places.proofs.same.+same.Given as goal

abbrev pub invariant-are_same_items-loop-x : goal.invariant-are_same_items-loop-x
invariant-are_same_items-loop-x l =
    (items_view l.others.rest.now ≡ items_view (drop l.x-index l.x-items)) ↔ (items_view l.new.items ≡ items_view l.old.items)

abbrev pub invariant-are_same_members-loop-name : goal.invariant-are_same_members-loop-name
invariant-are_same_members-loop-name l =
    (members_view l.others ≡ members_view l.name-iterator) ↔ (members_view l.new.entries ≡ members_view l.old.entries)
