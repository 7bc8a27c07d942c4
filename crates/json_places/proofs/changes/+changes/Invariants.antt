use Rattle.std.proofs.Common.{◌≡◌, ◌↔◌, drop}
use Rattle.serde_json.specs.View.{items_view, members_view}
use Rattle.json_places.specs.Paths.{set_at, change_item, change_member}
use Rattle.json_places.proofs.changes.+changes.Given as goal

abbrev pub invariant-are_changed_items-loop-number : goal.invariant-are_changed_items-loop-number
invariant-are_changed_items-loop-number l =
    (items_view l.others.rest.now ≡ change_item (set_at l.rest l.text) l.index l.number (items_view (drop l.number l.x-items)))
    ↔ (items_view l.new.items ≡ change_item (set_at l.rest l.text) l.index 0 (items_view l.old.items))

abbrev pub invariant-are_changed_members-loop-name : goal.invariant-are_changed_members-loop-name
invariant-are_changed_members-loop-name l =
    (members_view l.others ≡ change_member (set_at l.rest l.text) l.key (members_view l.name-iterator))
    ↔ (members_view l.new.entries ≡ change_member (set_at l.rest l.text) l.key (members_view l.old.entries))
