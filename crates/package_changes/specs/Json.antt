-- The changes as a JSON value, and as its text.
use Rattle.std.specs.Prelude.{ℕ, List, [], ◌∷◌, ◌++◌, Option, None, Some, codes}
use Rattle.json.specs.Token.{Token}
use Rattle.json.specs.Json.{Json, null, boolean, string, array, object, Items, no_items, item, no_members, member}
use Rattle.json.specs.Print.{print}
use Rattle.json.specs.Tree.{json_tokens}
use Rattle.package_changes.specs.declared.tellings.Release.{Release}
use Rattle.package_changes.specs.declared.tellings.Telling.{Telling}
use Rattle.package_changes.specs.Tellings.{how_name, reason_name}

-- nothing is null
abbrev pub text_json : List ℕ → Json
text_json [] = null
text_json (b ∷ bs) = string (b ∷ bs)

abbrev pub side_json : Option Release → Json
side_json None = null
side_json (Some r) =
    object
    (member (codes "version") (text_json r.version.now)
    (member (codes "license") (text_json r.license.now) no_members))

abbrev pub json_of : Telling → Json
json_of t =
    object
    (member (codes "change") (string (how_name t.how))
    (member (codes "name") (string t.name.now)
    (member (codes "old") (side_json t.old)
    (member (codes "new") (side_json t.new)
    (member (codes "enough_before") (text_json t.enough_before.now)
    (member (codes "enough_now") (text_json t.enough_now.now)
    (member (codes "untold_before") (text_json (reason_name t.untold_before))
    (member (codes "untold_now") (text_json (reason_name t.untold_now))
    (member (codes "refused") (boolean t.is_refused) no_members)))))))))

abbrev pub items_of : List Telling → Items
items_of [] = no_items
items_of (t ∷ ts) = item (json_of t) (items_of ts)

abbrev pub json_of_all : List Telling → Json
json_of_all ts = object (member (codes "changes") (array (items_of ts)) no_members)

abbrev pub json_text : List Telling → List ℕ
json_text ts = print (json_tokens (json_of_all ts))

-- ---- the tokens of its parts

abbrev pub member_tokens : List ℕ → Json → List Token
member_tokens key j = Token.key key ∷ json_tokens j

abbrev pub what_tokens : Telling → List Token
what_tokens t =
    member_tokens (codes "change") (string (how_name t.how)) ++
    (member_tokens (codes "name") (string t.name.now) ++
    (member_tokens (codes "old") (side_json t.old) ++
    member_tokens (codes "new") (side_json t.new)))

abbrev pub why_tokens : Telling → List Token
why_tokens t =
    member_tokens (codes "enough_before") (text_json t.enough_before.now) ++
    (member_tokens (codes "enough_now") (text_json t.enough_now.now) ++
    (member_tokens (codes "untold_before") (text_json (reason_name t.untold_before)) ++
    (member_tokens (codes "untold_now") (text_json (reason_name t.untold_now)) ++
    member_tokens (codes "refused") (boolean t.is_refused))))
