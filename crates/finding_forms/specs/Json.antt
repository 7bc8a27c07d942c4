-- A finding as a JSON value, and as a line of JSON.
use Rattle.std.specs.Prelude.{ℕ, ◌≢◌, ⊤, List, [], ◌∷◌, ◌++◌, codes, decimal}
use Rattle.json.specs.Json.{Json, number, string, array, object, Items, no_items, item, Members, no_members, member}
use Rattle.json.specs.Print.{print}
use Rattle.json.specs.Tree.{json_tokens}
use Rattle.finding_forms.specs.Finding.{Aid, nothing, write, names, note, Told, from_of, to_of}

abbrev pub texts_of : List (List ℕ) → Items
texts_of [] = no_items
texts_of (text ∷ texts) = item (string text) (texts_of texts)

-- the mended text as `fix`; or the names as `hints`, where there are any, and as `rule` what gave
-- them; or the words as `note`
abbrev pub aid_members : Aid → Members
aid_members nothing = no_members
aid_members (write mended) = member (codes "fix") (string mended) no_members
aid_members (names [] rule) = no_members
aid_members (names (first ∷ others) rule) =
    member (codes "hints") (array (texts_of (first ∷ others)))
    (member (codes "rule") (string rule) no_members)
aid_members (note words) = member (codes "note") (string words) no_members

-- the line and the column are those of the fault, `start` and `end` its bytes in the expression
abbrev pub json_of : Told → Json
json_of t =
    object
    (member (codes "file") (string t.file)
    (member (codes "line") (number (decimal t.seen.line))
    (member (codes "column") (number (decimal t.seen.column))
    (member (codes "expression") (string t.expression)
    (member (codes "verdict") (string (codes "refused"))
    (member (codes "start") (number (decimal (from_of t)))
    (member (codes "end") (number (decimal (to_of t)))
    (member (codes "reason") (string t.reason) (aid_members t.aid)))))))))

abbrev pub json_text : Told → List ℕ
json_text t = print (json_tokens (json_of t))

-- no byte of the text is a newline
abbrev pub HasNoNewline : List ℕ → Type 0
HasNoNewline [] = ⊤
HasNoNewline (b ∷ bs) = (b ≢ 10) × HasNoNewline bs

abbrev pub json_line : Told → List ℕ
json_line t = json_text t ++ 10 ∷ []
