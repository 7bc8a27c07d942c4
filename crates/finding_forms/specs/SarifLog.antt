-- A log of SARIF 2.1.0, whatever its results.
use Rattle.std.specs.Prelude.{ℕ, List, [], ◌∷◌, ◌++◌, Bool, true, false, if◌then◌else◌, codes}
use Rattle.json.specs.Json.{Json, string, array, object, Items, no_items, item, no_members, member}
use Rattle.json.specs.Token.{Token}
use Rattle.json.specs.Print.{print}
use Rattle.json.specs.Tree.{json_tokens}

abbrev pub text_object : List ℕ → Json
text_object text = object (member (codes "text") (string text) no_members)

abbrev pub artifact : List ℕ → Json
artifact path = object (member (codes "uri") (string path) no_members)

-- ---- the log as a value

abbrev pub tool : List ℕ → Json
tool version =
    object (member (codes "driver") (object
    (member (codes "name") (string (codes "spdx"))
    (member (codes "version") (string version) no_members))) no_members)

abbrev pub items_of : List Json → Items
items_of [] = no_items
items_of (j ∷ js) = item j (items_of js)

-- the log of one run of a tool in this version, with these results
abbrev pub log_of : List ℕ → List Json → Json
log_of version results =
    object
    (member (codes "$schema") (string (codes "https://json.schemastore.org/sarif-2.1.0.json"))
    (member (codes "version") (string (codes "2.1.0"))
    (member (codes "runs") (array (item (object
    (member (codes "tool") (tool version)
    (member (codes "columnKind") (string (codes "unicodeCodePoints"))
    (member (codes "results") (array (items_of results)) no_members)))) no_items)) no_members)))

-- ---- the log as it is put, piece by piece

abbrev pub tool_tokens : List ℕ → List Token
tool_tokens version =
    Token.key (codes "tool") ∷ Token.begin_object ∷ Token.key (codes "driver") ∷
    Token.begin_object ∷
    Token.key (codes "name") ∷ Token.string (codes "spdx") ∷ Token.key (codes "version") ∷
    Token.string version ∷ Token.end_object ∷ Token.end_object ∷ []

-- up to the first result; columns count characters
abbrev pub beginning_tokens : List ℕ → List Token
beginning_tokens version =
    (Token.begin_object ∷ Token.key (codes "$schema") ∷
    Token.string (codes "https://json.schemastore.org/sarif-2.1.0.json") ∷
    Token.key (codes "version") ∷ Token.string (codes "2.1.0") ∷
    Token.key (codes "runs") ∷ Token.begin_array ∷ Token.begin_object ∷ []) ++
    (tool_tokens version ++
    (Token.key (codes "columnKind") ∷ Token.string (codes "unicodeCodePoints") ∷
    Token.key (codes "results") ∷ Token.begin_array ∷ []))

abbrev pub sarif_beginning : List ℕ → List ℕ
sarif_beginning version = print (beginning_tokens version)

-- behind the last result
abbrev pub sarif_closing : List ℕ
sarif_closing = codes "]}]}"

abbrev pub sarif_ending : List ℕ
sarif_ending = sarif_closing ++ 10 ∷ []

-- the results, one behind the other
abbrev pub results_text : Bool → List Json → List ℕ
results_text is_first [] = []
results_text is_first (j ∷ js) =
    ((if is_first then [] else 44 ∷ []) ++ print (json_tokens j)) ++ results_text false js

-- all of it but for the newline
abbrev pub log_text : List ℕ → List Json → List ℕ
log_text version results = sarif_beginning version ++ (results_text true results ++ sarif_closing)
