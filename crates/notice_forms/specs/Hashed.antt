-- Texts with their hashes, and the tokens of the parts of a page of JSON. Only private clauses cite
-- it.
use Rattle.std.specs.Prelude.{ℕ, List, [], ◌∷◌, ◌++◌, codes, map, string_bytes}
use Rattle.json.specs.Token.{Token}
use Rattle.json.specs.Json.{Json, string, array, object, no_members, member}
use Rattle.json.specs.Tree.{json_tokens}
use Rattle.license_notice.specs.Notices.{line_of}
use Rattle.license_notice.specs.Rows.{Line}
use Rattle.notice_forms.specs.declared.json_form.Hashed.{Hashed}
use Rattle.notice_forms.specs.Json.{holder_json, hash_of, items_of, text_json}
use Rattle.notice_forms.specs.Told.{Named}

abbrev pub with_hash : Named → Named × List ℕ
with_hash t = (t, hash_of t.bytes)

abbrev pub hash_in : Hashed → List ℕ
hash_in h = string_bytes h.hash

abbrev pub hashed : Hashed → Named × List ℕ
hashed h = (
  record { name = h.name.now; lines = map line_of h.packages.now; bytes = h.words.now },
  hash_in h,
)

abbrev pub hashed_json : Named × List ℕ → Json
hashed_json h =
    object
    (member (codes "sha256") (string h.1)
    (member (codes "name") (string h.0.name)
    (member (codes "packages") (array (items_of (map holder_json h.0.lines)))
    (member (codes "text") (string h.0.bytes) no_members))))

-- ---- tokens

abbrev pub member_tokens : List ℕ → Json → List Token
member_tokens key j = Token.key key ∷ json_tokens j

abbrev pub release_tokens : Line → List Token
release_tokens l =
    member_tokens (codes "name") (string l.name) ++
    member_tokens (codes "version") (text_json l.version)

abbrev pub listed : List ℕ → List Token → List Token
listed key ts = Token.key key ∷ Token.begin_array ∷ (ts ++ Token.end_array ∷ [])
