-- The page as a JSON value, and as its text.
use Rattle.std.specs.Prelude.{◌≡◌, ◌↔◌, ℕ, List, [], ◌∷◌, ◌++◌, Any, Contains, codes, filter, map}
use Rattle.hex.specs.Hex.{encode_lower}
use Rattle.json.specs.Json.{Json, null, string, array, object, Items, no_items, item, no_members, member}
use Rattle.json.specs.Print.{print}
use Rattle.json.specs.Tree.{json_tokens}
use Rattle.sha2.specs.Sha256.{sha256}
use Rattle.license_notice.specs.Notices.{names_of}
use Rattle.license_notice.specs.Places.{bands_with, holds}
use Rattle.license_notice.specs.Rows.{Line}
use Rattle.notice_forms.specs.Told.{Named, Told}

-- nothing is null
abbrev pub text_json : List ℕ → Json
text_json [] = null
text_json (b ∷ bs) = string (b ∷ bs)

abbrev pub items_of : List Json → Items
items_of [] = no_items
items_of (j ∷ js) = item j (items_of js)

abbrev pub texts_json : List (List ℕ) → Json
texts_json texts = array (items_of (map (λ (t : List ℕ). string t) texts))

-- the SHA-256 of a text, in hexadecimal digits with lower-case letters
abbrev pub hash_of : List ℕ → List ℕ
hash_of bytes = encode_lower (sha256 bytes)

-- the texts that stand with the package below them, by their hashes
abbrev pub hashes_with : List Named → Line → List (List ℕ)
hashes_with texts l =
    map (λ (t : Named). hash_of t.bytes) (filter (λ (t : Named). holds t.lines l) texts)

-- a package with its requirements and its texts
abbrev pub package_json : Told → Line → Json
package_json p l =
    object
    (member (codes "name") (string l.name)
    (member (codes "version") (text_json l.version)
    (member (codes "licenses") (texts_json (names_of (bands_with p.bands l)))
    (member (codes "texts") (texts_json (hashes_with p.texts l)) no_members))))

-- a package below a text
abbrev pub holder_json : Line → Json
holder_json l =
    object
    (member (codes "name") (string l.name)
    (member (codes "version") (text_json l.version) no_members))

abbrev pub named_json : Named → Json
named_json t =
    object
    (member (codes "sha256") (string (hash_of t.bytes))
    (member (codes "name") (string t.name)
    (member (codes "packages") (array (items_of (map holder_json t.lines)))
    (member (codes "text") (string t.bytes) no_members))))

abbrev pub packages_json : Told → Json
packages_json p = array (items_of (map (package_json p) p.packages))

-- the whole
abbrev pub told_json : Told → Json
told_json p =
    object
    (member (codes "packages") (packages_json p)
    (member (codes "texts") (array (items_of (map named_json p.texts))) no_members))

abbrev pub json_text : Told → List ℕ
json_text p = print (json_tokens (told_json p))

abbrev pub json_page : Told → List ℕ
json_page p = json_text p ++ 10 ∷ []

-- a package names the hash of a text exactly where it stands below that text
abbrev pub NamesItsTexts : Told → Type 0
NamesItsTexts p = (l : Line) (h : List ℕ) →
    Contains (hashes_with p.texts l) h
    ↔ Any (λ (t : Named). (hash_of t.bytes ≡ h) × Contains t.lines l) p.texts
