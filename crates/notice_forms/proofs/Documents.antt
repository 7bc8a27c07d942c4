-- The document of a page.
use Rattle.std.proofs.Common.{◌≡◌, ℕ, ◌≤◌, List, [], ◌∷◌, ◌++◌, length, map, take, Some, flat_map, refl, sym, ap, ◌∙◌, append_assoc, append-nil, option_and_then, arith}
use Rattle.std.proofs.lemmas.List.{take_all}
use Rattle.std.specs.Prelude.{filter}
use Rattle.json.specs.Token.{Token}
use Rattle.json.specs.Lex.{tokens}
use Rattle.json.specs.Json.{Json, string, value, if_last, max_depth, document}
use Rattle.json.specs.Tree.{json_tokens, items_tokens, depth, items_depth}
use Rattle.json.proofs.Printed.Trees.{value-json_tokens}
use Rattle.license_notice.specs.declared.packages.Release.{Release}
use Rattle.license_notice.specs.Notices.{line_of, names_of}
use Rattle.license_notice.specs.Places.{bands_with, holds, numbers_from}
use Rattle.license_notice.specs.Rows.{Line}
use Rattle.notice_forms.specs.declared.json_form.Hashed.{Hashed}
use Rattle.notice_forms.specs.Found.{found_at, text_token}
use Rattle.notice_forms.specs.Hashed.{hashed, hash_in, hashed_json, with_hash, listed}
use Rattle.notice_forms.specs.Json.{hash_of, hashes_with, holder_json, items_of, json_text, named_json, package_json, text_json, told_json}
use Rattle.notice_forms.specs.Told.{Named, Told}
use Rattle.notice_forms.proofs.Picking.{picked, unnumbered}

-- ---- lists of values

items_all : {X : Type 0} (f : X → Json) (xs : List X) → flat_map (λ x. json_tokens (f x)) xs ++ Token.end_array ∷ [] ≡ items_tokens (items_of (map f xs))
items_all f [] = refl
items_all f (x ∷ xs) = append_assoc (json_tokens (f x)) (flat_map (λ x. json_tokens (f x)) xs) (Token.end_array ∷ []) ∙ ap (λ (ts : List Token). json_tokens (f x) ++ ts) (items_all f xs)

items_seen : {X Y : Type 0} (f : Y → Json) (g : X → Y) (xs : List X) → items_of (map (λ x. f (g x)) xs) ≡ items_of (map f (map g xs))
items_seen f g [] = refl
items_seen f g (x ∷ xs) = ap (Rattle.json.specs.Json.item (f (g x))) (items_seen f g xs)

pub items_written : {X Y : Type 0} (f : Y → Json) (g : X → Y) (xs : List X) (n : ℕ) → length xs ≤ n
    → flat_map (λ x. json_tokens (f (g x))) (take n xs) ++ Token.end_array ∷ [] ≡ items_tokens (items_of (map f (map g xs)))
items_written f g xs n all = rw (take_all n xs all) (items_all (λ x. f (g x)) xs ∙ ap items_tokens (items_seen f g xs))

abbrev pub hashed_tokens : Hashed → List Token
hashed_tokens h = json_tokens (hashed_json (hashed h))

abbrev pub holder_tokens : Release → List Token
holder_tokens r = json_tokens (holder_json (line_of r))

abbrev pub package_tokens_of : Told → Release → List Token
package_tokens_of p r = json_tokens (package_json p (line_of r))

pub texts_named : (texts : List Named) → items_of (map hashed_json (map with_hash texts)) ≡ items_of (map named_json texts)
texts_named [] = refl
texts_named (t ∷ texts) = ap (Rattle.json.specs.Json.item (named_json t)) (texts_named texts)

seconds : {X : Type 0} (f : X → Named × List ℕ) (xs : List X) → map (λ x. (f x).1) xs ≡ map (λ (q : Named × List ℕ). q.1) (map f xs)
seconds f [] = refl
seconds f (x ∷ xs) = ap (λ (hs : List (List ℕ)). (f x).1 ∷ hs) (seconds f xs)

pub hashes_are : (hs : List Hashed) (texts : List Named) → map hashed hs ≡ map with_hash texts → map hash_in hs ≡ map (λ (t : Named). hash_of t.bytes) texts
hashes_are hs texts e =
    seconds hashed hs ∙ ap (λ (qs : List (Named × List ℕ)). map (λ (q : Named × List ℕ). q.1) qs) e ∙ sym (seconds with_hash texts)

-- ---- a package's lists

listed_texts : (key : List ℕ) (xs : List (List ℕ)) → listed key (flat_map (λ (x : List ℕ). Token.string x ∷ []) xs) ≡ Token.key key ∷ Token.begin_array ∷ items_tokens (items_of (map (λ (t : List ℕ). string t) xs))
listed_texts key xs = ap (λ (ts : List Token). Token.key key ∷ Token.begin_array ∷ ts) (each xs)
  where
    each : (xs : List (List ℕ)) → flat_map (λ (x : List ℕ). Token.string x ∷ []) xs ++ Token.end_array ∷ [] ≡ items_tokens (items_of (map (λ (t : List ℕ). string t) xs))
    each [] = refl
    each (x ∷ xs) = ap (λ (ts : List Token). Token.string x ∷ ts) (each xs)

mapped : {B : Type 0} (y : B → List ℕ) (bs : List B) → flat_map (λ (b : B). Token.string (y b) ∷ []) bs ≡ flat_map (λ (x : List ℕ). Token.string x ∷ []) (map y bs)
mapped y [] = refl
mapped y (b ∷ bs) = ap (λ (ts : List Token). Token.string (y b) ∷ ts) (mapped y bs)

pub listed_at : {B : Type 0} (key : List ℕ) (lines : B → List Line) (y : B → List ℕ) (bs : List B) (l : Line) → listed key (flat_map (found_at text_token (map y bs)) (numbers_from 0 (map lines bs) l))
    ≡ Token.key key ∷ Token.begin_array ∷ items_tokens (items_of (map (λ (t : List ℕ). string t) (map y (filter (λ (b : B). holds (lines b) l) bs))))
listed_at {B} key lines y bs l =
    ap (listed key) (picked lines y text_token bs l ∙ unnumbered (λ (b : B). holds (lines b) l) (λ (b : B). Token.string (y b) ∷ []) 0 bs ∙ mapped y (filter (λ (b : B). holds (lines b) l) bs))
    ∙ listed_texts key (map y (filter (λ (b : B). holds (lines b) l) bs))

-- ---- it reads back

text_depth : (text : List ℕ) → depth (text_json text) ≡ 0
text_depth [] = refl
text_depth (b ∷ bs) = refl

strings_depth : (xs : List (List ℕ)) → items_depth (items_of (map (λ (t : List ℕ). string t) xs)) ≡ 0
strings_depth [] = refl
strings_depth (x ∷ xs) = omega (arith, strings_depth xs)

holder_depth : (l : Line) → depth (holder_json l) ≤ 1
holder_depth l = omega (arith, text_depth l.version)

holders_depth : (ls : List Line) → items_depth (items_of (map holder_json ls)) ≤ 1
holders_depth [] = omega arith
holders_depth (l ∷ ls) = omega (arith, holder_depth l, holders_depth ls)

package_depth : (p : Told) (l : Line) → depth (package_json p l) ≤ 2
package_depth p l = omega (arith, text_depth l.version, strings_depth (names_of (bands_with p.bands l)), strings_depth (hashes_with p.texts l))

packages_depth : (p : Told) (ls : List Line) → items_depth (items_of (map (package_json p) ls)) ≤ 2
packages_depth p [] = omega arith
packages_depth p (l ∷ ls) = omega (arith, package_depth p l, packages_depth p ls)

named_depth : (t : Named) → depth (named_json t) ≤ 3
named_depth t = omega (arith, holders_depth t.lines)

texts_depth : (ts : List Named) → items_depth (items_of (map named_json ts)) ≤ 3
texts_depth [] = omega arith
texts_depth (t ∷ ts) = omega (arith, named_depth t, texts_depth ts)

pub reads_back_from : (p : Told) → tokens (json_text p) ≡ json_tokens (told_json p) → document (json_text p) ≡ Some (told_json p)
reads_back_from p e =
    ap (option_and_then (λ q. if_last q.0 q.1))
    (ap (value max_depth) (e ∙ sym (append-nil (json_tokens (told_json p)))) ∙ value-json_tokens (told_json p) max_depth [] (omega (arith, packages_depth p p.packages, texts_depth p.texts)))
