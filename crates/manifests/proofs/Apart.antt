-- No way to a declared text of a document of JSON is there twice.
use Rattle.std.proofs.Common.{◌≡◌, ◌≢◌, ℕ, zero, suc, ◌+◌, ◌≤◌, List, [], ◌∷◌, ◌++◌, Option, Some, None, Bool, true, false, arith, codes, refl, sym, subst, ap, ◌∙◌}
use Rattle.std.specs.Prelude.{⊤, All, option_map, if◌then◌else◌}
use Rattle.std.specs.Option.{option_to_list, option_map_or}
use Rattle.std.proofs.lemmas.List.Elements.{All-append, All-nil, All-cons, All-head, All-tail}
use Rattle.std.proofs.lemmas.Option.{slice_get_within, get_or_from_slice_get}
use Rattle.serde_json.specs.Data.{Data, null, boolean, number, string, array, object, Items, no_items, item}
use Rattle.serde_json.specs.Find.{get}
use Rattle.manifests.specs.Steps.{Step, Key, Item, IsToldOnce}
use Rattle.manifests.specs.Json.{is_text, license_paths, paths_among, paths_in, steps_to, text_in, way_in}

-- each way differs from those behind it
abbrev pub AreApart : List (List Step) → Type 0
AreApart [] = ⊤
AreApart (way ∷ ways) = All (λ other. way ≢ other) ways × AreApart ways

-- and so from each of another number
pub told_once : (ways : List (List Step)) → AreApart ways → IsToldOnce ways
told_once [] apart n m way first second = absurd (cc)
told_once (w ∷ ways) apart zero zero way first second = refl
told_once (w ∷ ways) apart zero (suc m) way first second =
    let same : w ≡ way = cc in
    absurd (apart.0 m w (slice_get_within ways m way second) (same ∙ sym (get_or_from_slice_get ways m way w second)))
told_once (w ∷ ways) apart (suc n) zero way first second =
    let same : w ≡ way = cc in
    absurd (apart.0 n w (slice_get_within ways n way first) (same ∙ sym (get_or_from_slice_get ways n way w first)))
told_once (w ∷ ways) apart (suc n) (suc m) way first second = ap suc (told_once ways apart.1 n m way first second)

-- the name of the member at which a way begins
abbrev first_key : List Step → List ℕ
first_key [] = []
first_key (Key key ∷ way) = key
first_key (Item index ∷ way) = []

-- the number of the item of it
abbrev second_item : List Step → ℕ
second_item [] = 0
second_item (step ∷ []) = 0
second_item (step ∷ Key key ∷ way) = 0
second_item (step ∷ Item index ∷ way) = index

-- ways of one kind before ways of another
pub joined : (P Q : List Step → Type 0) → ((way : List Step) → P way → Q way → ⊥) → (ways others : List (List Step))
    → All P ways → All Q others → AreApart ways → AreApart others → AreApart (ways ++ others)
joined P Q differ [] others p q a b = b
joined P Q differ (way ∷ ways) others p q a b = (
  All-append (λ other. way ≢ other) ways others a.0 (λ k d lt same. differ way (All-head P way ways p) (subst Q (sym same) (q k d lt))),
  joined P Q differ ways others (All-tail P way ways p) q a.1 b,
)

-- the ways to one text, if there is one
pub one : (text : Option (List ℕ)) (way : List Step) → AreApart (option_to_list (option_map (λ _. way) text))
one None way = tt
one (Some text) way = (All-nil (λ other. way ≢ other), tt)

pub one_is : (P : List Step → Type 0) (text : Option (List ℕ)) (way : List Step) → P way → All P (option_to_list (option_map (λ _. way) text))
one_is P None way p = All-nil P
one_is P (Some text) way p = All-cons P way [] p (All-nil P)

begins : (key : List ℕ) (index : Option ℕ) (b : Bool) → first_key (if b then steps_to key index else (steps_to key index ++ Key (codes "type") ∷ [])) ≡ key
begins key index true = refl
begins key index false = refl

counts : (key : List ℕ) (from : ℕ) (b : Bool) → second_item (if b then steps_to key (Some from) else (steps_to key (Some from) ++ Key (codes "type") ∷ [])) ≡ from
counts key from true = refl
counts key from false = refl

abbrev pub BeginsAt : List ℕ → List Step → Type 0
BeginsAt key way = first_key way ≡ key

-- the ways among items begin at their member, and none has a number below the first
among_begin : (key : List ℕ) (from : ℕ) (ds : Items) → All (BeginsAt key) (paths_among key from ds)
among_begin key from no_items = All-nil (BeginsAt key)
among_begin key from (item d ds) =
    All-append (BeginsAt key) _ _ (one_is (BeginsAt key) (text_in d) (way_in (steps_to key (Some from)) d) (begins key (Some from) (is_text d)))
    (among_begin key (from + 1) ds)

among_count : (key : List ℕ) (from : ℕ) (ds : Items) → All (λ way. from ≤ second_item way) (paths_among key from ds)
among_count key from no_items = All-nil (λ way. from ≤ second_item way)
among_count key from (item d ds) =
    All-append (λ way. from ≤ second_item way) _ _
    (one_is (λ way. from ≤ second_item way) (text_in d) (way_in (steps_to key (Some from)) d) (omega (arith, counts key from (is_text d))))
    (λ k w lt. omega (arith, among_count key (from + 1) ds k w lt))

among : (key : List ℕ) (from : ℕ) (ds : Items) → AreApart (paths_among key from ds)
among key from no_items = tt
among key from (item d ds) =
    joined (λ way. second_item way ≡ from) (λ way. from + 1 ≤ second_item way) (λ way is below. omega (arith, is, below)) _ _
    (one_is (λ way. second_item way ≡ from) (text_in d) (way_in (steps_to key (Some from)) d) (counts key from (is_text d)))
    (among_count key (from + 1) ds)
    (one (text_in d) (way_in (steps_to key (Some from)) d))
    (among key (from + 1) ds)

in_begin : (key : List ℕ) (d : Data) → All (BeginsAt key) (paths_in key d)
in_begin key (array ds) = among_begin key 0 ds
in_begin key null = All-nil (BeginsAt key)
in_begin key (boolean b) = All-nil (BeginsAt key)
in_begin key (number n) = All-nil (BeginsAt key)
in_begin key (string s) = one_is (BeginsAt key) (Some s) (steps_to key None) refl
in_begin key (object ms) = one_is (BeginsAt key) (text_in (object ms)) (way_in (steps_to key None) (object ms)) refl

in_apart : (key : List ℕ) (d : Data) → AreApart (paths_in key d)
in_apart key (array ds) = among key 0 ds
in_apart key null = tt
in_apart key (boolean b) = tt
in_apart key (number n) = tt
in_apart key (string s) = one (Some s) (steps_to key None)
in_apart key (object ms) = one (text_in (object ms)) (way_in (steps_to key None) (object ms))

member_begin : (key : List ℕ) (found : Option Data) → All (BeginsAt key) (option_map_or (paths_in key) found [])
member_begin key None = All-nil (BeginsAt key)
member_begin key (Some d) = in_begin key d

member_apart : (key : List ℕ) (found : Option Data) → AreApart (option_map_or (paths_in key) found [])
member_apart key None = tt
member_apart key (Some d) = in_apart key d

pub json_ways_apart : (document : Data) → AreApart (license_paths document)
json_ways_apart document =
    joined (BeginsAt (codes "license")) (BeginsAt (codes "licenses")) (λ way is other. absurd (cc)) _ _
    (member_begin (codes "license") (get (codes "license") document))
    (member_begin (codes "licenses") (get (codes "licenses") document))
    (member_apart (codes "license") (get (codes "license") document))
    (member_apart (codes "licenses") (get (codes "licenses") document))
