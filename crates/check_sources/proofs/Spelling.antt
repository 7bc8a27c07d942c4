-- How a path is spelled makes no difference to what is below it.
use Rattle.std.proofs.Common.{◌≡◌, refl, sym, ap, ◌∙◌, ℕ, ◌<◌, ◌==◌, Bool, true, false, cond, ◌&&◌, List, [], ◌∷◌, ◌++◌, Option, Some, None, length, arith}
use Rattle.std.specs.Prelude.{bytes_eq, codes, filter, slice_index}
use Rattle.std.specs.List.{list_all}
use Rattle.std.specs.Path.{IsRelative, PathStartsWith, cur_dir, first_piece, is_dot_at, is_name, later_pieces, leading_components, path_components, path_names, root_dir, slash}
use Rattle.std.proofs.lemmas.Bool.{true≢false}
use Rattle.std.proofs.lemmas.List.{append-nil}
use Rattle.std.proofs.lemmas.List.Elements.{filter-append}
use Rattle.std.proofs.lemmas.Slice.Eq.{bytes_eq-Decides}
use Rattle.check_sources.proofs.Unused.{first_passes}
use Rattle.check_sources.specs.Untagged.{IsSameBySlash, IsSameFromHere, IsSamePathFromHere, continues, is_text, leads_down, parts_of, root_of}

-- ---- what is below

-- other parts behind those of the folder
pub continues-append : (parts rest : List (List ℕ)) → continues parts (parts ++ rest) ≡ list_all leads_down rest
continues-append [] rest = refl
continues-append (part ∷ parts) rest =
    ap (λ b. b && continues parts (parts ++ rest)) ((bytes_eq-Decides part part).1 refl) ∙ continues-append parts rest

split_by : (part other : List ℕ) (parts others : List (List ℕ)) (b : Bool) → bytes_eq part other ≡ b
    → (continues parts others ≡ true → (rest : List (List ℕ)) × (others ≡ parts ++ rest))
    → (b && continues parts others) ≡ true → (rest : List (List ℕ)) × (other ∷ others ≡ (part ∷ parts) ++ rest)
split_by part other parts others true is more h =
    let found = more h in
    let same : part ≡ other = (bytes_eq-Decides part other).0 is in
    (found.0, ap (λ p. p ∷ others) (sym same) ∙ ap (λ ps. part ∷ ps) found.1)
split_by part other parts others false is more h = cc

-- there are other parts, if it is so
pub continues-split : (parts others : List (List ℕ)) → continues parts others ≡ true → (rest : List (List ℕ)) × (others ≡ parts ++ rest)
continues-split [] others h = (others, refl)
continues-split (part ∷ parts) [] h = cc
continues-split (part ∷ parts) (other ∷ others) h = split_by part other parts others (bytes_eq part other) refl (continues-split parts others) h

pub continues_not : (parts others : List (List ℕ)) → ((rest : List (List ℕ)) × (others ≡ parts ++ rest) → ⊥) → continues parts others ≡ false
continues_not parts others never = by (continues parts others) (λ h. never (continues-split parts others h))
  where
    by : (b : Bool) → (b ≡ true → ⊥) → b ≡ false
    by true never = absurd (never refl)
    by false never = refl

pub below_it : (parts others rest : List (List ℕ)) → others ≡ parts ++ rest → list_all leads_down rest ≡ continues parts others
below_it parts others rest is = sym (continues-append parts rest) ∙ ap (continues parts) (sym is)

-- ---- the parts, by the components

components_are : (path : List ℕ) → path_components path ≡ leading_components path ++ path_names path
unfolding path_components
components_are path = refl

components_dot : path_components (codes ".") ≡ cur_dir ∷ []
unfolding path_components path_names
components_dot = refl

no_dot : (path : List ℕ) (rest : List (List ℕ)) → path_names path ≡ cur_dir ∷ rest → ⊥
unfolding path_names
no_dot path rest e = true≢false (sym (first_passes is_name (first_piece path ∷ later_pieces path) cur_dir rest e))

abbrev begins : List (List ℕ) → Bool
begins [] = false
begins (part ∷ parts) = bytes_eq part root_dir

without_dot : (root dot : Bool) (names rest : List (List ℕ)) → (names ≡ cur_dir ∷ rest → ⊥)
    → cond root (root_dir ∷ []) (cond dot (cur_dir ∷ []) []) ++ names ≡ cur_dir ∷ rest → rest ≡ cond root (root_dir ∷ []) [] ++ names
without_dot true dot names rest never e = absurd (true≢false (ap begins e))
without_dot false true names rest never e = cc
without_dot false false names rest never e = absurd (never e)

with_none : (root dot : Bool) (names : List (List ℕ))
    → ((rest : List (List ℕ)) × (cond root (root_dir ∷ []) (cond dot (cur_dir ∷ []) []) ++ names ≡ cur_dir ∷ rest) → ⊥)
    → cond root (root_dir ∷ []) (cond dot (cur_dir ∷ []) []) ++ names ≡ cond root (root_dir ∷ []) [] ++ names
with_none true dot names never = refl
with_none false true names never = absurd (never (names, refl))
with_none false false names never = refl

pub stripped : (path rest : List ℕ) → path_components path ≡ path_components (codes ".") ++ path_components rest → path_components rest ≡ parts_of path
stripped path rest e =
    without_dot (slice_index path 0 == slash) (is_dot_at path 0) (path_names path) (path_components rest) (no_dot path (path_components rest))
    (sym (components_are path) ∙ e ∙ ap (λ cs. cs ++ path_components rest) components_dot)

pub unstripped : (path : List ℕ) → (PathStartsWith path (codes ".") → ⊥) → path_components path ≡ parts_of path
unstripped path never =
    components_are path ∙ with_none (slice_index path 0 == slash) (is_dot_at path 0) (path_names path)
    (λ found. never (found.0, components_are path ∙ found.1 ∙ ap (λ cs. cs ++ found.0) (sym components_dot)))

-- ---- spellings

first_same : (xs : List ℕ) → first_piece (xs ++ 47 ∷ []) ≡ first_piece xs
first_same [] = refl
first_same (b ∷ xs) = ap (λ (rest : List ℕ). cond (b == slash) [] (b ∷ rest)) (first_same xs)

more_by : (is : Bool) (f g : List ℕ) (ls ms : List (List ℕ)) → f ≡ g → ls ≡ ms ++ [] ∷ []
    → cond is (f ∷ ls) ls ≡ cond is (g ∷ ms) ms ++ [] ∷ []
more_by true f g ls ms e h = ap (λ x. x ∷ ls) e ∙ ap (λ l. g ∷ l) h
more_by false f g ls ms e h = h

later_more : (xs : List ℕ) → later_pieces (xs ++ 47 ∷ []) ≡ later_pieces xs ++ [] ∷ []
later_more [] = refl
later_more (b ∷ xs) =
    more_by (b == slash) (first_piece (xs ++ 47 ∷ [])) (first_piece xs) (later_pieces (xs ++ 47 ∷ [])) (later_pieces xs) (first_same xs) (later_more xs)

names-slash : (xs : List ℕ) → path_names (xs ++ 47 ∷ []) ≡ path_names xs
unfolding path_names
names-slash xs =
    ap (λ (f : List ℕ). filter is_name (f ∷ later_pieces (xs ++ 47 ∷ []))) (first_same xs)
    ∙ ap (λ (l : List (List ℕ)). filter is_name (first_piece xs ∷ l)) (later_more xs)
    ∙ filter-append is_name (first_piece xs ∷ later_pieces xs) ([] ∷ [])
    ∙ append-nil (filter is_name (first_piece xs ∷ later_pieces xs))

names-here : (path : List ℕ) → path_names (46 ∷ 47 ∷ path) ≡ path_names path
unfolding path_names
names-here path = refl

parts-slash : (folder : List ℕ) → 0 < length folder → parts_of (folder ++ codes "/") ≡ parts_of folder
parts-slash [] h = absurd (omega (arith, h))
parts-slash (b ∷ folder) h = ap (λ names. root_of (b ∷ folder) ++ names) (names-slash (b ∷ folder))

root_none : (path : List ℕ) (is : Bool) → (slice_index path 0 == slash) ≡ is → IsRelative path → cond is (root_dir ∷ []) [] ≡ []
root_none path true is relative = absurd (relative (grind (arith, is)))
root_none path false is relative = refl

parts-here : (path : List ℕ) → IsRelative path → parts_of (codes "./" ++ path) ≡ parts_of path
parts-here path relative =
    names-here path ∙ sym (ap (λ root. root ++ path_names path) (root_none path (slice_index path 0 == slash) refl relative))

pub same_slash : (folder : Option (List ℕ)) (path : List ℕ) → IsSameBySlash folder path (is_text folder path)
same_slash None path = tt
same_slash (Some f) path = λ some. ap (λ parts. continues parts (parts_of path)) (sym (parts-slash f some))

pub same_here : (folder : Option (List ℕ)) (path : List ℕ) → IsSameFromHere folder path (is_text folder path)
same_here None path = tt
same_here (Some f) path = λ relative. ap (λ parts. continues parts (parts_of path)) (sym (parts-here f relative))

pub same_path : (folder : Option (List ℕ)) (path : List ℕ) → IsSamePathFromHere folder path (is_text folder path)
same_path None path = λ relative. refl
same_path (Some f) path = λ relative. ap (continues (parts_of f)) (sym (parts-here path relative))
