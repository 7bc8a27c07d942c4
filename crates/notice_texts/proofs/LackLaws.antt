-- Names among names, and what is missing and unused.
use Rattle.std.proofs.Common.{◌≡◌, ℕ, ◌+◌, ◌<◌, Bool, true, false, cond, ◌&&◌, ◌||◌, List, [], ◌∷◌, ◌++◌, Option, Some, None, Bor, length, get_or, map, take, refl, sym, ap, ◌∙◌}
use Rattle.std.specs.Prelude.{not, bytes_eq, filter}
use Rattle.std.specs.Ordering.{nat_cmp}
use Rattle.std.specs.Cmp.Lexicographic.{slice_cmp}
use Rattle.std.specs.BTreeSet.{BTreeSet, UpdatesBy, contains}
use Rattle.std.proofs.lemmas.Cmp.{nat_list_eq_equiv}
use Rattle.std.proofs.lemmas.List.{append-nil, map-append, take_more}
use Rattle.std.proofs.lemmas.List.Elements.{filter-append}
use Rattle.std.proofs.lemmas.List.Folds.{list_any-append}
use Rattle.std.proofs.lemmas.Map.Text.{is_eq-slice_cmp}
use Rattle.std.proofs.lemmas.Map.Views.{any-filter_same}
use Rattle.std.proofs.lemmas.Slice.Eq.{bytes_eq-Decides}
use Rattle.notice_texts.specs.Lacking.{holds, is_among, has_text, is_needed, first_names, missing, unused, MissingExactly, UnusedExactly, CompleteIfNothing}
use Rattle.notice_texts.specs.Sets.{Has, name_cmp}
use Rattle.notice_texts.specs.Stems.{stem}
use Rattle.notice_texts.proofs.Stems.{is_stem, holds_either}

abbrev pub text_of : Bor (List ℕ) → List ℕ
text_of t = t.now

symm : (x y : List ℕ) → bytes_eq x y ≡ bytes_eq y x
symm x y = nat_list_eq_equiv.symm x y

same : (x y : List ℕ) → bytes_eq x y ≡ true → x ≡ y
same x y h = (bytes_eq-Decides x y).0 h

or_false : (b : Bool) → (b || false) ≡ b
or_false true = refl
or_false false = refl

or_cond : (a b : Bool) → cond b true a ≡ (a || b)
or_cond true true = refl
or_cond true false = refl
or_cond false true = refl
or_cond false false = refl

or_assoc : (a b c : Bool) → ((a || b) || c) ≡ (a || (b || c))
or_assoc true b c = refl
or_assoc false b c = refl

-- a name more
pub among_more : (names : List (List ℕ)) (name q : List ℕ) → is_among (names ++ name ∷ []) q ≡ (is_among names q || bytes_eq name q)
among_more names name q =
    list_any-append (λ n. bytes_eq n q) names (name ∷ []) ∙ ap (λ b. is_among names q || b) (or_false (bytes_eq name q))

pub has-insert : (set after : BTreeSet (Bor (List ℕ))) (names : List (List ℕ)) (x : List ℕ) → Has set names → UpdatesBy name_cmp (λ k. slice_cmp nat_cmp x k.now) set after true → Has after (names ++ x ∷ [])
has-insert set after names x has updates r =
    updates.0 r ∙ ap (λ c. cond c true (contains name_cmp set r)) (is_eq-slice_cmp x r.now) ∙ ap (cond (bytes_eq x r.now) true) (has r)
    ∙ or_cond (is_among names r.now) (bytes_eq x r.now) ∙ sym (among_more names x r.now)

-- what is put behind by a file that has a stem, and by one that has none
pub held_more : (names : List (List ℕ)) (file s name : List ℕ) → stem file ≡ Some s → is_among ((names ++ file ∷ []) ++ s ∷ []) name ≡ (is_among names name || holds file name)
held_more names file s name is =
    among_more (names ++ file ∷ []) s name ∙ ap (λ b. b || bytes_eq s name) (among_more names file name)
    ∙ or_assoc (is_among names name) (bytes_eq file name) (bytes_eq s name)
    ∙ ap (λ b. is_among names name || (b || bytes_eq s name)) (symm file name)
    ∙ ap (λ b. is_among names name || (bytes_eq name file || b)) (symm s name)
    ∙ ap (λ t. is_among names name || (bytes_eq name file || is_stem t name)) (sym is)
    ∙ ap (λ b. is_among names name || b) (sym (holds_either file name))

pub held_alone : (names : List (List ℕ)) (file name : List ℕ) → stem file ≡ None → is_among (names ++ file ∷ []) name ≡ (is_among names name || holds file name)
held_alone names file name is =
    among_more names file name ∙ ap (λ b. is_among names name || b) (symm file name ∙ sym (or_false (bytes_eq name file))
    ∙ ap (λ t. bytes_eq name file || is_stem t name) (sym is) ∙ sym (holds_either file name))

-- which file is needed
abbrev stemmed : Option (List ℕ) → List (List ℕ) → Bool
stemmed None names = false
stemmed (Some s) names = is_among names s

pub needed_either : (names : List (List ℕ)) (file : List ℕ) → is_needed names file ≡ (is_among names file || stemmed (stem file) names)
needed_either [] file = none (stem file)
  where
    none : (s : Option (List ℕ)) → false ≡ stemmed s []
    none None = refl
    none (Some s) = refl
needed_either (n ∷ names) file =
    ap (λ b. b || is_needed names file) (holds_either file n) ∙ ap (λ b. (bytes_eq n file || is_stem (stem file) n) || b) (needed_either names file)
    ∙ mixed (bytes_eq n file) (is_among names file) (stem file)
  where
    four : (a b c d : Bool) → ((a || b) || (c || d)) ≡ ((a || c) || (b || d))
    four true b c d = refl
    four false true true d = refl
    four false true false d = refl
    four false false c d = refl

    mixed : (a c : Bool) (s : Option (List ℕ)) → ((a || is_stem s n) || (c || stemmed s names)) ≡ ((a || c) || stemmed s (n ∷ names))
    mixed a c None = four a false c false
    mixed a c (Some s) = four a (bytes_eq n s) c (is_among names s)

pub needed_itself : (names : List (List ℕ)) (file : List ℕ) → is_among names file ≡ true → is_needed names file ≡ true
needed_itself names file h = needed_either names file ∙ ap (λ b. b || stemmed (stem file) names) h

pub needed_stem : (names : List (List ℕ)) (file s : List ℕ) → is_among names file ≡ false → stem file ≡ Some s → is_needed names file ≡ is_among names s
needed_stem names file s h is = needed_either names file ∙ ap (λ b. b || stemmed (stem file) names) h ∙ ap (λ t. stemmed t names) is

pub needed_none : (names : List (List ℕ)) (file : List ℕ) → is_among names file ≡ false → stem file ≡ None → is_needed names file ≡ false
needed_none names file h is = needed_either names file ∙ ap (λ b. b || stemmed (stem file) names) h ∙ ap (λ t. stemmed t names) is

-- the first names of a name more
first_more : (names : List (List ℕ)) (x : List ℕ) → first_names (names ++ x ∷ []) ≡ first_names names ++ cond (is_among names x) [] (x ∷ [])
first_more [] x = refl
first_more (n ∷ names) x =
    ap (λ ns. n ∷ filter (λ m. not (bytes_eq n m)) ns) (first_more names x)
    ∙ ap (λ ns. n ∷ ns) (filter-append (λ m. not (bytes_eq n m)) (first_names names) (cond (is_among names x) [] (x ∷ [])))
    ∙ ap (λ ns. n ∷ filter (λ m. not (bytes_eq n m)) (first_names names) ++ ns) (last (is_among names x))
  where
    keep : (e : Bool) → cond (not e) (x ∷ []) [] ≡ cond (e || false) [] (x ∷ [])
    keep true = refl
    keep false = refl

    gone : (e : Bool) → [] ≡ cond (e || true) [] (x ∷ [])
    gone true = refl
    gone false = refl

    last : (a : Bool) → filter (λ m. not (bytes_eq n m)) (cond a [] (x ∷ [])) ≡ cond (bytes_eq n x || a) [] (x ∷ [])
    last true = gone (bytes_eq n x)
    last false = keep (bytes_eq n x)

pub first_new : (names : List (List ℕ)) (x : List ℕ) → is_among names x ≡ false → first_names (names ++ x ∷ []) ≡ first_names names ++ x ∷ []
first_new names x h = first_more names x ∙ ap (λ b. first_names names ++ cond b [] (x ∷ [])) h

pub first_met : (names : List (List ℕ)) (x : List ℕ) → is_among names x ≡ true → first_names (names ++ x ∷ []) ≡ first_names names
first_met names x h = first_more names x ∙ ap (λ b. first_names names ++ cond b [] (x ∷ [])) h ∙ append-nil (first_names names)

-- a test keeps just the names that pass it
among_filter : (p : List ℕ → Bool) (names : List (List ℕ)) (name : List ℕ) → is_among (filter p names) name ≡ (p name && is_among names name)
among_filter p names name = any-filter_same (λ n. bytes_eq n name) p (p name) (λ k h. ap p (same k name h)) names

among_first : (names : List (List ℕ)) (name : List ℕ) → is_among (first_names names) name ≡ is_among names name
among_first [] name = refl
among_first (n ∷ names) name =
    ap (λ b. bytes_eq n name || b) (among_filter (λ m. not (bytes_eq n m)) (first_names names) name) ∙ pick (bytes_eq n name) (is_among (first_names names) name)
    ∙ ap (λ b. bytes_eq n name || b) (among_first names name)
  where
    pick : (e a : Bool) → (e || (not e && a)) ≡ (e || a)
    pick true a = refl
    pick false a = refl

pub missing_exactly : (used files : List (List ℕ)) → MissingExactly used files (missing used files)
missing_exactly used files name =
    among_filter (λ n. not (has_text files n)) (first_names used) name ∙ ap (λ b. not (has_text files name) && b) (among_first used name)

pub unused_exactly : (used files : List (List ℕ)) → UnusedExactly used files (unused used files)
unused_exactly used files file = among_filter (λ f. not (is_needed used f)) files file

pub complete : (used files : List (List ℕ)) → CompleteIfNothing used files (missing used files)
complete used files none name is = pick (has_text files name) (is_among used name) is (sym (missing_exactly used files name) ∙ ap (λ ns. is_among ns name) none)
  where
    pick : (t u : Bool) → u ≡ true → (not t && u) ≡ false → t ≡ true
    pick true u a b = refl
    pick false u a b = absurd (let bad : true ≡ false = sym a ∙ b in cc)

-- the texts of one item more
pub texts_more : (xs : List (Bor (List ℕ))) (i : ℕ) (d : Bor (List ℕ)) → i < length xs → map text_of (take (i + 1) xs) ≡ map text_of (take i xs) ++ (get_or xs i d).now ∷ []
texts_more xs i d lt = ap (map text_of) (take_more xs i d lt) ∙ map-append text_of (take i xs) (get_or xs i d ∷ [])

-- a name that is among them already
pub has_met : (set : BTreeSet (Bor (List ℕ))) (names : List (List ℕ)) (x : List ℕ) → Has set names → is_among names x ≡ true → Has set (names ++ x ∷ [])
has_met set names x has h q =
    has q ∙ already (is_among names q.now) (bytes_eq x q.now) (λ e. ap (is_among names) (sym (same x q.now e)) ∙ h) ∙ sym (among_more names x q.now)
  where
    already : (a e : Bool) → (e ≡ true → a ≡ true) → a ≡ (a || e)
    already true e f = refl
    already false true f = f refl
    already false false f = refl

-- a filter over an item more, which is kept or left out
pub filter_kept : (p : List ℕ → Bool) (xs : List (List ℕ)) (x : List ℕ) → p x ≡ true → filter p (xs ++ x ∷ []) ≡ filter p xs ++ x ∷ []
filter_kept p xs x h = filter-append p xs (x ∷ []) ∙ ap (λ b. filter p xs ++ cond b (x ∷ []) []) h

pub filter_left : (p : List ℕ → Bool) (xs : List (List ℕ)) (x : List ℕ) → p x ≡ false → filter p (xs ++ x ∷ []) ≡ filter p xs
filter_left p xs x h = filter-append p xs (x ∷ []) ∙ ap (λ b. filter p xs ++ cond b (x ∷ []) []) h ∙ append-nil (filter p xs)

-- the texts of a list that an item is pushed to
pub texts_pushed : (xs ys : List (Bor (List ℕ))) (x : Bor (List ℕ)) (texts : List (List ℕ)) → ys ≡ xs ++ x ∷ [] → map text_of xs ≡ texts → map text_of ys ≡ texts ++ x.now ∷ []
texts_pushed xs ys x texts e is = ap (map text_of) e ∙ map-append text_of xs (x ∷ []) ∙ ap (λ ts. ts ++ x.now ∷ []) is
