-- A set that is given a name more.
use Rattle.std.proofs.Common.{◌≡◌, ℕ, ◌+◌, ◌<◌, length, get_or, filter, Bool, true, false, cond, List, [], ◌∷◌, ◌++◌, String, Global, string_bytes, map, take, refl, sym, ap, ◌∙◌}
use Rattle.std.proofs.lemmas.List.{map-append, take_more}
use Rattle.std.proofs.lemmas.List.Elements.{filter-append}
use Rattle.std.proofs.lemmas.Map.Text.{btree_set_updates_text}
use Rattle.std.specs.Prelude.{bytes_eq, ◌||◌}
use Rattle.std.specs.Ordering.{nat_cmp}
use Rattle.std.specs.String.{string_cmp}
use Rattle.std.specs.Cmp.Lexicographic.{slice_cmp}
use Rattle.std.specs.BTreeSet.{BTreeSet, UpdatesBy}
use Rattle.spdx_list.specs.Files.{is_among}
use Rattle.spdx_list.specs.Names.{Has}

one_more : (names : List (List ℕ)) (name q : List ℕ) → cond (bytes_eq name q) true (is_among names q) ≡ is_among (names ++ name ∷ []) q
one_more [] name q = edge (bytes_eq name q)
  where
    edge : (b : Bool) → cond b true false ≡ (b || false)
    edge true = refl
    edge false = refl
one_more (n ∷ ns) name q = pick (bytes_eq n q) (bytes_eq name q) (one_more ns name q)
  where
    pick : (a b : Bool) → cond b true (is_among ns q) ≡ is_among (ns ++ name ∷ []) q → cond b true (a || is_among ns q) ≡ (a || is_among (ns ++ name ∷ []) q)
    pick true true e = refl
    pick true false e = refl
    pick false true e = e
    pick false false e = e

pub has-insert : (set after : BTreeSet (String Global)) (names : List (List ℕ)) (name : List ℕ) → Has set names → UpdatesBy string_cmp (λ k. slice_cmp nat_cmp name (string_bytes k)) set after true → Has after (names ++ name ∷ [])
has-insert set after names name has updates q =
    btree_set_updates_text name set after true updates q ∙ ap (cond (bytes_eq name q) true) (has q) ∙ one_more names name q

-- the names of one item more
pub grown : (xs : List (String Global)) (i : ℕ) (x : String Global) (name : List ℕ) → i < length xs → x ≡ get_or xs i x → name ≡ string_bytes x
    → map string_bytes (take (i + 1) xs) ≡ map string_bytes (take i xs) ++ name ∷ []
grown xs i x name lt at is =
    ap (map string_bytes) (take_more xs i x lt) ∙ map-append string_bytes (take i xs) (get_or xs i x ∷ [])
    ∙ ap (λ b. map string_bytes (take i xs) ++ b ∷ []) (ap string_bytes (sym at) ∙ sym is)

-- an item more that is kept
pub kept : {E F A : Type 0} (show : E → F) (p : F → Bool) (f : F → A) (done : List E) (e : E) (rows : List A) (row : A) → rows ≡ map f (filter p (map show done)) → p (show e) ≡ true → row ≡ f (show e)
    → rows ++ row ∷ [] ≡ map f (filter p (map show (done ++ e ∷ [])))
kept show p f done e rows row is keep at =
    ap (λ rs. rs ++ row ∷ []) is ∙ ap (λ r. map f (filter p (map show done)) ++ r ∷ []) at
    ∙ sym (map-append f (filter p (map show done)) (show e ∷ []))
    ∙ ap (map f) (ap (λ zs. filter p (map show done) ++ zs) (sym one) ∙ sym (filter-append p (map show done) (show e ∷ [])) ∙ ap (filter p) (sym (map-append show done (e ∷ []))))
  where
    one : filter p (show e ∷ []) ≡ show e ∷ []
    one = rw keep
