-- To each declared text of a document of JSON its way leads.
use Rattle.std.proofs.Common.{◌≡◌, ℕ, zero, suc, ◌+◌, List, [], ◌∷◌, ◌++◌, Option, Some, None, map, arith, codes, refl, sym, ap, ◌∙◌}
use Rattle.std.specs.Prelude.{⊤, option_and_then, option_map, slice_get}
use Rattle.std.specs.Option.{option_to_list, option_map_or}
use Rattle.serde_json.specs.Data.{Data, null, boolean, number, string, array, object, Items, no_items, item}
use Rattle.serde_json.specs.Find.{as_str, get, get_item}
use Rattle.json_places.specs.Paths.{text_at}
use Rattle.json_places.specs.declared.path.Step as json
use Rattle.json_places.specs.declared.path.Step.TheVariants as step
use Rattle.manifests.specs.Steps.{Step, Key, Item, of_json}
use Rattle.manifests.specs.Json.{license_paths, license_texts, paths_among, paths_in, steps_to, text_in, texts_among, texts_in, way_in}
use Rattle.manifests.proofs.JsonWays.{behind, value_at-way, way_at}

-- ---- the steps of a way

back : Step → json.Step
back (Key key) = step.Key (record { ref_ptr = (0, 0); now = key })
back (Item index) = step.Item index

of_back : (way : List Step) → map of_json (map back way) ≡ way
unfolding back
of_back [] = refl
of_back (Key key ∷ way) = ap (λ rest. Key key ∷ rest) (of_back way)
of_back (Item index ∷ way) = ap (λ rest. Item index ∷ rest) (of_back way)

-- ---- the text to which a way leads

abbrev text_on : List Step → Data → Option (List ℕ)
text_on way d = option_and_then as_str (way_at way d)

text_on-back : (way : List Step) (d : Data) → text_at (map back way) d ≡ text_on way d
text_on-back way d = ap (option_and_then as_str) (value_at-way (map back way) d ∙ ap (λ (w : List Step). way_at w d) (of_back way))

-- a way further
onward : (f g : Data → Option Data) (w : Option Data) (o : Option Data) (v : Data) → ((u : Data) → f u ≡ Some v → g u ≡ w)
    → option_and_then f o ≡ Some v → option_and_then g o ≡ w
onward f g w None v h e = absurd (cc)
onward f g w (Some u) v h e = h u e

further : (way : List Step) (x : Step) (d v : Data) → way_at way d ≡ Some v → way_at (way ++ x ∷ []) d ≡ way_at (x ∷ []) v
further [] x d v e = let same : d ≡ v = cc in ap (way_at (x ∷ [])) same
further (y ∷ way) x d v e = onward (way_at way) (way_at (way ++ x ∷ [])) (way_at (x ∷ []) v) (behind y d) v (λ u. further way x u v) e

-- a value's text is what it has at `type`
typed : (o : Option Data) → option_and_then as_str (option_and_then (way_at []) o) ≡ option_and_then as_str o
typed None = refl
typed (Some d) = refl

to_type : (way : List Step) (d v : Data) → way_at way d ≡ Some v → text_on (way ++ Key (codes "type") ∷ []) d ≡ option_and_then as_str (get (codes "type") v)
to_type way d v e = ap (option_and_then as_str) (further way (Key (codes "type")) d v e) ∙ typed (get (codes "type") v)

-- the way to a value's text leads to it
to_text : (way : List Step) (d v : Data) → way_at way d ≡ Some v → text_on (way_in way v) d ≡ text_in v
to_text way d (string s) e = ap (option_and_then as_str) e
to_text way d null e = to_type way d null e
to_text way d (boolean b) e = to_type way d (boolean b) e
to_text way d (number n) e = to_type way d (number n) e
to_text way d (array ds) e = to_type way d (array ds) e
to_text way d (object ms) e = to_type way d (object ms) e

-- ---- ways that lead to texts, one to each

abbrev Lead : Data → List (List ℕ) → List (List Step) → Type 0
Lead d [] [] = ⊤
Lead d (text ∷ texts) (way ∷ ways) = (text_on way d ≡ Some text) × Lead d texts ways
Lead d [] (way ∷ ways) = ⊥
Lead d (text ∷ texts) [] = ⊥

joined : (d : Data) (texts others : List (List ℕ)) (ways more : List (List Step)) → Lead d texts ways → Lead d others more → Lead d (texts ++ others) (ways ++ more)
joined d [] others [] more h k = k
joined d [] others (way ∷ ways) more h k = absurd h
joined d (text ∷ texts) others [] more h k = absurd h
joined d (text ∷ texts) others (way ∷ ways) more h k = (h.0, joined d texts others ways more h.1 k)

one : (d : Data) (text : Option (List ℕ)) (way : List Step) → text_on way d ≡ text → Lead d (option_to_list text) (option_to_list (option_map (λ _. way) text))
one d None way e = tt
one d (Some text) way e = (e, tt)

in_value : (way : List Step) (d v : Data) → way_at way d ≡ Some v → Lead d (option_to_list (text_in v)) (option_to_list (option_map (λ _. way_in way v) (text_in v)))
in_value way d v e = one d (text_in v) (way_in way v) (to_text way d v e)

-- the items that are left are those of the list from that number on
among : (key : List ℕ) (d : Data) (all ds : Items) (from : ℕ) → get key d ≡ Some (array all) → ((i : ℕ) → get_item (from + i) all ≡ get_item i ds)
    → Lead d (texts_among ds) (paths_among key from ds)
among key d all no_items from e left = tt
among key d all (item v ds) from e left =
    let here : get_item from all ≡ Some v = ap (λ n. get_item n all) (omega arith) ∙ left 0 in
    joined d _ _ _ _
    (in_value (steps_to key (Some from)) d v (ap (option_and_then (way_at (Item from ∷ []))) e ∙ ap (option_and_then (way_at [])) here))
    (among key d all ds (from + 1) e (λ i. ap (λ n. get_item n all) (omega arith) ∙ left (suc i)))

in_member : (key : List ℕ) (d v : Data) → get key d ≡ Some v → Lead d (texts_in v) (paths_in key v)
in_member key d (array ds) e = among key d ds ds 0 e (λ i. ap (λ n. get_item n ds) (omega arith))
in_member key d null e = in_value (Key key ∷ []) d null (ap (option_and_then (way_at [])) e)
in_member key d (boolean b) e = in_value (Key key ∷ []) d (boolean b) (ap (option_and_then (way_at [])) e)
in_member key d (number n) e = in_value (Key key ∷ []) d (number n) (ap (option_and_then (way_at [])) e)
in_member key d (string s) e = in_value (Key key ∷ []) d (string s) (ap (option_and_then (way_at [])) e)
in_member key d (object ms) e = in_value (Key key ∷ []) d (object ms) (ap (option_and_then (way_at [])) e)

at_member : (key : List ℕ) (d : Data) (found : Option Data) → get key d ≡ found → Lead d (option_map_or texts_in found []) (option_map_or (paths_in key) found [])
at_member key d None e = tt
at_member key d (Some v) e = in_member key d v e

lead : (d : Data) → Lead d (license_texts d) (license_paths d)
lead d =
    joined d _ _ _ _ (at_member (codes "license") d (get (codes "license") d) refl) (at_member (codes "licenses") d (get (codes "licenses") d) refl)

of_number : (d : Data) (texts : List (List ℕ)) (ways : List (List Step)) (n : ℕ) (text : List ℕ) → Lead d texts ways → slice_get texts n ≡ Some text
    → (way : List Step) × (slice_get ways n ≡ Some way) × (text_on way d ≡ Some text)
of_number d [] [] n text h e = absurd (cc)
of_number d [] (way ∷ ways) n text h e = absurd h
of_number d (t ∷ texts) [] n text h e = absurd h
of_number d (t ∷ texts) (way ∷ ways) zero text h e = (way, refl, h.0 ∙ e)
of_number d (t ∷ texts) (way ∷ ways) (suc n) text h e = of_number d texts ways n text h.1 e

-- the steps to a declared text
pub record LeadsTo (d : Data) (n : ℕ) (text : List ℕ) : Type 0 where
  pub steps : List json.Step
  pub path : slice_get (license_paths d) n ≡ Some (map of_json steps)
  pub at : text_at steps d ≡ Some text

pub led : (d : Data) (n : ℕ) (text : List ℕ) → slice_get (license_texts d) n ≡ Some text → LeadsTo d n text
led d n text e =
    let (way, here, leads) = of_number d (license_texts d) (license_paths d) n text (lead d) e in
    record {
      steps = map back way;
      path = here ∙ ap Some (sym (of_back way));
      at = text_on-back way d ∙ leads;
    }
