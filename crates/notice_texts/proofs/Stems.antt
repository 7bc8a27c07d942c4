-- What stands before the extension of a file's name.
use Rattle.std.proofs.Common.{◌≡◌, ℕ, suc, ◌+◌, ◌≤◌, ◌<◌, eqb, Bool, true, false, cond, ◌&&◌, ◌||◌, List, [], ◌∷◌, ◌++◌, Option, Some, None, MatchOption, Bor, length, get_or, take, drop, refl, sym, ap, ◌∙◌, arith, ne_eqb, take-append-drop}
use Rattle.std.specs.Prelude.{not, nat_eq, bytes_eq, option_map}
use Rattle.std.specs.List.{list_all, starts_with}
use Rattle.std.specs.Str.Pattern.{RFindsChar}
use Rattle.std.proofs.lemmas.Bool.{and_parts}
use Rattle.std.proofs.lemmas.Str.Pattern.{NoCharPasses-char, drop_at_char}
use Rattle.notice_texts.specs.Lacking.{is_extension, is_ending, holds}
use Rattle.notice_texts.specs.Stems.{stem}

abbrev is_plain : List ℕ → Bool
is_plain bytes = list_all (λ d. not (eqb d 46)) bytes

-- whether the stem, if there is one, is the name
abbrev pub is_stem : Option (List ℕ) → List ℕ → Bool
is_stem None name = false
is_stem (Some s) name = bytes_eq name s

no_stem : (bytes : List ℕ) → is_plain bytes ≡ true → stem bytes ≡ None
no_stem [] h = refl
no_stem (b ∷ []) h = refl
no_stem (b ∷ c ∷ bytes) h = pick (eqb b 46) (is_plain (c ∷ bytes)) (stem (c ∷ bytes)) h (no_stem (c ∷ bytes) (and_parts (not (eqb b 46)) (is_plain (c ∷ bytes)) h).1)
  where
    pick : (e p : Bool) (s : Option (List ℕ)) → (not e && p) ≡ true → s ≡ None → cond (e && p) (Some []) (option_map (λ s. b ∷ s) s) ≡ None
    pick true p s h n = absurd (let bad : false ≡ true = h in cc)
    pick false p s h n = ap (option_map (λ s. b ∷ s)) n

ext_plain : (b : ℕ) (bytes : List ℕ) → is_extension (b ∷ bytes) ≡ true → stem bytes ≡ None
ext_plain b [] h = refl
ext_plain b (c ∷ bytes) h = no_stem (c ∷ bytes) (and_parts (eqb b 46) (is_plain (c ∷ bytes)) h).1

spread : (q p e l r : Bool) → (p && e) ≡ (l || r) → ((q && p) && e) ≡ ((q && l) || (q && r))
spread true p e l r h = h
spread false p e l r h = refl

alone : (q p e l : Bool) → (p && e) ≡ (l || false) → ((q && p) && e) ≡ ((q && l) || false)
alone true p e l h = h
alone false p e l h = refl

step : (b c : ℕ) (name : List ℕ) (p e l x : Bool) (s : Option (List ℕ)) → (p && e) ≡ (l || is_stem s name) → (x ≡ true → s ≡ None)
    → ((nat_eq c b && p) && e) ≡ ((nat_eq c b && l) || is_stem (cond x (Some []) (option_map (λ s. b ∷ s) s)) (c ∷ name))
step b c name p e l true s h n = alone (nat_eq c b) p e l (h ∙ ap (λ s. l || is_stem s name) (n refl))
step b c name p e l false None h n = alone (nat_eq c b) p e l h
step b c name p e l false (Some s) h n = spread (nat_eq c b) p e l (bytes_eq name s) h

pub holds_either : (file name : List ℕ) → holds file name ≡ (bytes_eq name file || is_stem (stem file) name)
holds_either [] [] = refl
holds_either [] (c ∷ name) = refl
holds_either (b ∷ bytes) [] = pick (is_extension (b ∷ bytes)) (stem bytes)
  where
    pick : (x : Bool) (s : Option (List ℕ)) → x ≡ is_stem (cond x (Some []) (option_map (λ s. b ∷ s) s)) []
    pick true s = refl
    pick false None = refl
    pick false (Some s) = refl
holds_either (b ∷ bytes) (c ∷ name) =
    step b c name (starts_with nat_eq bytes name) (is_ending (drop (length name) bytes)) (bytes_eq name bytes) (is_extension (b ∷ bytes)) (stem bytes)
    (holds_either bytes name) (ext_plain b bytes)

-- what stands before a dot, if something stands behind it
abbrev pub front_of : List ℕ → List ℕ → Option (List ℕ)
front_of front [] = None
front_of front (e ∷ ext) = Some front

dotted : (front ext : List ℕ) → is_plain (front ++ 46 ∷ ext) ≡ false
dotted [] ext = refl
dotted (f ∷ front) ext = pick (not (eqb f 46)) (dotted front ext)
  where
    pick : (e : Bool) → is_plain (front ++ 46 ∷ ext) ≡ false → (e && is_plain (front ++ 46 ∷ ext)) ≡ false
    pick true h = h
    pick false h = refl

second : (a b : Bool) → b ≡ false → (a && b) ≡ false
second true b h = h
second false b h = refl

no_ext : (b : ℕ) (front ext : List ℕ) → is_extension (b ∷ front ++ 46 ∷ ext) ≡ false
no_ext b [] ext = second (eqb b 46) _ (dotted [] ext)
no_ext b (f ∷ front) ext = second (eqb b 46) _ (dotted (f ∷ front) ext)

stem_before : (front ext : List ℕ) → is_plain ext ≡ true → stem (front ++ 46 ∷ ext) ≡ front_of front ext
stem_before [] [] h = refl
stem_before [] (e ∷ ext) h = ap (λ x. cond x (Some []) (option_map (λ s. 46 ∷ s) (stem (e ∷ ext)))) h
stem_before (b ∷ front) ext h =
    ap (λ x. cond x (Some []) (option_map (λ s. b ∷ s) (stem (front ++ 46 ∷ ext)))) (no_ext b front ext)
    ∙ ap (option_map (λ s. b ∷ s)) (stem_before front ext h) ∙ more ext
  where
    more : (ext : List ℕ) → option_map (λ s. b ∷ s) (front_of front ext) ≡ front_of (b ∷ front) ext
    more [] = refl
    more (e ∷ ext) = refl

plain_at : (bytes : List ℕ) → ((i : ℕ) → i < length bytes → get_or bytes i 0 ≡ 46 → ⊥) → is_plain bytes ≡ true
plain_at [] h = refl
plain_at (b ∷ bytes) h = both (eqb b 46) (is_plain bytes) (ne_eqb b 46 (h 0 (omega arith))) (plain_at bytes (λ i l. h (suc i) (omega arith)))
  where
    both : (e p : Bool) → e ≡ false → p ≡ true → (not e && p) ≡ true
    both true p a b = absurd (let bad : true ≡ false = a in cc)
    both false p a b = b

abbrev pub stem_of : Option (Bor (List ℕ) × Bor (List ℕ)) → Option (List ℕ)
stem_of None = None
stem_of (Some x) = front_of x.0.now x.1.now

-- takes the clause of `rsplit_once`
pub stem_at : (text : List ℕ) (r : Option (Bor (List ℕ) × Bor (List ℕ)))
    → MatchOption r (RFindsChar 46 text None) (λ x. (i : ℕ) × (j : ℕ) × RFindsChar 46 text (Some (i, j)) × (x.0.now ≡ take i text) × (x.1.now ≡ drop j text) × (i ≤ j) × (length x.0.now ≡ i) × (length x.1.now + j ≡ length text))
    → stem text ≡ stem_of r
stem_at text None h = no_stem text (plain_at text (λ i l. NoCharPasses-char 46 text i h (omega arith) l))
stem_at text (Some x) h =
    let i = h.0 in
    let j = h.1 in
    let plain : is_plain (drop j text) ≡ true = plain_at (drop j text) (λ k l. NoCharPasses-char 46 (drop j text) k h.2.0 (omega arith) l) in
    let cut : text ≡ take i text ++ 46 ∷ drop j text = sym (take-append-drop i text) ∙ ap (λ d. take i text ++ d) (drop_at_char 46 text i j h.2.1 (omega arith)) in
    ap stem cut ∙ stem_before (take i text) (drop j text) plain ∙ ap (front_of (take i text)) (sym h.4) ∙ ap (λ f. front_of f x.1.now) (sym h.3)
