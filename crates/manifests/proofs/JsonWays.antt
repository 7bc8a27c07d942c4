-- Where a text of JSON stands, and what is put there, is told by the names and numbers of the way to it.
use Rattle.std.proofs.Common.{◌≡◌, ℕ, zero, suc, ◌<◌, ◌^◌, List, [], ◌∷◌, Option, Some, None, map, length, refl, sym, ap, ◌∙◌, subst, Bor}
use mathlib.Core.Path.{fun_ext}
use Rattle.std.specs.Prelude.{option_and_then, slice_get, slice_range, IsSomeAnd}
use Rattle.text_places.specs.declared.Span.{Span}
use Rattle.serde_json.specs.Data.{Data}
use Rattle.serde_json.specs.Find.{as_str, get, at}
use Rattle.json_places.specs.declared.path.Path.{Path}
use Rattle.json_places.specs.declared.path.Step as json
use Rattle.json_places.specs.declared.path.Step.TheVariants as step
use Rattle.json_places.specs.Literals.{literals}
use Rattle.json_places.specs.Paths.{value_at, text_at, set_at, set_text, change_member, change_item, change_behind}
use Rattle.json_places.specs.Places.{ArePlaces, Stands, StandsNowhere, IsLiteral, IsRead}
use Rattle.json_places.specs.Mended.{IsMended, with_literal}
use Rattle.json_places.proofs.Placed.{Stands-once}
use Rattle.manifests.specs.Steps.{Step, Key, Item, of_json, json_steps}
use Rattle.serde_json.specs.Read.{read}
use Rattle.manifests.specs.Json.{license_paths, license_texts}
use Rattle.manifests.specs.Sites.{ChangesJson, IsInJson, MendsJson}
use Rattle.manifests.specs.declared.site.Site.{Site}

-- what the way leads to
abbrev pub behind : Step → Data → Option Data
behind (Key key) d = get key d
behind (Item index) d = at index d

abbrev pub way_at : List Step → Data → Option Data
way_at [] d = Some d
way_at (x ∷ xs) d = option_and_then (way_at xs) (behind x d)

pub value_at-way : (xs : List json.Step) (d : Data) → value_at xs d ≡ way_at (map of_json xs) d
value_at-way [] d = refl
value_at-way (step.Key key ∷ xs) d = ap (λ f. option_and_then f (get key.now d)) (fun_ext (value_at-way xs))
value_at-way (step.Item index ∷ xs) d = ap (λ f. option_and_then f (at index d)) (fun_ext (value_at-way xs))

text_at-same : (xs ys : List json.Step) (d : Data) → map of_json xs ≡ map of_json ys → text_at xs d ≡ text_at ys d
text_at-same xs ys d same =
    ap (option_and_then as_str) (value_at-way xs d ∙ ap (λ (way : List Step). way_at way d) same ∙ sym (value_at-way ys d))

-- what is put where the way leads
abbrev change_there : (Data → Data) → Step → Data → Data
change_there change (Key key) (Data.object ms) = Data.object (change_member change key ms)
change_there change (Item index) (Data.array ds) = Data.array (change_item change index 0 ds)
change_there change x d = d

abbrev set_way : List Step → List ℕ → Data → Data
set_way [] text d = set_text text d
set_way (x ∷ xs) text d = change_there (set_way xs text) x d

there-key : (change : Data → Data) (key : Bor (List ℕ)) (d : Data) → change_behind change (step.Key key) d ≡ change_there change (Key key.now) d
there-key change key Data.null = refl
there-key change key (Data.boolean b) = refl
there-key change key (Data.number n) = refl
there-key change key (Data.string s) = refl
there-key change key (Data.array ds) = refl
there-key change key (Data.object ms) = refl

there-item : (change : Data → Data) (index : ℕ) (d : Data) → change_behind change (step.Item index) d ≡ change_there change (Item index) d
there-item change index Data.null = refl
there-item change index (Data.boolean b) = refl
there-item change index (Data.number n) = refl
there-item change index (Data.string s) = refl
there-item change index (Data.array ds) = refl
there-item change index (Data.object ms) = refl

set_at-way : (xs : List json.Step) (text : List ℕ) (d : Data) → set_at xs text d ≡ set_way (map of_json xs) text d
set_at-way [] text d = refl
set_at-way (step.Key key ∷ xs) text d = ap (λ f. change_behind f (step.Key key) d) (fun_ext (set_at-way xs text)) ∙ there-key (set_way (map of_json xs) text) key d
set_at-way (step.Item index ∷ xs) text d = ap (λ f. change_behind f (step.Item index) d) (fun_ext (set_at-way xs text)) ∙ there-item (set_way (map of_json xs) text) index d

set_at-same : (xs ys : List json.Step) (text : List ℕ) (d : Data) → map of_json xs ≡ map of_json ys → set_at xs text d ≡ set_at ys text d
set_at-same xs ys text d same = set_at-way xs text d ∙ ap (λ (way : List Step). set_way way text d) same ∙ sym (set_at-way ys text d)

literal-same : (bytes : List ℕ) (d : Data) (xs ys : List json.Step) (span : Span) → map of_json xs ≡ map of_json ys
    → IsLiteral bytes d xs span → IsLiteral bytes d ys span
literal-same bytes d xs ys span same l = record {
  ordered = l.ordered;
  within = l.within;
  value = subst (λ o. IsSomeAnd o (λ value. IsRead (slice_range bytes span.start span.end) (Data.string value))) (text_at-same xs ys d same) l.value;
}

pub stands-same : (bytes : List ℕ) (d : Data) (xs ys : List json.Step) (span : Span) → map of_json xs ≡ map of_json ys
    → Stands bytes d xs span → Stands bytes d ys span
stands-same bytes d xs ys span same s =
    let is = text_at-same xs ys d same in
    record {
      literal = literal-same bytes d xs ys span same s.literal;
      number = s.number;
      numbered = s.numbered;
      meant = record {
        marks = s.meant.marks;
        reads = s.meant.reads;
        after = sym (text_at-same xs ys s.meant.marks same) ∙ s.meant.after;
        before = λ other. s.meant.before (is ∙ other);
      };
    }

-- where no place was found at a number, nothing stands at its path
pub nothing_at : (text : List ℕ) (d : Data) (paths : List Path) (places : List (Option Span)) (number : ℕ) (path : Path)
    → ArePlaces text d paths places → slice_get paths number ≡ Some path → None ≡ option_and_then (λ place. place) (slice_get places number)
    → StandsNowhere text d path.steps.items
nothing_at text d [] places number path h at none = absurd (cc)
nothing_at text d (q ∷ paths) [] number path h at none = absurd h
nothing_at text d (q ∷ paths) (Some span ∷ places) zero path h at none = absurd (cc)
nothing_at text d (q ∷ paths) (None ∷ places) zero path h at none = let same : q ≡ path = cc in subst (λ (p : Path). StandsNowhere text d p.steps.items) same h.0.1
nothing_at text d (q ∷ paths) (place ∷ places) (suc number) path h at none = nothing_at text d paths places number path h.1 at none

-- and what was found stands there
pub stands_at : (text : List ℕ) (d : Data) (paths : List Path) (places : List (Option Span)) (number : ℕ) (path : Path) (span : Span)
    → ArePlaces text d paths places → slice_get paths number ≡ Some path → Some span ≡ option_and_then (λ place. place) (slice_get places number)
    → Stands text d path.steps.items span
stands_at text d [] places number path span h at found = absurd (cc)
stands_at text d (q ∷ paths) [] number path span h at found = absurd h
stands_at text d (q ∷ paths) (Some other ∷ places) zero path span h at found =
    let same : q ≡ path = cc in
    let is : other ≡ span = cc in
    subst (λ (p : Path). Stands text d p.steps.items span) same (subst (Stands text d q.steps.items) is h.0.0)
stands_at text d (q ∷ paths) (None ∷ places) zero path span h at found = absurd (cc)
stands_at text d (q ∷ paths) (place ∷ places) (suc number) path span h at found = stands_at text d paths places number path span h.1 at found

-- the path of the way of that number
path_at : (paths : List Path) (number : ℕ) (way : List Step) → slice_get (map json_steps paths) number ≡ Some way
    → (path : Path) × (slice_get paths number ≡ Some path) × (json_steps path ≡ way)
path_at [] number way at = absurd (cc)
path_at (p ∷ paths) zero way at = (p, refl, cc)
path_at (p ∷ paths) (suc number) way at = path_at paths number way at

-- where nothing stands at the path of a number, no site has the number
pub no_site_nowhere : (bytes : List ℕ) (d : Data) (texts : List (List ℕ)) (paths : List Path) (number : ℕ) (site : Site)
    → ((path : Path) → slice_get paths number ≡ Some path → StandsNowhere bytes d path.steps.items)
    → site.number ≡ number → IsInJson bytes d texts (map json_steps paths) site → ⊥
no_site_nowhere bytes d texts paths number site nowhere is s =
    let (path, at, same) = path_at paths site.number (map of_json s.steps) s.path in
    nowhere path (ap (slice_get paths) (sym is) ∙ at) site.span (stands-same bytes d s.steps path.steps.items site.span (sym same) s.stands)

-- nor where another text does
pub no_site_of_other : (bytes : List ℕ) (d : Data) (texts : List (List ℕ)) (paths : List Path) (number : ℕ) (path : Path) (text : List ℕ) (site : Site)
    → slice_get paths number ≡ Some path → slice_get texts number ≡ Some text → (text_at path.steps.items d ≡ Some text → ⊥)
    → site.number ≡ number → IsInJson bytes d texts (map json_steps paths) site → ⊥
no_site_of_other bytes d texts paths number path text site at declared other is s =
    let (found, there, same) = path_at paths site.number (map of_json s.steps) s.path in
    let way : found ≡ path = cc in
    let steps : map of_json s.steps ≡ map of_json path.steps.items = sym same ∙ ap json_steps way in
    let number_is = s.number in
    let text_is : site.text.items ≡ text = cc in
    other (sym (text_at-same s.steps path.steps.items d steps) ∙ s.text ∙ ap Some text_is)

-- and no change is made there
pub no_change_nowhere : (bytes : List ℕ) (d : Data) (paths : List Path) (number : ℕ) (old new mended : List ℕ)
    → ((path : Path) → slice_get paths number ≡ Some path → StandsNowhere bytes d path.steps.items)
    → ChangesJson bytes d (slice_get (map json_steps paths) number) old new mended → ⊥
no_change_nowhere bytes d paths number old new mended nowhere c =
    let (path, at, same) = path_at paths number (map of_json c.steps) c.path in
    nowhere path at c.span (stands-same bytes d c.steps path.steps.items c.span (sym same) c.stands)

pub no_change_of_other : (bytes : List ℕ) (d : Data) (paths : List Path) (number : ℕ) (path : Path) (old new mended : List ℕ)
    → slice_get paths number ≡ Some path → (text_at path.steps.items d ≡ Some old → ⊥)
    → ChangesJson bytes d (slice_get (map json_steps paths) number) old new mended → ⊥
no_change_of_other bytes d paths number path old new mended at other c =
    let (found, there, same) = path_at paths number (map of_json c.steps) c.path in
    let way : found ≡ path = cc in
    let steps : map of_json c.steps ≡ map of_json path.steps.items = sym same ∙ ap json_steps way in
    other (sym (text_at-same c.steps path.steps.items d steps) ∙ c.text)

-- a literal that can't be replaced is replaced by no change
pub no_change_refused : (bytes : List ℕ) (d : Data) (paths : List Path) (number : ℕ) (path : Path) (old new mended : List ℕ) (span : Span)
    → length (literals bytes) < 2 ^ 64 → slice_get paths number ≡ Some path → Stands bytes d path.steps.items span
    → (IsMended bytes d path.steps.items span new (with_literal bytes span new) → ⊥)
    → ChangesJson bytes d (slice_get (map json_steps paths) number) old new mended → ⊥
no_change_refused bytes d paths number path old new mended span room at stands none c =
    let (found, there, way) = path_at paths number (map of_json c.steps) c.path in
    let path_is : found ≡ path = cc in
    let same : map of_json c.steps ≡ map of_json path.steps.items = sym way ∙ ap json_steps path_is in
    let other = stands-same bytes d c.steps path.steps.items c.span same c.stands in
    let is : c.span ≡ span = Stands-once bytes d path.steps.items c.span span room other stands in
    let answer : mended ≡ with_literal bytes span new = c.mends.spliced ∙ ap (λ (x : Span). with_literal bytes x new) is in
    none (record {
      replaced = subst (IsLiteral bytes d path.steps.items) is (literal-same bytes d c.steps path.steps.items c.span same c.mends.replaced);
      spliced = refl;
      reads = subst (λ (a : List ℕ). IsRead a (set_at path.steps.items new d)) answer
          (subst (IsRead mended) (set_at-same c.steps path.steps.items new d same) c.mends.reads);
    })

-- where no change is made of the document that the bytes are read as, nothing is mended
pub mends_nothing : (bytes : List ℕ) (d : Data) (paths : List Path) (number : ℕ) (old new mended : List ℕ) → read bytes ≡ Some d
    → slice_get (license_texts d) number ≡ Some old → map json_steps paths ≡ license_paths d
    → ((mended : List ℕ) → ChangesJson bytes d (slice_get (map json_steps paths) number) old new mended → ⊥)
    → MendsJson bytes number new mended → ⊥
mends_nothing bytes d paths number old new mended reads declared are none m =
    let other = m.reads in
    let same : m.document ≡ d = cc in
    let here = m.declared in
    let old_is : m.old ≡ old = cc in
    let change = λ (e : Data) (o : List ℕ). ChangesJson bytes e (slice_get (license_paths e) number) o new mended in
    let made : change d old = subst (λ (e : Data). change e old) same (subst (change m.document) old_is m.changes) in
    none mended (subst (λ (ways : List (List Step)). ChangesJson bytes d (slice_get ways number) old new mended) (sym are) made)
