-- What is written at the numbers of the lists that hold a package is what is written of those lists.
use Rattle.std.proofs.Common.{◌≡◌, ℕ, suc, ◌+◌, Bool, true, false, cond, List, [], ◌∷◌, ◌++◌, map, flat_map, Option, None, Some, option_map, refl, ap, ◌∙◌, arith}
use Rattle.std.specs.Prelude.{filter, slice_get}
use Rattle.std.specs.Option.{option_map_or}
use Rattle.std.proofs.lemmas.Option.{slice_get-map}
use Rattle.license_notice.specs.declared.packages.Group.{Group}
use Rattle.license_notice.specs.Notices.{band_of, bands_of}
use Rattle.license_notice.specs.Places.{holds, numbers_from}
use Rattle.license_notice.specs.Rows.{Line}
use Rattle.notice_forms.specs.Found.{found_at}
use Rattle.notice_forms.specs.Numbered.{numbered}

-- where ys has from n on what y says of bs
pub picked_from : {B Y X : Type 0} (lines : B → List Line) (y : B → Y) (f : ℕ → Y → List X) (ys : List Y) (n : ℕ) (bs : List B) (l : Line) → ((i : ℕ) → slice_get ys (n + i) ≡ slice_get (map y bs) i)
    → flat_map (found_at f ys) (numbers_from n (map lines bs) l) ≡ numbered (λ k (b : B). cond (holds (lines b) l) (f k (y b)) []) n bs
picked_from lines y f ys n [] l h = refl
picked_from {B} {Y} {X} lines y f ys n (b ∷ bs) l h = by (holds (lines b) l) refl (picked_from lines y f ys (n + 1) bs l (λ i. ap (slice_get ys) (let e : n + 1 + i ≡ n + suc i = omega arith in e) ∙ h (suc i)))
  where
    here : slice_get ys n ≡ slice_get (map y (b ∷ bs)) 0
    here = ap (slice_get ys) (let e : n ≡ n + 0 = omega arith in e) ∙ h 0

    by : (c : Bool) → holds (lines b) l ≡ c → flat_map (found_at f ys) (numbers_from (n + 1) (map lines bs) l) ≡ numbered (λ k (b : B). cond (holds (lines b) l) (f k (y b)) []) (n + 1) bs →
        flat_map (found_at f ys) (numbers_from n (map lines (b ∷ bs)) l) ≡ numbered (λ k (b : B). cond (holds (lines b) l) (f k (y b)) []) n (b ∷ bs)
    by true e more = rw e (ap (λ (z : _). option_map_or (f n) z [] ++ flat_map (found_at f ys) (numbers_from (n + 1) (map lines bs) l)) here ∙ ap (λ (xs : List X). f n (y b) ++ xs) more)
    by false e more = rw e more

pub picked : {B Y X : Type 0} (lines : B → List Line) (y : B → Y) (f : ℕ → Y → List X) (bs : List B) (l : Line)
    → flat_map (found_at f (map y bs)) (numbers_from 0 (map lines bs) l) ≡ numbered (λ k (b : B). cond (holds (lines b) l) (f k (y b)) []) 0 bs
picked lines y f bs l = picked_from lines y f (map y bs) 0 bs l (λ i. ap (slice_get (map y bs)) (let e : 0 + i ≡ i = omega arith in e))

-- without their places
pub unnumbered : {B X : Type 0} (p : B → Bool) (f : B → List X) (n : ℕ) (bs : List B) → numbered (λ k (b : B). cond (p b) (f b) []) n bs ≡ flat_map f (filter p bs)
unnumbered p f n [] = refl
unnumbered {X = X} p f n (b ∷ bs) = by (p b) refl (unnumbered p f (n + 1) bs)
  where
    by : (c : Bool) → p b ≡ c → numbered (λ k (b : _). cond (p b) (f b) []) (n + 1) bs ≡ flat_map f (filter p bs) → numbered (λ k (b : _). cond (p b) (f b) []) n (b ∷ bs) ≡ flat_map f (filter p (b ∷ bs))
    by true e more = rw e (ap (λ (xs : List X). f b ++ xs) more)
    by false e more = rw e more

-- ---- at one number

pub at_some : {S B X : Type 0} (see : S → B) (f : ℕ → B → List X) (xs : List S) (k : ℕ) (s : S) → slice_get xs k ≡ Some s → found_at f (map see xs) k ≡ f k (see s)
at_some {B = B} see f xs k s e =
    ap (λ (z : Option B). option_map_or (f k) z []) (slice_get-map see xs k ∙ ap (option_map see) e)

pub at_none : {S B X : Type 0} (see : S → B) (f : ℕ → B → List X) (xs : List S) (k : ℕ) → slice_get xs k ≡ None → found_at f (map see xs) k ≡ []
at_none {B = B} see f xs k e =
    ap (λ (z : Option B). option_map_or (f k) z []) (slice_get-map see xs k ∙ ap (option_map see) e)

pub requirement_at : (groups : List Group) (k : ℕ) (g : Group) → slice_get groups k ≡ Some g → slice_get (bands_of groups) k ≡ Some (band_of g)
requirement_at groups k g e = slice_get-map band_of groups k ∙ ap (option_map band_of) e

pub no_requirement_at : (groups : List Group) (k : ℕ) → slice_get groups k ≡ None → slice_get (bands_of groups) k ≡ None
no_requirement_at groups k e = slice_get-map band_of groups k ∙ ap (option_map band_of) e
