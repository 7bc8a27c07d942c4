-- The last segments of a path, as texts.
use Rattle.std.proofs.Common.{◌≡◌, ◌-◌, ℕ, List, Bor, map, drop, length, ap, ◌∙◌}
use Rattle.std.proofs.lemmas.List.{drop-map, length-map}
use Rattle.package_sources.specs.Folders.{ends}

abbrev shown : Bor (List ℕ) → List ℕ
shown x = x.now

pub ends_of_shown : (xs : List (Bor (List ℕ))) → ends (map (λ (x : Bor (List ℕ)). x.now) xs) ≡ map (λ (x : Bor (List ℕ)). x.now) (drop (length xs - 2) xs)
ends_of_shown xs =
    ap (λ (n : ℕ). drop (n - 2) (map shown xs)) (length-map xs shown) ∙ drop-map shown (length xs - 2) xs
