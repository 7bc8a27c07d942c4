-- How many texts there are, and which.
use Rattle.std.proofs.Common.{◌≡◌, ℕ, List, Bor, Option, option_map, map, length}
use Rattle.std.specs.List.{slice_get}
use Rattle.std.specs.Option.{option_copied}
use Rattle.std.proofs.lemmas.List.{length-map}
use Rattle.std.proofs.lemmas.Option.{slice_get-map}

pub same_count : (xs : List (Bor (List ℕ))) → length (map (λ (x : Bor (List ℕ)). x.now) xs) ≡ length xs
same_count xs = length-map xs (λ (x : Bor (List ℕ)). x.now)

pub same_at : (xs : List (Option (Bor (List ℕ)))) (n : ℕ)
    → slice_get (map option_copied xs) n ≡ option_map option_copied (slice_get xs n)
same_at xs n = slice_get-map option_copied xs n
