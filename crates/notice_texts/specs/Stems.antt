-- What stands before the extension of a file's name. Only private clauses cite it.
use Rattle.std.specs.Prelude.{ℕ, List, [], ◌∷◌, Option, Some, None, option_map, if◌then◌else◌}
use Rattle.notice_texts.specs.Lacking.{is_extension}

abbrev pub stem : List ℕ → Option (List ℕ)
stem [] = None
stem (b ∷ bytes) =
    if is_extension (b ∷ bytes) then Some [] else option_map (λ s. b ∷ s) (stem bytes)
