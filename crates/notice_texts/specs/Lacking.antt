-- Which license texts a folder lacks, and which of its files nobody needs.
use Rattle.std.specs.Prelude.{◌≡◌, ℕ, ◌==◌, Bool, true, false, ◌&&◌, not, nat_eq, List, [], ◌∷◌, bytes_eq, length, drop, filter}
use Rattle.std.specs.List.{list_any, list_all, starts_with}

-- `.` and one or more bytes without a `.`
abbrev pub is_extension : List ℕ → Bool
is_extension [] = false
is_extension (b ∷ []) = false
is_extension (b ∷ c ∷ bytes) = b == 46 && list_all (λ d. not (d == 46)) (c ∷ bytes)

-- nothing, or an extension
abbrev pub is_ending : List ℕ → Bool
is_ending [] = true
is_ending (b ∷ bytes) = is_extension (b ∷ bytes)

-- the file holds the text of the name: it is called so, or so with one extension more
abbrev pub holds : List ℕ → List ℕ → Bool
holds file name = starts_with nat_eq file name && is_ending (drop (length name) file)

abbrev pub is_among : List (List ℕ) → List ℕ → Bool
is_among names name = list_any (λ n. bytes_eq n name) names

-- some file holds the text of the name
abbrev pub has_text : List (List ℕ) → List ℕ → Bool
has_text files name = list_any (λ file. holds file name) files

-- the file holds the text of some used name
abbrev pub is_needed : List (List ℕ) → List ℕ → Bool
is_needed used file = list_any (holds file) used

-- each name once, where it is met first
abbrev pub first_names : List (List ℕ) → List (List ℕ)
first_names [] = []
first_names (name ∷ names) = name ∷ filter (λ n. not (bytes_eq name n)) (first_names names)

abbrev pub without_text : List (List ℕ) → List (List ℕ) → List (List ℕ)
without_text files names = filter (λ name. not (has_text files name)) names

abbrev pub missing : List (List ℕ) → List (List ℕ) → List (List ℕ)
missing used files = without_text files (first_names used)

abbrev pub unused : List (List ℕ) → List (List ℕ) → List (List ℕ)
unused used files = filter (λ file. not (is_needed used file)) files

-- a name is missing exactly if it is used and no file holds its text
abbrev pub MissingExactly : List (List ℕ) → List (List ℕ) → List (List ℕ) → Type 0
MissingExactly used files found =
    (name : List ℕ) → is_among found name ≡ (not (has_text files name) && is_among used name)

-- a file is unused exactly if it stands there and no used name needs it
abbrev pub UnusedExactly : List (List ℕ) → List (List ℕ) → List (List ℕ) → Type 0
UnusedExactly used files found =
    (file : List ℕ) → is_among found file ≡ (not (is_needed used file) && is_among files file)

-- where nothing is missing, each used name has its text
abbrev pub CompleteIfNothing : List (List ℕ) → List (List ℕ) → List (List ℕ) → Type 0
CompleteIfNothing used files found =
    found ≡ [] → (name : List ℕ) → is_among used name ≡ true → has_text files name ≡ true
