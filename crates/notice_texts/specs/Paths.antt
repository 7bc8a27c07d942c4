-- Where a path leads.
use Rattle.std.specs.Prelude.{◌≡◌, ℕ, Bool, false, not, ◌&&◌, ◌||◌, ◌==◌, List, [], ◌∷◌, ◌++◌, ◌-◌, bytes_eq, length, take, codes, filter, if◌then◌else◌}
use Rattle.std.specs.List.{list_all, slice_split}
use Rattle.notice_texts.specs.Names.{name_in}

-- what stands between the `/` of a path
abbrev pub parts : List ℕ → List (List ℕ)
parts path = slice_split (λ b. b == 47) path

abbrev pub is_dot : List ℕ → Bool
is_dot part = bytes_eq part (codes ".")

abbrev pub is_up : List ℕ → Bool
is_up part = bytes_eq part (codes "..")

-- a part without a zero and without a `\`
abbrev pub is_clean : List ℕ → Bool
is_clean part = list_all (λ b. not (b == 0 || b == 92)) part

-- a part that leads to what has this name, or stays where it is
abbrev pub is_step : List ℕ → Bool
is_step part = not (length part == 0) && (not (is_up part) && is_clean part)

-- the path leads to something below the folder that it begins from
abbrev pub is_inside : List ℕ → Bool
is_inside path = list_all is_step (parts path) && not (is_dot (name_in path))

-- ---- where the system would go

abbrev pub less_last : List (List ℕ) → List (List ℕ)
less_last folder = take (length folder - 1) folder

-- from a folder, which is the names that lead to it from the top, by one part
abbrev pub go : List (List ℕ) → List ℕ → List (List ℕ)
go folder part =
    if length part == 0 then folder else
    if is_dot part then folder else
    if is_up part then less_last folder else
    folder ++ part ∷ []

abbrev pub go_all : List (List ℕ) → List (List ℕ) → List (List ℕ)
go_all folder [] = folder
go_all folder (part ∷ parts) = go_all (go folder part) parts

-- a path that begins with `/` begins from the top
abbrev pub begins_above : List ℕ → Bool
begins_above [] = false
begins_above (b ∷ bytes) = b == 47

abbrev pub end_of : List (List ℕ) → List ℕ → List (List ℕ)
end_of folder path = go_all (if begins_above path then [] else folder) (parts path)

-- from every folder, the path leads to something below that folder
abbrev pub StaysInside : List ℕ → Type 0
StaysInside path =
    (folder : List (List ℕ)) →
    end_of folder path ≡ folder ++ filter (λ part. not (is_dot part)) (parts path)
