-- A phrase without the link behind it, and without the dots of initials.
use Rattle.std.specs.Prelude.{ℕ, zero, suc, ◌+◌, ◌-◌, Bool, false, not, ◌||◌, ◌&&◌, ◌==◌, nat_eq, List, [], ◌∷◌, length, take, drop, if◌then◌else◌, codes}
use Rattle.std.specs.List.{starts_with}
use Rattle.std.specs.Char.{is_ascii_alphabetic}
use Rattle.spdx_hints.specs.Phrase.{trimmed}

-- a link begins there
abbrev pub begins_link : List ℕ → Bool
begins_link text =
    starts_with nat_eq text (codes "http://")
    || (starts_with nat_eq text (codes "https://") || starts_with nat_eq text (codes "www."))

-- the first place from there on, of so many, where one does, or the place behind them all
abbrev pub next_link : List ℕ → ℕ → ℕ → ℕ
next_link text zero i = i
next_link text (suc count) i = if begins_link (drop i text) then i else next_link text count (i + 1)

-- from there to the next one or the text's end
abbrev pub link_from : List ℕ → ℕ → ℕ
link_from text i = next_link text (length text - i) i

-- what stands before the first link, unless nothing does
abbrev pub before_link : List ℕ → List ℕ
before_link text =
    if length (trimmed (take (link_from text 0) text)) == 0 then text
    else trimmed (take (link_from text 0) text)

-- without each dot behind a letter that stands alone; the flags say whether the byte before is a
-- letter, and a lone one
abbrev pub undotted_from : Bool → Bool → List ℕ → List ℕ
undotted_from is_letter is_lone [] = []
undotted_from is_letter is_lone (b ∷ bs) =
    if is_lone && b == 46 then undotted_from false false bs
    else b ∷ undotted_from (is_ascii_alphabetic b) (is_ascii_alphabetic b && not is_letter) bs

-- `M.I.T.` as `MIT`
abbrev pub undotted : List ℕ → List ℕ
undotted text = undotted_from false false text

-- what stands before a link, its initials without dots
abbrev pub plain_of : List ℕ → List ℕ
plain_of phrase = undotted (before_link phrase)
