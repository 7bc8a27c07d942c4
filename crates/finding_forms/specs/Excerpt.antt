-- A text that is shown round a place in it: a short one whole, and of a long one the characters
-- near the place.
use Rattle.std.specs.Prelude.{◌≡◌, ℕ, zero, suc, ◌+◌, ◌-◌, ◌≤◌, min, max, List, [], ◌∷◌, ◌++◌, Bool, false, ◌&&◌, nat_lt, nat_le, if◌then◌else◌, chars, codes, drop, length, replicate, slice_index, slice_range, take, IsCharBoundary}
use Rattle.unicode_width.specs.Width.{str_width}
use Rattle.foreign_text.specs.declared.sinks.Sink.TheVariants.{Line}
use Rattle.foreign_text.specs.Written.{text_for}
use Rattle.finding_forms.specs.declared.forms.Style.{Style}
use Rattle.finding_forms.specs.Finding.{begins_character, place_in}
use Rattle.finding_forms.specs.Paint.{painted, red}

-- ---- which part is shown

-- a character begins here, or the text ends
abbrev pub is_place : List ℕ → ℕ → Bool
is_place text at = nat_le at (length text) && begins_character (slice_index text at)

-- the first place from one on, or the place so many bytes behind it
abbrev pub first_place : List ℕ → ℕ → ℕ → ℕ
first_place text at zero = at
first_place text at (suc more) = if is_place text at then at else first_place text (at + 1) more

-- the last place up to one
abbrev pub last_place : List ℕ → ℕ → ℕ
last_place text zero = zero
last_place text (suc at) = if is_place text (suc at) then suc at else last_place text at

abbrev pub is_long : List ℕ → Bool
is_long text = nat_lt 200 (length text)

-- of a long text whole characters among the 60 bytes before the place and the 120 from it on
abbrev pub shown_from : List ℕ → ℕ → ℕ
shown_from text start =
    let at = place_in text start in
    if is_long text then first_place text (at - 60) (min at 60) else 0

abbrev pub shown_to : List ℕ → ℕ → ℕ
shown_to text start =
    if is_long text then last_place text (min (place_in text start + 120) (length text))
    else length text

-- what is left out in front, what is shown, and what is left out behind
abbrev pub front_of : List ℕ → ℕ → List ℕ
front_of text start = take (shown_from text start) text

abbrev pub excerpt : List ℕ → ℕ → List ℕ
excerpt text start = slice_range text (shown_from text start) (shown_to text start)

abbrev pub behind_of : List ℕ → ℕ → List ℕ
behind_of text start = drop (shown_to text start) text

-- ---- the line

-- two dots for what is left out
abbrev pub dots : List ℕ → List ℕ
dots [] = []
dots (b ∷ bs) = codes ".."

-- the line stands two columns in
abbrev pub excerpt_line : List ℕ → ℕ → List ℕ
excerpt_line text start =
    codes "  " ++ (dots (front_of text start) ++
    (text_for Line (excerpt text start) ++ (dots (behind_of text start) ++ 10 ∷ [])))

-- ---- carets under the fault

-- how many columns of a terminal a text takes, and how many as it is shown
abbrev pub width : List ℕ → ℕ
width text = str_width false (chars text)

abbrev pub shown_width : List ℕ → ℕ
shown_width text = width (text_for Line text)

-- the line up to the fault
abbrev pub head_of : List ℕ → ℕ → List ℕ
head_of text start =
    codes "  " ++ (dots (front_of text start) ++
    text_for Line (slice_range text (shown_from text start) (place_in text start)))

-- where the fault ends, which is not before it begins, and the fault
abbrev pub fault_end : List ℕ → ℕ → ℕ → ℕ
fault_end text start end = max (place_in text start) (place_in text end)

abbrev pub fault_in : List ℕ → ℕ → ℕ → List ℕ
fault_in text start end = slice_range text (place_in text start) (fault_end text start end)

-- what is shown of the fault
abbrev pub marked_of : List ℕ → ℕ → ℕ → List ℕ
marked_of text start end =
    slice_range text (place_in text start) (min (fault_end text start end) (shown_to text start))

-- so many carets, one at least, behind so many blanks
abbrev pub carets_behind : Style → ℕ → ℕ → List ℕ
carets_behind style blanks carets =
    replicate blanks 32 ++ painted style red (replicate (max 1 carets) 94)

-- a blank for each column before the fault, and a caret for each of what is shown of it
abbrev pub carets_under : Style → List ℕ → ℕ → ℕ → List ℕ
carets_under style text start end =
    carets_behind style (width (head_of text start)) (shown_width (marked_of text start end))

-- ---- what the reader has of it

-- the part that is shown has whole characters, and nothing but what the dots stand for is left out
pub record IsPart (text : List ℕ) (start : ℕ) : Type 0 where
  pub parts : text ≡ front_of text start ++ (excerpt text start ++ behind_of text start)
  pub begins : IsCharBoundary text (shown_from text start)
  pub ends : IsCharBoundary text (shown_to text start)

-- a text of at most 200 bytes is shown whole
abbrev pub IsShownWhole : List ℕ → ℕ → Type 0
IsShownWhole text start =
    length text ≤ 200 → excerpt_line text start ≡ codes "  " ++ (text_for Line text ++ 10 ∷ [])

-- a part that begins at the place and has at most 120 bytes is within what is shown
abbrev pub ShowsFault : List ℕ → ℕ → Type 0
ShowsFault text start =
    (end : ℕ) → IsCharBoundary text end → end ≤ place_in text start + 120 →
    (shown_from text start ≤ place_in text start) × (end ≤ shown_to text start)

-- the columns of the carets are those of what is shown of the fault
abbrev pub StandsUnder : List ℕ → ℕ → ℕ → Type 0
StandsUnder text start end =
    (rest : List ℕ) × (excerpt_line text start ≡ head_of text start ++
    (text_for Line (marked_of text start end) ++ rest))

-- of a fault of at most 120 bytes all is marked
abbrev pub MarksAll : List ℕ → ℕ → ℕ → Type 0
MarksAll text start end =
    fault_end text start end ≤ place_in text start + 120 →
    marked_of text start end ≡ fault_in text start end
