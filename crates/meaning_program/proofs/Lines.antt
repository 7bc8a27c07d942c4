-- Which lines are told, and what is written for the others.
use Rattle.std.proofs.Common.{◌≡◌, ◌⊎◌, inl, inr, ℕ, ◌+◌, Bool, true, false, List, [], ◌∷◌, ◌++◌, map, flat_map, refl, sym, ◌∙◌, ap, subst, Ok, Err}
use Rattle.std.specs.Prelude.{IsOk, IsTrue}
use Rattle.std.specs.List.{AllByRecursion}
use Rattle.std.specs.Str.{is_utf8}
use Rattle.spdx_requirement.specs.Rows.{Rows}
use Rattle.spdx_catalogue.specs.RowRules.{is_well_formed}
use Rattle.spdx_lexer.specs.declared.token.ParseMode.{ParseMode}
use Rattle.spdx_lexer.specs.Modes.{strict}
use Rattle.spdx_lexer.specs.Words.{Item, Placed, words}
use Rattle.spdx_lexer.specs.Reading.{said}
use Rattle.spdx_lexer.proofs.Said.{said_words}
use Rattle.spdx_parser.specs.Tree.{Tree}
use Rattle.spdx_parser.specs.Grammar.{Derives}
use Rattle.spdx_canonical.specs.NormalLaw.{IsStrict}
use Rattle.spdx_meaning.specs.MeaningText.{IsMeaningText, made_by_rank}
use Rattle.spdx_meaning.specs.Reading.{IsMeaningless, Says}
use Rattle.spdx_meaning.specs.declared.reading.Unmeant.{Unmeant}
use Rattle.spdx_meaning.specs.declared.reading.Unmeant.TheVariants.{Unread, TooMany}
use Rattle.line_engine.specs.Lines.{lines_of}
use Rattle.std.proofs.lemmas.List.Elements.{All-from_recursion, recursion_from_All}
use Rattle.meaning_program.specs.Reading.{mode_by, read_as}
use Rattle.meaning_program.specs.Simplified.{IsAnswered, IsOfBytes, IsOfLine, IsSimplified, Line, MeaningOrWhy, Told, text_for, told_for, told_from, told_of, trimmed, written}
use Rattle.meaning_program.specs.LineLaws.{AreWrittenFrom, HasMeaning, IsBlankOrMeant, IsToldIn, IsWrittenFor, KeepsMeaning, SaysTheSame, TellsNothing, WritesEachLine}
use Rattle.meaning_program.specs.declared.simplified.Simplified.{Simplified}
use Rattle.meaning_program.specs.declared.simplified.UnmeantLine.{UnmeantLine}

-- ---- a text says one tree

same_read : (xs ys : List Placed) → map {B = Item} Ok xs ≡ map {B = Item} Ok ys → xs ≡ ys
same_read [] [] e = refl
same_read [] (y ∷ ys) e = absurd cc
same_read (x ∷ xs) [] e = absurd cc
same_read (x ∷ xs) (y ∷ ys) e =
    let heads : x ≡ y = cc in
    let tails : map {B = Item} Ok xs ≡ map {B = Item} Ok ys = cc in
    let rest = same_read xs ys tails in
    cc

module _ (c : Rows) (m : ParseMode) (text : List ℕ) where
  one_tree : (t u : Tree) → Says c m text t → Says c m text u → t ≡ u
  one_tree t u h k =
      let same = same_read h.0 k.0 (sym h.1 ∙ k.1) in
      k.2.only t (subst (λ (r : List Placed). Derives c m (words r) t) same h.2.derived)

  -- what has a meaning text isn't refused
  pub not_both : (u : Unmeant) (t : Tree) → IsMeaningless c m text u → Says c m text t → IsOk (made_by_rank t) → ⊥
  not_both (Unread error) t refused says few = refused.no_tree says.0 t says.1 says.2.derived
  not_both (TooMany many) t h says few =
      let none : IsOk {T = List (List ℕ)} {E = ℕ} (Err many.0) = subst IsOk (ap made_by_rank (one_tree t h.0 says h.1) ∙ h.2) few in
      let bad : false ≡ true = none in
      cc

-- ---- which lines are told

module _ (c : Rows) (is_lax : Bool) where
  meant_by : (text : List ℕ) (is : Bool) (meaning : List ℕ) → is_utf8 text ≡ is → IsOfBytes c is_lax is text (Ok meaning) → HasMeaning c is_lax text
  meant_by text true meaning e h = record { is_text = e; tree = h.tree; says = h.says; few = h.few }
  meant_by text false meaning e h = absurd cc

  untold : (text : List ℕ) (number : ℕ) (answer : MeaningOrWhy) → IsOfLine c is_lax text answer → told_for number answer ≡ [] → (text ≡ []) ⊎ HasMeaning c is_lax text
  untold [] number answer h e = inl refl
  untold (b ∷ bs) number (Ok meaning) h e = inr (meant_by (b ∷ bs) (is_utf8 (b ∷ bs)) meaning refl h)
  untold (b ∷ bs) number (Err why) h e = absurd cc

  refused_by : (text : List ℕ) (is : Bool) (why : List ℕ) → is_utf8 text ≡ is → IsOfBytes c is_lax is text (Err why) → HasMeaning c is_lax text → ⊥
  refused_by text true why e h m = not_both c (mode_by is_lax) (read_as c is_lax text) h.0 m.tree h.1 m.says m.few
  refused_by text false why e h m = let bad : true ≡ false = sym m.is_text ∙ e in cc

  quiet : (text : List ℕ) (number : ℕ) (answer : MeaningOrWhy) → IsOfLine c is_lax text answer → (text ≡ []) ⊎ HasMeaning c is_lax text → told_for number answer ≡ []
  quiet [] number answer h k = ap (told_for number) h
  quiet (b ∷ bs) number (Ok meaning) h k = refl
  quiet (b ∷ bs) number (Err why) h (inl e) = absurd cc
  quiet (b ∷ bs) number (Err why) h (inr m) = absurd (refused_by (b ∷ bs) (is_utf8 (b ∷ bs)) why refl h m)

  abbrev OfTexts : List Line → List (List ℕ) → Type 0
  OfTexts lines texts = map (λ (line : Line). line.text) lines ≡ map trimmed texts

  first_nil : (xs ys : List Told) → xs ++ ys ≡ [] → (xs ≡ []) × (ys ≡ [])
  first_nil [] ys e = (refl, e)
  first_nil (x ∷ xs) ys e = absurd cc

  pub all_meant : (number : ℕ) (lines : List Line) (texts : List (List ℕ)) → OfTexts lines texts → AllByRecursion (IsAnswered c is_lax) lines → told_from number lines ≡ [] → AllByRecursion (IsBlankOrMeant c is_lax) texts
  all_meant number [] [] of h e = tt
  all_meant number [] (text ∷ texts) of h e = absurd cc
  all_meant number (line ∷ lines) [] of h e = absurd cc
  all_meant number (line ∷ lines) (text ∷ texts) of h e =
      let first : line.text ≡ trimmed text = cc in
      let others : OfTexts lines texts = cc in
      let none = first_nil (told_for number line.answer) (told_from (number + 1) lines) e in (
        subst (λ (t : List ℕ). (t ≡ []) ⊎ HasMeaning c is_lax t) first (untold line.text number line.answer h.0 none.0),
        all_meant (number + 1) lines texts others h.1 none.1,
      )

  pub none_told : (number : ℕ) (lines : List Line) (texts : List (List ℕ)) → OfTexts lines texts → AllByRecursion (IsAnswered c is_lax) lines → AllByRecursion (IsBlankOrMeant c is_lax) texts → told_from number lines ≡ []
  none_told number [] texts of h k = refl
  none_told number (line ∷ lines) [] of h k = absurd cc
  none_told number (line ∷ lines) (text ∷ texts) of h k =
      let first : line.text ≡ trimmed text = cc in
      let others : OfTexts lines texts = cc in
      ap (λ (ts : List Told). ts ++ told_from (number + 1) lines) (quiet line.text number line.answer h.0 (subst (λ (t : List ℕ). (t ≡ []) ⊎ HasMeaning c is_lax t) (sym first) k.0))
      ∙ none_told (number + 1) lines texts others h.1 k.1

-- ---- what is written

abbrev pub IsAmong : List Told → ℕ → Type 0
IsAmong [] number = ⊥
IsAmong (one ∷ told) number = (one.number ≡ number) ⊎ IsAmong told number

among_left : (xs ys : List Told) (number : ℕ) → IsAmong xs number → IsAmong (xs ++ ys) number
among_left [] ys number h = absurd h
among_left (x ∷ xs) ys number (inl e) = inl e
among_left (x ∷ xs) ys number (inr h) = inr (among_left xs ys number h)

among_right : (xs ys : List Told) (number : ℕ) → IsAmong ys number → IsAmong (xs ++ ys) number
among_right [] ys number h = h
among_right (x ∷ xs) ys number h = inr (among_right xs ys number h)

pub told_in : (lines : List UnmeantLine) (number : ℕ) → IsAmong (map told_of lines) number → IsToldIn lines number
told_in [] number h = h
told_in (line ∷ lines) number (inl e) = inl e
told_in (line ∷ lines) number (inr h) = inr (told_in lines number h)

pub written_lines : (lines : List Line) → flat_map written lines ≡ flat_map (λ out. out ++ 10 ∷ []) (map (λ (line : Line). text_for line.text line.answer) lines)
written_lines [] = refl
written_lines (line ∷ lines) = ap (λ (text : List ℕ). written line ++ text) (written_lines lines)

-- what the law of meaning texts says of this list
abbrev pub IsReadAgain : Rows → Type 0
IsReadAgain c = (t : Tree) (out : List ℕ) → IsStrict c t → IsMeaningText t out → SaysTheSame c out t

module _ (c : Rows) (well : IsTrue (is_well_formed c)) (is_lax : Bool) (again : IsReadAgain c) (x : Simplified) where
  strict_tree : (text : List ℕ) (t : Tree) → Says c strict text t → IsStrict c t
  strict_tree text t h = record { well_formed = well; text = text; words = words h.0; read = ap (map said) h.1 ∙ said_words h.0; means = h.2.derived }

  strict_by : (l : Bool) (text : List ℕ) (t : Tree) → Says c (mode_by l) (read_as c l text) t → (l ≡ false) ⊎ IsStrict c t → IsStrict c t
  strict_by l text t h (inr s) = s
  strict_by true text t h (inl e) = absurd cc
  strict_by false text t h (inl e) = strict_tree text t h

  kept : (line : List ℕ) (is : Bool) (meaning : List ℕ) → IsOfBytes c is_lax is (trimmed line) (Ok meaning) → KeepsMeaning c is_lax line meaning
  kept line true meaning h = record { tree = h.tree; says = h.says; same = λ s. again h.tree meaning (strict_by is_lax (trimmed line) h.tree h.says s) h.means }
  kept line false meaning h = absurd cc

  abbrev IsTold : ℕ → Type 0
  IsTold number = IsToldIn x.unmeant.items number

  one_written : (line text : List ℕ) (number : ℕ) (answer : MeaningOrWhy) → text ≡ trimmed line → IsOfLine c is_lax text answer → (IsAmong (told_for number answer) number → IsTold number) → IsWrittenFor c is_lax x number line (text_for text answer)
  one_written line text number (Err why) e h f = inl (e, inr (f (inl refl)))
  one_written line [] number (Ok meaning) e h f = inl ((let same : meaning ≡ [] = cc in same) ∙ e, inl (sym e))
  one_written line (b ∷ bs) number (Ok meaning) e h f =
      inr (kept line (is_utf8 (b ∷ bs)) meaning (subst (λ (t : List ℕ). IsOfBytes c is_lax (is_utf8 (b ∷ bs)) t (Ok meaning)) e h))

  pub each_written : (number : ℕ) (lines : List Line) (texts : List (List ℕ)) → OfTexts c is_lax lines texts → AllByRecursion (IsAnswered c is_lax) lines → ((n : ℕ) → IsAmong (told_from number lines) n → IsTold n)
      → AreWrittenFrom (IsWrittenFor c is_lax x) number texts (map (λ (line : Line). text_for line.text line.answer) lines)
  each_written number [] [] of h f = tt
  each_written number [] (text ∷ texts) of h f = absurd cc
  each_written number (line ∷ lines) [] of h f = absurd cc
  each_written number (line ∷ lines) (text ∷ texts) of h f =
      let first : line.text ≡ trimmed text = cc in
      let others : OfTexts c is_lax lines texts = cc in (
        one_written text line.text number line.answer first h.0 (λ k. f number (among_left (told_for number line.answer) (told_from (number + 1) lines) number k)),
        each_written (number + 1) lines texts others h.1 (λ n k. f n (among_right (told_for number line.answer) (told_from (number + 1) lines) n k)),
      )

-- ---- of all lines

map_nil : {X Y : Type 0} (f : X → Y) (xs : List X) → map f xs ≡ [] → xs ≡ []
map_nil f [] e = refl
map_nil f (x ∷ xs) e = absurd cc

pub tells_nothing : (c : Rows) (is_lax : Bool) (bytes : List ℕ) (x : Simplified) → IsSimplified c is_lax bytes x → TellsNothing c is_lax bytes x
tells_nothing c is_lax bytes x is =
    let answered = recursion_from_All (IsAnswered c is_lax) is.lines is.answered in (
      (λ e. All-from_recursion (IsBlankOrMeant c is_lax) (lines_of bytes) (all_meant c is_lax 1 is.lines (lines_of bytes) is.of_texts answered (sym is.told_is ∙ ap (map told_of) e))),
      (λ meant. map_nil told_of x.unmeant.items (is.told_is ∙ none_told c is_lax 1 is.lines (lines_of bytes) is.of_texts answered (recursion_from_All (IsBlankOrMeant c is_lax) (lines_of bytes) meant))),
    )

pub writes_each : (c : Rows) → IsTrue (is_well_formed c) → (is_lax : Bool) → IsReadAgain c → (bytes : List ℕ) (x : Simplified) → IsSimplified c is_lax bytes x → WritesEachLine c is_lax bytes x
writes_each c well is_lax again bytes x is = record {
  outs = map (λ (line : Line). text_for line.text line.answer) is.lines;
  text_is = is.text_is ∙ written_lines is.lines;
  each = each_written c well is_lax again x 1 is.lines (lines_of bytes) is.of_texts (recursion_from_All (IsAnswered c is_lax) is.lines is.answered)
      (λ n k. told_in x.unmeant.items n (subst (λ (told : List Told). IsAmong told n) (sym is.told_is) k));
}
