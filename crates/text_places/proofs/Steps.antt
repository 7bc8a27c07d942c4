-- What one more line adds to the values of the lines before.
use Rattle.std.proofs.Common.{◌≡◌, ℕ, ◌+◌, ◌-◌, ◌<◌, ◌≤◌, List, [], ◌∷◌, ◌++◌, length, take, drop, refl, ap, ◌∙◌, arith}
use Rattle.std.proofs.lemmas.List.{length-drop, length-take-le}
use Rattle.line_engine.specs.Lines.{lines_of}
use Rattle.text_places.specs.declared.Span.{Span}
use Rattle.text_places.specs.declared.field_lines.Grammar.{Grammar}
use Rattle.text_places.specs.declared.places.Place.{Place}
use Rattle.text_places.specs.Fields.{Read, line_read, fields_from}
use Rattle.text_places.specs.Order.{AreInOrder}
use Rattle.text_places.proofs.FirstLine.{BeginsWithLine}
use Rattle.text_places.proofs.Following.{AreInOrder-less, AreInOrder-more, AreInOrder-append, line_read-order}

-- where the lines begin is asked only where there are any
fields_from-moved : (g : Grammar) (place : Place) (a b : ℕ) (xs : List ℕ) → (0 < length xs → a ≡ b) → fields_from g place a (lines_of xs) ≡ fields_from g place b (lines_of xs)
fields_from-moved g place a b [] e = refl
fields_from-moved g place a b (x ∷ xs) e = ap (λ (n : ℕ). fields_from g place n (lines_of (x ∷ xs))) (e (omega arith))

module _ (g : Grammar) (place : Place) (total len : ℕ) (rest : List ℕ) (lines : BeginsWithLine rest len) (within : len ≤ length rest) (room : length rest ≤ total) where
  -- the first of these lines, where it stands in the file
  abbrev pub first_read : Read
  first_read = line_read g place (total - length rest + len) (take len rest)

  pub fields_from-line : fields_from g place (total - length rest) (lines_of rest) ≡
      first_read.values ++ fields_from g first_read.place (total - length (drop (len + 1) rest)) (lines_of (drop (len + 1) rest))
  fields_from-line =
      let line = take len rest in
      let later = drop (len + 1) rest in
      let offset = total - length rest in
      let by = λ (k : ℕ). (line_read g place (offset + k) line).values ++ fields_from g (line_read g place (offset + k) line).place (offset + (k + 1)) (lines_of later) in
      ap (fields_from g place offset) lines
      ∙ ap by (length-take-le len rest within)
      ∙ ap (λ (spans : List Span). first_read.values ++ spans) (fields_from-moved g first_read.place (offset + (len + 1)) (total - length later) later (λ more. omega (arith, length-drop (len + 1) rest)))

  -- its values stand behind those of the lines before
  pub first_read-order : (found : List Span) → AreInOrder 0 found (total - length rest) → AreInOrder 0 (found ++ first_read.values) (total - length (drop (len + 1) rest))
  first_read-order found order =
      let line = take len rest in
      let end = total - length rest + len in
      let later = drop (len + 1) rest in
      let long = length-take-le len rest within in
      let here = line_read-order g place end line (omega arith) in
      let low = AreInOrder-less (end - length line) (total - length rest) first_read.values end (omega arith) here in
      AreInOrder-more 0 (found ++ first_read.values) end (total - length later) (omega (arith, length-drop (len + 1) rest))
      (AreInOrder-append 0 found (total - length rest) first_read.values end order low)
