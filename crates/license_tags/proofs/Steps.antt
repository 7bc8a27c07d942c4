-- What one more line adds to the tags, and that bytes without a tag add none.
use Rattle.std.proofs.Common.{◌≡◌, ℕ, ◌+◌, ◌≤◌, Bool, true, false, List, [], ◌∷◌, ◌++◌, Option, Some, option_map, length, get_or, take, drop, refl, sym, ap, ◌∙◌, subst, append_assoc, arith}
use Rattle.std.proofs.Common.{length-append}
use Rattle.std.specs.List.{flat_map}
use Rattle.std.specs.Option.{option_to_list}
use Rattle.std.proofs.lemmas.List.{length-take-le, get_or-append-add}
use Rattle.std.proofs.Math.ListN.{get_or-append}
use Rattle.line_engine.specs.Lines.{cut, lines_of, last_line}
use Rattle.line_engine.proofs.Dividing.{cut_is}
use Rattle.license_tags.specs.declared.comment.Comment.{Comment}
use Rattle.license_tags.specs.declared.Tag.{Tag}
use Rattle.license_tags.specs.Tags.{tag_text, place_of, is_inside, is_open_behind, tag_at, line_tags, tags_from}
use Rattle.license_tags.proofs.Occurring.{IsAbsent, place_of-none, tag_text-length}

abbrev with_newlines : List (List ℕ) → List ℕ
with_newlines lines = flat_map (λ line. line ++ 10 ∷ []) lines

absent_front : (xs ys : List ℕ) → IsAbsent tag_text (xs ++ ys) → IsAbsent tag_text xs
absent_front xs ys h j o = h j (record {
  fits = omega (arith, o.fits, length-append xs ys);
  reads = λ i b. get_or-append xs ys 0 (j + i) (omega (arith, o.fits)) ∙ o.reads i b;
})

absent_back : (xs ys : List ℕ) → IsAbsent tag_text (xs ++ ys) → IsAbsent tag_text ys
absent_back xs ys h j o = h (length xs + j) (record {
  fits = omega (arith, o.fits, length-append xs ys);
  reads = λ i b. ap (λ (n : ℕ). get_or (xs ++ ys) n 0) (omega arith) ∙ get_or-append-add xs ys (j + i) 0 ∙ o.reads i b;
})

-- a line without a tag, one in a block, and one with a tag outside blocks
pub line_tags-absent : (comment : Comment) (inside : Bool) (number offset : ℕ) (line : List ℕ) → IsAbsent tag_text line → line_tags comment inside number offset line ≡ []
line_tags-absent comment true number offset line h = refl
line_tags-absent comment false number offset line h =
    ap (λ (place : Option ℕ). option_to_list (option_map (tag_at comment number offset line) place)) (place_of-none tag_text (omega (arith, tag_text-length)) line h)

pub line_tags-inside : (comment : Comment) (inside : Bool) (number offset : ℕ) (line : List ℕ) → inside ≡ true → line_tags comment inside number offset line ≡ []
line_tags-inside comment inside number offset line e = rw e refl

pub line_tags-first : (comment : Comment) (inside : Bool) (number offset : ℕ) (line : List ℕ) (k : ℕ) → inside ≡ false → place_of tag_text line ≡ Some k →
    line_tags comment inside number offset line ≡ tag_at comment number offset line k ∷ []
line_tags-first comment inside number offset line k e h =
    rw e (ap (λ (place : Option ℕ). option_to_list (option_map (tag_at comment number offset line) place)) h)

untagged_last : (comment : Comment) (opened : Bool) (number offset : ℕ) (rest : List ℕ) → IsAbsent tag_text rest → tags_from comment opened number offset (last_line rest) ≡ []
untagged_last comment opened number offset [] h = refl
untagged_last comment opened number offset (b ∷ bs) h =
    ap (λ (tags : List Tag). tags ++ []) (line_tags-absent comment (is_inside opened (b ∷ bs)) number offset (b ∷ bs) h)

untagged : (comment : Comment) (opened : Bool) (number offset : ℕ) (lines : List (List ℕ)) (rest : List ℕ) → IsAbsent tag_text (with_newlines lines ++ rest) → tags_from comment opened number offset (lines ++ last_line rest) ≡ []
untagged comment opened number offset [] rest h = untagged_last comment opened number offset rest h
untagged comment opened number offset (line ∷ lines) rest h =
    let all = subst (IsAbsent tag_text) (append_assoc (line ++ 10 ∷ []) (with_newlines lines) rest) h in
    let inside = is_inside opened line in
    let later = tags_from comment (is_open_behind inside line) (number + 1) (offset + (length line + 1)) (lines ++ last_line rest) in
    ap (λ (tags : List Tag). tags ++ later) (line_tags-absent comment inside number offset line (absent_front line (10 ∷ []) (absent_front (line ++ 10 ∷ []) (with_newlines lines ++ rest) all)))
    ∙ untagged comment (is_open_behind inside line) (number + 1) (offset + (length line + 1)) lines rest (absent_back (line ++ 10 ∷ []) (with_newlines lines ++ rest) all)

-- bytes without a tag
pub tags_from-absent : (comment : Comment) (opened : Bool) (number offset : ℕ) (xs : List ℕ) → IsAbsent tag_text xs → tags_from comment opened number offset (lines_of xs) ≡ []
tags_from-absent comment opened number offset xs h =
    untagged comment opened number offset (cut xs).whole (cut xs).rest (subst (IsAbsent tag_text) (sym (cut_is xs).whole) h)

module _ (comment : Comment) (opened : Bool) (all found : List Tag) (number offset : ℕ) (xs : List ℕ) (len : ℕ) (done : all ≡ found ++ tags_from comment opened number offset (lines_of xs)) (lines : lines_of xs ≡ take len xs ∷ lines_of (drop (len + 1) xs)) (within : len ≤ length xs) where
  abbrev inside : Bool
  inside = is_inside opened (take len xs)

  abbrev later : List Tag
  later = tags_from comment (is_open_behind inside (take len xs)) (number + 1) (offset + (len + 1)) (lines_of (drop (len + 1) xs))

  moved : tags_from comment (is_open_behind inside (take len xs)) (number + 1) (offset + (length (take len xs) + 1)) (lines_of (drop (len + 1) xs)) ≡ later
  moved =
      ap (λ (n : ℕ). tags_from comment (is_open_behind inside (take len xs)) (number + 1) (offset + (n + 1)) (lines_of (drop (len + 1) xs))) (length-take-le len xs within)

  -- one more line, with these tags
  pub line_step : (tags : List Tag) → line_tags comment inside number offset (take len xs) ≡ tags → all ≡ (found ++ tags) ++ later
  line_step tags e =
      done ∙ ap (λ (ls : List (List ℕ)). found ++ tags_from comment opened number offset ls) lines
      ∙ ap (λ (ts : List Tag). found ++ (line_tags comment inside number offset (take len xs) ++ ts)) moved
      ∙ ap (λ (ts : List Tag). found ++ (ts ++ later)) e
      ∙ sym (append_assoc found tags later)
