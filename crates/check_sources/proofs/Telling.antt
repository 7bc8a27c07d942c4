-- Where nothing is told of a folder of license texts, nothing is missing and nothing is unused.
use Rattle.std.proofs.Common.{◌≡◌, refl, sym, ◌∙◌, ap, ℕ, ◌+◌, Bool, true, false, ◌&&◌, not, List, [], ◌∷◌, length, map, arith}
use Rattle.std.specs.Prelude.{filter}
use Rattle.std.proofs.lemmas.Bool.{true≢false}
use Rattle.std.proofs.lemmas.List.{length-append, length-map}
use Rattle.notice_texts.specs.Lacking.{has_text, is_among, is_needed, missing, unused}
use Rattle.notice_texts.proofs.LackLaws.{missing_exactly, unused_exactly}
use Rattle.check_sources.specs.declared.owed.Whole as written
use Rattle.check_sources.specs.Owed.{TellsAll, is_idle, missing_at, owed_by, unused_at, whole_names, whole_of}
use Rattle.check_sources.proofs.Unused.{many_unused}

-- a list is empty if it has no length
empty : {A : Type 0} (xs : List A) → length xs ≡ 0 → xs ≡ []
empty [] e = refl
empty (x ∷ xs) e = absurd (omega (arith, e))

owed_many : (folder : List ℕ) (used paths : List (List ℕ))
    → length (owed_by folder used paths) ≡ length (missing used (whole_names paths)) + length (unused used (whole_names paths))
owed_many folder used paths =
    length-append (map (missing_at folder) (missing used (whole_names paths))) (map unused_at (filter (is_idle used) paths))
    ∙ ap (λ n. n + length (map unused_at (filter (is_idle used) paths))) (length-map (missing used (whole_names paths)) (missing_at folder))
    ∙ ap (λ n. length (missing used (whole_names paths)) + n) (length-map (filter (is_idle used) paths) unused_at ∙ many_unused used paths)

-- what isn't told, though it stands there, is as it should be
fine : (told is stands : Bool) → told ≡ (not is && stands) → told ≡ false → stands ≡ true → is ≡ true
fine told true stands e f g = refl
fine told false stands e f g = absurd (true≢false (sym g ∙ sym e ∙ f))

pub tells_all : (folder : List ℕ) (used paths : List (List ℕ)) (wholes : List written.Whole)
    → map whole_of wholes ≡ owed_by folder used paths → TellsAll wholes used (whole_names paths)
tells_all folder used paths wholes are none =
    let files = whole_names paths in
    let many : length (missing used files) + length (unused used files) ≡ 0 =
    sym (owed_many folder used paths) ∙ sym (ap (λ ws. length ws) are) ∙ ap (λ ws. length (map whole_of ws)) none in
    let no_missing : missing used files ≡ [] = empty (missing used files) (omega (arith, many)) in
    let no_unused : unused used files ≡ [] = empty (unused used files) (omega (arith, many)) in (
      λ name is. fine (is_among (missing used files) name) (has_text files name) (is_among used name)
          (missing_exactly used files name) (ap (λ xs. is_among xs name) no_missing) is,
      λ file is. fine (is_among (unused used files) file) (is_needed used file) (is_among files file)
          (unused_exactly used files file) (ap (λ xs. is_among xs file) no_unused) is,
    )
