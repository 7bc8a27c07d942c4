-- What one step does to how far a run has come.
use Rattle.std.proofs.Common.{◌≡◌, ℕ, ◌<◌, true, false, List, [], ◌∷◌, ◌++◌, Option, length, refl, sym, ap, ◌∙◌, subst, arith, append_assoc, append-nil, take}
use Rattle.std.specs.Io.KnownBytes.{Appends, Consumes, Keeps, IsAtEnd}
use Rattle.std.proofs.lemmas.Grind.{common_steps}
use Rattle.line_engine.specs.declared.lines.Summary.{Summary}
use Rattle.line_engine.specs.Rule.{Rule}
use Rattle.line_engine.specs.Lines.{Cut, cut, last_line, lines_of, HasNoNewline}
use Rattle.line_engine.specs.Output.{text_of, summary_of, count_line}
use Rattle.line_engine.specs.Device.{Devices}
use Rattle.line_engine.specs.Progress.{AppendsBeginning, Progress, state, HasPut, HasPutAll, HasKept, HasEnded, HasRun, HasRunBehind, HasBegun}
use Rattle.line_engine.proofs.Known.{Appends-then, Appends-Keeps, Consumes-then, AppendsBeginning-then, AppendsBeginning-more, AppendsBeginning-all}
use Rattle.line_engine.proofs.Answering.{text_of-append, text_of-one}
use Rattle.line_engine.proofs.Cutting.{cut-newline, cut-plain, cut-more}
use Rattle.line_engine.proofs.Dividing.{cut_is}

summary_of-one : (rule : Rule) (lines : List (List ℕ)) (line : List ℕ) → summary_of rule (lines ++ line ∷ []) ≡ count_line (summary_of rule lines) (rule.refuses line)
summary_of-one rule lines line = grind (arith, common_steps)

-- one more line
put_more : (rule : Rule) (lines : List (List ℕ)) (line written : List ℕ) (old new : Progress) →
    HasPutAll rule lines written old → HasPut rule line old new → HasPutAll rule (lines ++ line ∷ []) written new
put_more rule lines line written old new d p = record {
  text =
      ap (λ (xs : List ℕ). written ++ xs) (p.text lines d.answered) ∙ sym (append_assoc written old.answers (rule.text lines line))
      ∙ ap (λ (xs : List ℕ). xs ++ rule.text lines line) d.text ∙ sym (text_of-one rule lines line);
  counted = p.counted ∙ ap (λ (t : Summary). count_line t (rule.refuses line)) d.counted ∙ sym (summary_of-one rule lines line);
  answered = p.answered lines d.answered;
}

-- bytes without a newline are kept
pub plain_step : (rule : Rule) (bytes xs written kept : List ℕ) (now : Progress) → HasNoNewline xs →
    HasKept rule bytes written kept now → HasKept rule (bytes ++ xs) written (kept ++ xs) now
plain_step rule bytes xs written kept now n h =
    let e = cut-plain bytes xs n in
    record {
      put = subst (λ (c : Cut). HasPutAll rule c.whole written now) (sym e) h.put;
      rest = ap (λ (line : List ℕ). line ++ xs) h.rest ∙ sym (ap (λ (c : Cut). c.rest) e);
    }

-- a newline ends the line that is kept
newline_step : (rule : Rule) (bytes written kept : List ℕ) (old new : Progress) →
    HasKept rule bytes written kept old → HasPut rule kept old new → HasKept rule (bytes ++ 10 ∷ []) written [] new
newline_step rule bytes written kept old new h p =
    let e = cut-newline bytes in
    let q : HasPut rule (cut bytes).rest old new = subst (λ (line : List ℕ). HasPut rule line old new) h.rest p in
    record {
      put = subst (λ (c : Cut). HasPutAll rule c.whole written new) (sym e) (put_more rule (cut bytes).whole (cut bytes).rest written old new h.put q);
      rest = sym (ap (λ (c : Cut). c.rest) e);
    }

-- what was begun for these bytes was begun for more
begun_more : (rule : Rule) (xs ys : List ℕ) (start now : Option (List ℕ)) → AppendsBeginning start now (text_of rule (cut xs).whole) → AppendsBeginning start now (text_of rule (cut (xs ++ ys)).whole)
begun_more rule xs ys start now a =
    let (more, e) = cut-more xs ys in
    subst (λ (lines : List (List ℕ)). AppendsBeginning start now (text_of rule lines)) (sym e)
    (rw (text_of-append rule (cut xs).whole more) (AppendsBeginning-more start now _ _ a))

-- where the next newline stands in what is left of a piece
pub done_parts : (done end behind rest piece : List ℕ) → rest ≡ end ++ 10 ∷ behind → done ++ rest ≡ piece → (done ++ end ++ 10 ∷ []) ++ behind ≡ piece
done_parts done end behind rest piece e d =
    append_assoc (done ++ end) (10 ∷ []) behind ∙ append_assoc done end (10 ∷ behind) ∙ ap (λ (xs : List ℕ). done ++ xs) (sym e) ∙ d

-- the next line of a piece
pub line_step : (rule rule' : Rule) (bytes done end written kept kept' : List ℕ) (old new : Progress) → rule' ≡ rule → HasNoNewline end → kept' ≡ [] →
    HasPut rule' (kept ++ end) old new →
    HasKept rule (bytes ++ done) written kept old → HasKept rule (bytes ++ (done ++ end ++ 10 ∷ [])) written kept' new
line_step rule rule' bytes done end written kept kept' old new r n k p h =
    let q : HasPut rule (kept ++ end) old new = subst (λ (x : Rule). HasPut x (kept ++ end) old new) r p in
    let w = newline_step rule ((bytes ++ done) ++ end) written (kept ++ end) old new (plain_step rule (bytes ++ done) end written kept old n h) q in
    let e : ((bytes ++ done) ++ end) ++ 10 ∷ [] ≡ bytes ++ (done ++ end ++ 10 ∷ []) = ap (λ (xs : List ℕ). xs ++ 10 ∷ []) (append_assoc bytes done end) ∙ append_assoc bytes (done ++ end) (10 ∷ []) in
    let v : HasKept rule (bytes ++ (done ++ end ++ 10 ∷ [])) written [] new = subst (λ (xs : List ℕ). HasKept rule xs written [] new) e w in
    subst (λ (line : List ℕ). HasKept rule (bytes ++ (done ++ end ++ 10 ∷ [])) written line new) (sym k) v

-- the end of a piece
pub rest_step : (rule : Rule) (bytes done rest piece written kept : List ℕ) (now : Progress) → HasNoNewline rest → done ++ rest ≡ piece →
    HasKept rule (bytes ++ done) written kept now → HasKept rule (bytes ++ piece) written (kept ++ rest) now
rest_step rule bytes done rest piece written kept now n d h =
    subst (λ (xs : List ℕ). HasKept rule (bytes ++ xs) written (kept ++ rest) now) d
    (subst (λ (xs : List ℕ). HasKept rule xs written (kept ++ rest) now) (append_assoc bytes done rest)
    (plain_step rule (bytes ++ done) rest written kept now n h))

last_is : (rest : List ℕ) → 0 < length rest → last_line rest ≡ rest ∷ []
last_is [] long = absurd (omega arith)
last_is (b ∷ bs) long = refl

-- what is kept is the last line
pub last_step : (rule : Rule) (bytes written kept : List ℕ) (old new : Progress) → 0 < length kept →
    HasKept rule bytes written kept old → HasPut rule kept old new → HasPutAll rule (lines_of bytes) written new
last_step rule bytes written kept old new long h p =
    let whole = (cut bytes).whole in
    let q : HasPut rule (cut bytes).rest old new = subst (λ (line : List ℕ). HasPut rule line old new) h.rest p in
    subst (λ (last : List (List ℕ)). HasPutAll rule (whole ++ last) written new)
    (sym (last_is (cut bytes).rest (subst (λ (xs : List ℕ). 0 < length xs) h.rest long)))
    (put_more rule whole (cut bytes).rest written old new h.put q)

-- what stands behind all answers
pub end_step : (rule rule' : Rule) (bytes written answers : List ℕ) (all : Progress) → rule' ≡ rule →
    HasPutAll rule (lines_of bytes) written all →
    ((lines : List (List ℕ)) → all.HasAnswered lines → answers ≡ all.answers ++ rule'.closing lines) → HasEnded rule bytes written answers all.summary
end_step rule rule' bytes written answers all r p close =
    let closed : answers ≡ all.answers ++ rule.closing (lines_of bytes) =
    subst (λ (x : Rule). answers ≡ all.answers ++ x.closing (lines_of bytes)) r (close (lines_of bytes) p.answered) in
    record {
      output =
          ap (λ (xs : List ℕ). written ++ xs) closed ∙ sym (append_assoc written all.answers (rule.closing (lines_of bytes)))
          ∙ ap (λ (xs : List ℕ). xs ++ rule.closing (lines_of bytes)) p.text;
      counted = p.counted;
    }

-- an empty read changes nothing
pub read_end : (input input' input'' : Option (List ℕ)) (bytes : List ℕ) (count : ℕ) (buffer : List ℕ) → count ≡ 0 → Consumes input input' bytes → Consumes input' input'' (take count buffer) → Consumes input input'' bytes
read_end input input' input'' bytes count buffer z c d =
    subst (λ (xs : List ℕ). Consumes input input'' xs) (append-nil bytes)
    (Consumes-then input input' input'' bytes [] c (subst (λ (n : ℕ). Consumes input' input'' (take n buffer)) z d))

-- ---- a run of these devices, whose output told so much once the answers to the whole lines of these bytes were written

module _ (rule rule' : Rule) (d : Devices) (now : Option (List ℕ)) (bytes : List ℕ) (written : Appends d.output.bytes now (text_of rule (cut bytes).whole))
    (kept : List ℕ) (before : Progress) (h : HasKept rule bytes (text_of rule (cut bytes).whole) kept before) (same : rule' ≡ rule) where
  -- one more piece was read
  module _ (middle : Option (List ℕ)) (piece : List ℕ) (read : Consumes d.input.bytes middle bytes) (more : Consumes middle d.input'.bytes piece) where
    read_piece : Consumes d.input.bytes d.input'.bytes (bytes ++ piece)
    read_piece = Consumes-then d.input.bytes middle d.input'.bytes bytes piece read more

    begun_piece : AppendsBeginning d.output.bytes d.output'.bytes (text_of rule (cut (bytes ++ piece)).whole) → HasBegun rule d
    begun_piece w = record { bytes = bytes ++ piece; read = read_piece; is_ended = false; ended = λ t. cc; written = w }

    -- nothing of it is written
    pub piece_fault : now ≡ d.output'.bytes → HasBegun rule d
    piece_fault e =
        begun_piece (begun_more rule bytes piece d.output.bytes d.output'.bytes
        (AppendsBeginning-all d.output.bytes d.output'.bytes _ (subst (λ (xs : Option (List ℕ)). Appends d.output.bytes xs (text_of rule (cut bytes).whole)) e written)))

    module _ (kept' : List ℕ) (after : Progress) (f : (xs done : List ℕ) → HasKept rule' xs done kept before → HasKept rule' (xs ++ piece) done kept' after) where
      taken : HasKept rule (bytes ++ piece) (text_of rule (cut bytes).whole) kept' after
      taken =
          let F : Rule → Type 0 = λ r. HasKept r bytes (text_of rule (cut bytes).whole) kept before → HasKept r (bytes ++ piece) (text_of rule (cut bytes).whole) kept' after in
          subst F same (f bytes (text_of rule (cut bytes).whole)) h

      -- a beginning of its answers is written
      pub piece_begun : AppendsBeginning now d.output'.bytes after.answers → HasBegun rule d
      piece_begun w =
          begun_piece (subst (λ (xs : List ℕ). AppendsBeginning d.output.bytes d.output'.bytes xs) taken.put.text
          (AppendsBeginning-then d.output.bytes now d.output'.bytes _ _ written w))

      -- its answers are written
      pub piece_step : (answers : List ℕ) → answers ≡ [] → Appends now d.output'.bytes after.answers →
          (all : List ℕ) × Consumes d.input.bytes d.input'.bytes all × Appends d.output.bytes d.output'.bytes (text_of rule (cut all).whole)
          × HasKept rule all (text_of rule (cut all).whole) kept' (state after.HasAnswered answers after.summary)
      piece_step answers none w = (
        bytes ++ piece,
        read_piece,
        subst (λ (xs : List ℕ). Appends d.output.bytes d.output'.bytes xs) taken.put.text (Appends-then d.output.bytes now d.output'.bytes _ _ written w),
        record {
          put = record {
            text = ap (λ (xs : List ℕ). text_of rule (cut (bytes ++ piece)).whole ++ xs) none ∙ append-nil (text_of rule (cut (bytes ++ piece)).whole);
            counted = taken.put.counted;
            answered = taken.put.answered;
          };
          rest = taken.rest;
        },
      )

  -- the end was met
  module _ (read : Consumes d.input.bytes d.input'.bytes bytes) (end : IsAtEnd d.input'.bytes) (answers : List ℕ) (summary : Summary)
      (f : (xs done : List ℕ) → HasKept rule' xs done kept before → HasEnded rule' xs done answers summary) where
    ended : HasEnded rule bytes (text_of rule (cut bytes).whole) answers summary
    ended =
        let F : Rule → Type 0 = λ r. HasKept r bytes (text_of rule (cut bytes).whole) kept before → HasEnded r bytes (text_of rule (cut bytes).whole) answers summary in
        subst F same (f bytes (text_of rule (cut bytes).whole)) h

    -- a beginning of the last answers is written
    pub end_begun : AppendsBeginning now d.output'.bytes answers → HasBegun rule d
    end_begun w = record {
      bytes = bytes;
      read = read;
      is_ended = true;
      ended = λ t. end;
      written = subst (λ (xs : List ℕ). AppendsBeginning d.output.bytes d.output'.bytes xs) ended.output (AppendsBeginning-then d.output.bytes now d.output'.bytes _ _ written w);
    }

    -- they are written, and flushed
    pub whole_run : (middle : Option (List ℕ)) → Appends now middle answers → Keeps middle d.output'.bytes → HasRun rule d summary
    whole_run middle w k = record {
      bytes = bytes;
      read = read;
      ended = end;
      divided = cut_is bytes;
      written = Appends-Keeps d.output.bytes middle d.output'.bytes _
          (subst (λ (xs : List ℕ). Appends d.output.bytes middle xs) ended.output (Appends-then d.output.bytes now middle _ _ written w)) k;
      counts = ended.counted;
    }

    -- and what the answerer then says of itself is known of the lines
    pub known_behind : (IsKnown : List (List ℕ) → Type 0) → ((xs done : List ℕ) → HasKept rule' xs done kept before → IsKnown (lines_of xs))
        → (middle : Option (List ℕ)) → Appends now middle answers → Keeps middle d.output'.bytes → HasRunBehind rule IsKnown d summary
    unfolding whole_run
    known_behind IsKnown known middle w k = record {
      run = whole_run middle w k;
      known = known bytes (text_of rule (cut bytes).whole) (subst (λ (r : Rule). HasKept r bytes (text_of rule (cut bytes).whole) kept before) (sym same) h);
    }
