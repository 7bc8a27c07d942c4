-- How far a run has come.
use Rattle.std.specs.Prelude.{◌≡◌, ℕ, Bool, true, Option, Some, List, [], ◌∷◌, ◌++◌}
use Rattle.std.specs.Io.KnownBytes.{Appends, Consumes, IsAtEnd}
use Rattle.line_engine.specs.declared.lines.Summary.{Summary}
use Rattle.line_engine.specs.Device.{Devices}
use Rattle.line_engine.specs.Rule.{Rule}
use Rattle.line_engine.specs.Lines.{cut, lines_of, IsCut}
use Rattle.line_engine.specs.Output.{text_of, output_of, output_so_far, summary_of, count_line}

-- a beginning of these bytes was taken
pub record AppendsBeginning (old new : Option (List ℕ)) (bytes : List ℕ) : Type 0 where
  pub begun : List ℕ
  pub others : List ℕ
  pub whole : bytes ≡ begun ++ others
  pub appended : Appends old new begun

-- which lines may be answered so far, the answers that are not yet written, and the counts
pub record Progress : Type 1 where
  pub HasAnswered : List (List ℕ) → Type 0
  pub answers : List ℕ
  pub summary : Summary

abbrev pub state : (List (List ℕ) → Type 0) → List ℕ → Summary → Progress
state HasAnswered answers summary =
    record { HasAnswered = HasAnswered; answers = answers; summary = summary }

-- one more line is answered and counted
pub record HasPut (rule : Rule) (line : List ℕ) (old new : Progress) : Type 0 where
  pub text : (lines : List (List ℕ)) → old.HasAnswered lines →
      new.answers ≡ old.answers ++ rule.text lines line
  pub counted : new.summary ≡ count_line old.summary (rule.refuses line)
  pub answered : (lines : List (List ℕ)) → old.HasAnswered lines →
      new.HasAnswered (lines ++ line ∷ [])

-- these lines are answered and counted: the first of the answers are written, the others are not
-- yet
pub record HasPutAll (rule : Rule) (lines : List (List ℕ)) (written : List ℕ)
    (now : Progress) : Type 0 where
  pub text : written ++ now.answers ≡ text_of rule lines
  pub counted : now.summary ≡ summary_of rule lines
  pub answered : now.HasAnswered lines

-- of the bytes read so far each whole line is answered and counted, and the incomplete one is kept
pub record HasKept (rule : Rule) (bytes written kept : List ℕ) (now : Progress) : Type 0 where
  pub put : HasPutAll rule (cut bytes).whole written now
  pub rest : kept ≡ (cut bytes).rest

-- these bytes are the whole input: its output is what is written and these answers, and these are
-- its counts
pub record HasEnded (rule : Rule) (bytes written answers : List ℕ)
    (summary : Summary) : Type 0 where
  pub output : written ++ answers ≡ output_of rule bytes
  pub counted : summary ≡ summary_of rule (lines_of bytes)

-- all of the input was read and cut into its lines, its output was written and nothing else, and
-- these are its counts
pub record HasRun (rule : Rule) (d : Devices) (summary : Summary) : Type 0 where
  pub bytes : List ℕ
  pub read : Consumes d.input.bytes d.input'.bytes bytes
  pub ended : IsAtEnd d.input'.bytes
  pub divided : IsCut bytes (cut bytes)
  pub written : Appends d.output.bytes d.output'.bytes (output_of rule bytes)
  pub counts : summary ≡ summary_of rule (lines_of bytes)

-- a run to the end, and this is known of the lines of its input
pub record HasRunBehind (rule : Rule) (IsKnown : List (List ℕ) → Type 0) (d : Devices)
    (summary : Summary) : Type 0 where
  pub run : HasRun rule d summary
  pub known : IsKnown (lines_of run.bytes)

-- a run to the end, of an input that tells its bytes: these were all of them
pub record IsAnswered (rule : Rule) (d : Devices) (summary : Summary)
    (bytes : List ℕ) : Type 0 where
  pub ended : d.input'.bytes ≡ Some []
  pub written : Appends d.output.bytes d.output'.bytes (output_of rule bytes)
  pub counts : summary ≡ summary_of rule (lines_of bytes)

-- these bytes were read, and a beginning of what they give was written, the last line among them
-- only where the end of the input was met
pub record HasBegun (rule : Rule) (d : Devices) : Type 0 where
  pub bytes : List ℕ
  pub read : Consumes d.input.bytes d.input'.bytes bytes
  pub is_ended : Bool
  pub ended : is_ended ≡ true → IsAtEnd d.input'.bytes
  pub written : AppendsBeginning d.output.bytes d.output'.bytes (output_so_far rule bytes is_ended)

-- these bytes were read, and the answers to all lines that are whole in them were written, and
-- nothing else
pub record HasWrittenLines (rule : Rule) (d : Devices) : Type 0 where
  pub bytes : List ℕ
  pub read : Consumes d.input.bytes d.input'.bytes bytes
  pub written : Appends d.output.bytes d.output'.bytes (text_of rule (cut bytes).whole)

-- the same, and this is known of those lines
pub record HasWrittenBehind (rule : Rule) (IsKnown : List (List ℕ) → Type 0)
    (d : Devices) : Type 0 where
  pub lines : HasWrittenLines rule d
  pub known : IsKnown (cut lines.bytes).whole
