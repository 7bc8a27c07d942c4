-- The frames in which open parentheses stand, and how they are kept.
use Rattle.std.specs.Prelude.{ℕ, List, ◌∷◌, replicate, reverse}
use Rattle.std.specs.List.{flat_map}
use Rattle.spdx_parser.specs.declared.frames.Frame.{Frame}
use Rattle.spdx_parser.specs.declared.frames.Run.{Run}

-- nothing waits
abbrev pub empty_frame : Frame
empty_frame = record { ors = 0; ands = 0 }

-- so many empty frames
abbrev pub empty_frames : ℕ → List Frame
empty_frames n = replicate n empty_frame

-- a frame, and the empty ones directly around it
abbrev pub frames_of : Run → List Frame
frames_of r = r.frame ∷ empty_frames r.around

-- the frames of all runs, of which the innermost stands last
abbrev pub frames_in : List Run → List Frame
frames_in runs = flat_map frames_of (reverse runs)
