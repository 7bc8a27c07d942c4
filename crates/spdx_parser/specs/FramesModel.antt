-- What a stack of frames shows: the innermost first.
use Rattle.std.specs.Prelude.{List, ◌++◌}
use Rattle.spdx_parser.specs.declared.frames.Frame.{Frame}
use Rattle.spdx_parser.specs.declared.frames.Frames.TheInside.{Inside}
use Rattle.spdx_parser.specs.Frames.{empty_frames, frames_in}

abbrev pub view_of : Inside → List Frame
view_of s = empty_frames s.empty ++ frames_in s.runs.items
