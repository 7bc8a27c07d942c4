-- A finding's text round the number of its line tells the finding in each line of the file.
use Rattle.std.proofs.Common.{◌≡◌, ℕ, List, Some, refl, sym, ap, ◌∙◌}
use Rattle.finding_forms.specs.declared.forms.Format.{Format}
use Rattle.finding_forms.specs.declared.text.frames.Frame.{Frame}
use Rattle.finding_forms.specs.Finding.{Told}
use Rattle.finding_forms.specs.Forms.{finding_text}
use Rattle.finding_forms.specs.Frames.{IsFrame, on_line}
use Rattle.spdx_check.specs.declared.known.Known.TheVariants.{Framed}
use Rattle.spdx_check.specs.Checking.{told_at}
use Rattle.spdx_check.specs.Finding.{Wrong}
use Rattle.spdx_check.specs.Known.{spot_in, Tells}

pub framed_tells : (format : Format) (file : List ℕ) (wrong : Wrong) (frame : Frame) (t : Told) → t ≡ told_at (spot_in file 1) wrong → IsFrame format t frame → Tells format file (Some wrong) (Framed frame)
framed_tells format file wrong frame t e h = record {
  text = λ is_first line. sym (h is_first line) ∙ ap (λ x. finding_text format is_first (on_line x line)) e;
  refuses = refl;
}
