-- What is put for a sink is safe there, and is read as the text.
use Rattle.std.proofs.Common.{◌≡◌, ℕ, List, true, Some, chars, ap, ◌∙◌}
use Rattle.std.specs.Str.{IsUtf8}
use Rattle.std.proofs.lemmas.Str.{encodes-chars, scalars-chars}
use Rattle.std.proofs.Math.Utf8.{encodes}
use lib.Utf8.{scalars}
use Rattle.foreign_text.specs.Written.{text_for}
use Rattle.foreign_text.specs.Read.{IsSafe, read, read_line}
use Rattle.foreign_text.specs.declared.sinks.Sink.{Sink}
use Rattle.foreign_text.specs.declared.sinks.Sink.TheVariants.{Line, Lines, Command, Property, Path, Message}
use Rattle.foreign_text.proofs.Lines.{line_chars, lines_chars}
use Rattle.foreign_text.proofs.Marks.{command_chars, property_chars}
use Rattle.foreign_text.proofs.Uris.{path_chars}
use Rattle.foreign_text.proofs.Messages.{message_chars}
use Rattle.foreign_text.proofs.Safe.{chars_safe}

pub is_safe : (sink : Sink) (text : List ℕ) → IsUtf8 text → IsSafe sink (text_for sink text)
is_safe sink text u = chars_safe sink (chars text) (scalars-chars text u)

as_chars : (sink : Sink) (text : List ℕ) → scalars (chars text) ≡ true → read sink (text_for sink text) ≡ Some (encodes (chars text))
as_chars Line text s = line_chars (chars text) s
as_chars Lines text s = lines_chars (chars text) s
as_chars Command text s = ap read_line (command_chars (chars text) s) ∙ lines_chars (chars text) s
as_chars Property text s = ap read_line (property_chars (chars text) s) ∙ lines_chars (chars text) s
as_chars Path text s = path_chars (chars text) s
as_chars Message text s = message_chars (chars text)

pub reads_back : (sink : Sink) (text : List ℕ) → IsUtf8 text → read sink (text_for sink text) ≡ Some text
reads_back sink text u = as_chars sink text (scalars-chars text u) ∙ ap (λ (t : List ℕ). Some t) (encodes-chars text u)
