use Rattle.std.proofs.Common.{◌∙◌, sym}
use Rattle.std.specs.Prelude.{bytes_eq, string_bytes}
use Rattle.owed_texts.proofs.FilesRead.{any_in_map}
use Rattle.owed_texts.proofs.own.is_among.Goals as goal

pub returns : goal.returns
returns c = c.has.ensures ∙ sym (any_in_map (λ path. bytes_eq path c.args.name.now) string_bytes c.args.declared.now)
