-- The lines before the hunks are read as the names of the file.
use Rattle.std.proofs.Common.{ℕ, zero, suc, List, codes, arith}
use Rattle.std.specs.Str.{IsAscii, IsUtf8}
use Rattle.std.proofs.lemmas.Str.{IsUtf8-append, IsUtf8-from_ascii}
use Rattle.foreign_text.proofs.Headers.{reads_back}
use Rattle.line_diff.specs.Diff.{old_name, new_name, NamesThisFile}

old_ascii : IsAscii (codes "a/")
old_ascii zero = omega arith
old_ascii (suc zero) = omega arith
old_ascii (suc (suc i)) = omega arith

new_ascii : IsAscii (codes "b/")
new_ascii zero = omega arith
new_ascii (suc zero) = omega arith
new_ascii (suc (suc i)) = omega arith

pub names_this_file : (name : List ℕ) → IsUtf8 name → NamesThisFile name
names_this_file name u = record {
  old = reads_back (old_name name) (IsUtf8-append (codes "a/") name (IsUtf8-from_ascii (codes "a/") old_ascii) u);
  new = reads_back (new_name name) (IsUtf8-append (codes "b/") name (IsUtf8-from_ascii (codes "b/") new_ascii) u);
}
