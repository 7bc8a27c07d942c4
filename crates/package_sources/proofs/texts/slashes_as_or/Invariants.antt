use Rattle.std.proofs.Common.{◌≡◌, string_bytes, flat_map}
use Rattle.package_sources.specs.Texts.{slash_as_or}
use Rattle.package_sources.proofs.texts.slashes_as_or.Given as goal

abbrev pub invariant-loop-letter : goal.invariant-loop-letter
invariant-loop-letter l = string_bytes l.line ≡ flat_map slash_as_or l.yielded
