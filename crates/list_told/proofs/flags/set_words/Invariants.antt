use Rattle.std.proofs.Common.{◌≡◌, ◌++◌, drop, map}
use Rattle.spdx_list.specs.Diff.{nows}
use Rattle.list_told.specs.Flags.{flag_of, set_words}
use Rattle.list_told.proofs.flags.set_words.Given as goal

abbrev pub invariant-loop-flag : goal.invariant-loop-flag
invariant-loop-flag l =
    nows l.words.items ++ set_words (map flag_of (drop l.flag-index l.flags)) ≡ set_words (map flag_of l.flags)
