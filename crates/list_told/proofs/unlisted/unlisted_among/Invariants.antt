use Rattle.std.proofs.Common.{◌≡◌, ◌++◌, drop, filter, map}
use Rattle.spdx_list.specs.Diff.{nows}
use Rattle.list_told.specs.Unlisted.{is_unlisted, unlisted_by, unlisted_row}
use Rattle.list_told.proofs.unlisted.unlisted_among.Given as goal

abbrev pub invariant-loop-name : goal.invariant-loop-name
invariant-loop-name l =
    map unlisted_row l.all.items ++ map (unlisted_by l.catalogue) (filter (is_unlisted l.catalogue) (nows (drop l.name-index l.names)))
    ≡ map (unlisted_by l.catalogue) (filter (is_unlisted l.catalogue) (nows l.names))
