use Rattle.std.proofs.Common.{◌≡◌, map, take}
use Rattle.owed_texts.specs.Held.{each_first, lacked_by, name_in}
use Rattle.owed_texts.proofs.held.names_of.Given as goal

abbrev pub invariant-loop-lack : goal.invariant-loop-lack
invariant-loop-lack l = map name_in l.names.items ≡ each_first (map lacked_by (take l.lack-index l.lacks))
