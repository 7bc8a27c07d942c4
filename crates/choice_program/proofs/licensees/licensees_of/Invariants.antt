use Rattle.std.proofs.Common.{map, take}
use Rattle.std.specs.List.{AllZip}
use Rattle.spdx_licensee.specs.LicenseeText.{Names}
use Rattle.choice_program.specs.Licensees.{name_in}
use Rattle.choice_program.proofs.licensees.licensees_of.Given as goal

abbrev pub invariant-loop-name : goal.invariant-loop-name
invariant-loop-name l = AllZip (Names l.catalogue) (map name_in (take l.name-index l.names)) l.licensees.items
