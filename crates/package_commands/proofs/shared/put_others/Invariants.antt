use Rattle.std.proofs.Common.{◌≡◌, ◌++◌, map, string_bytes, take}
use Rattle.owed_texts.specs.Held.{name_in}
use Rattle.package_commands.specs.Shared.{other_names}
use Rattle.package_commands.proofs.shared.put_others.Given as goal

abbrev pub invariant-loop-name : goal.invariant-loop-name
invariant-loop-name l =
    string_bytes l.text ≡ string_bytes l.initial.text ++ other_names (map name_in (take l.name-index l.names))
