use Rattle.std.proofs.Common.{◌≡◌}
use Rattle.std.specs.List.{list_all}
use Rattle.std.specs.Path.{components_remaining, path_bytes, path_components}
use Rattle.check_sources.specs.Untagged as spec
use Rattle.check_sources.proofs.untagged.leads_down.Given as goal

abbrev pub invariant-loop-part : goal.invariant-loop-part
invariant-loop-part l =
    (goal.iterator-loop-part).can_next l.part-iterator ×
    (goal.iterator-loop-part).is_finite l.part-iterator ×
    (list_all spec.leads_down (path_components (path_bytes l.path)) ≡ list_all spec.leads_down (components_remaining l.part-iterator))
