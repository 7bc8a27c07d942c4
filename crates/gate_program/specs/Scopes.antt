-- Which packages a run tells of. Only private clauses cite it.
use Rattle.std.specs.Prelude.{ℕ, List, Option, None, Some}
use Rattle.std.specs.Option.{option_copied}
use Rattle.gate_told.specs.declared.forms.Format.{Format}
use Rattle.gate_told.specs.declared.packages.Scope.{Scope}
use Rattle.gate_told.specs.declared.packages.Scope.TheVariants.{All}
use Rattle.gate_told.specs.Scopes.{scope_of}
use Rattle.gate_program.specs.declared.told.Look.{Look}

-- a package that is to be explained may be of any verdict
abbrev pub scope_by : Option (List ℕ) → Format → Scope
scope_by None format = scope_of format
scope_by (Some name) format = All

abbrev pub scope_in : Look → Scope
scope_in look = scope_by (option_copied look.explain) look.format
