-- A set of refusals. Only private clauses cite it.
use Rattle.std.specs.Prelude.{◌≡◌, Bool, List}
use Rattle.std.specs.declared.cmp.Ordering.{Ordering}
use Rattle.std.specs.Ordering.{nat_cmp, ordering_then}
use Rattle.std.specs.Cmp.Lexicographic.{slice_cmp}
use Rattle.std.specs.BTreeSet.{BTreeSet, contains}
use Rattle.gate_program.specs.declared.known.Refusal.{Refusal}
use Rattle.gate_program.specs.Known.{is_known}

abbrev pub refusal_cmp : Refusal → Refusal → Ordering
refusal_cmp x y =
    ordering_then (slice_cmp nat_cmp x.name.now y.name.now)
    (slice_cmp nat_cmp x.license.now y.license.now)

-- a look-up in the set says of each refusal whether it is one of these
abbrev pub Has : BTreeSet Refusal → List Refusal → Type 0
Has set refusals = (r : Refusal) → contains refusal_cmp set r ≡ is_known refusals r

-- the answer tells whether it is one of those in the set
abbrev pub IsTold : BTreeSet Refusal → Refusal → Bool → Type 0
IsTold set r known = (refusals : List Refusal) → Has set refusals → known ≡ is_known refusals r
