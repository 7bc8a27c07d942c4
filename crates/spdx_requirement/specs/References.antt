-- Requirements without references.
use Rattle.std.specs.Prelude.{IsSome, IfSome}
use Rattle.spdx_requirement.specs.Items.{Requirement, listed_row, addition_row}

-- its licence is listed, and so is its addition, if it has one
abbrev pub HasNoReference : Requirement → Type 0
HasNoReference r = IsSome (listed_row r.license) × IfSome r.addition (λ a. IsSome (addition_row a))
