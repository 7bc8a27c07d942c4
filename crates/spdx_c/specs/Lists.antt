-- The rows of a handle's list.
use Rattle.std.specs.Prelude.{Option}
use Rattle.spdx_requirement.specs.Rows.{Rows}
use Rattle.spdx_c.specs.declared.handle.ListHandle.{ListHandle}
use Rattle.spdx_c.specs.declared.handle.ListLoan.{ListLoan}

-- the rows of the list that a handle owns, and none where it is closed
abbrev pub rows_of : ListHandle → Option Rows
rows_of handle = handle.slot.held

-- the same of a list that is lent
abbrev pub rows_lent : ListLoan → Option Rows
rows_lent list = list.loan.held
