-- Changed rows as what their rows show.
use Rattle.spdx_list.specs.declared.diff.RowChange.{RowChange}

-- a change as the older and the newer row
abbrev pub pair_of : {R A : Type 0} → (R → A) → RowChange R → A × A
pair_of shown c = (shown c.old.now, shown c.new.now)
