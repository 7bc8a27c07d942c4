-- What JSON values hold: texts, flags, and arrays of rows.
use Rattle.std.specs.Prelude.{ℕ, suc, Bool, false, List, [], ◌∷◌, Option, Some, None, Result, Ok, Err}
use Rattle.serde_json.specs.Data.{Data, Items, no_items, item}
use Rattle.serde_json.specs.Find.{get, as_bool}
use Rattle.spdx_tables.specs.Shape.{items_at}
use Rattle.spdx_list.specs.declared.error.Table.{Table}
use Rattle.spdx_list.specs.declared.error.Member.{Member}
use Rattle.spdx_list.specs.declared.error.ListFault.{ListFault}
use Rattle.spdx_list.specs.declared.error.ListFault.TheVariants as fault

-- what is missing is the fault
abbrev pub need : {A B E : Type 0} → E → Option A → (A → Result B E) → Result B E
need e None go = Err e
need e (Some x) go = go x

-- go on with the value, or stop at the fault
abbrev pub on_ok : {A B E : Type 0} → Result A E → (A → Result B E) → Result B E
on_ok (Err e) go = Err e
on_ok (Ok x) go = go x

-- a flag that is missing is false
abbrev pub flag_of : Option Data → Option Bool
flag_of None = Some false
flag_of (Some d) = as_bool d

-- the flag at a key, unless what stands there is neither true nor false
abbrev pub flag_at : List ℕ → Data → Option Bool
flag_at key d = flag_of (get key d)

-- the fault of an item is that of its table
abbrev pub of_item : {A : Type 0} → Table → ℕ → Result A Member → Result A ListFault
of_item table index (Err m) = Err (fault.Item table index m)
of_item table index (Ok x) = Ok x

-- the rows of a table, from the given index on, or the first item that is none
abbrev pub rows_from : {A : Type 0} → (Data → Result A Member) → Table → ℕ → Items →
    Result (List A) ListFault
rows_from row table index no_items = Ok []
rows_from row table index (item d ds) =
    on_ok (of_item table index (row d))
    (λ r. on_ok (rows_from row table (suc index) ds) (λ rs. Ok (r ∷ rs)))

-- the rows of the array at a key
abbrev pub rows_at : {A : Type 0} → (Data → Result A Member) → Table → List ℕ → Data →
    Result (List A) ListFault
rows_at row table key d = need (fault.NoTable table) (items_at key d) (rows_from row table 0)
