-- Items, and the items in them.
use Rattle.std.specs.Prelude.{ℕ, zero, suc, List, ◌∷◌, ◌++◌, Result, Ok, Err, codes}
use Rattle.serde_json.specs.Find.{get}
use Rattle.package_items.specs.declared.nested.Parts.{Parts}
use Rattle.package_items.specs.declared.nested.Parts.TheVariants as parts
use Rattle.package_items.specs.Rows.{Fault, deeper, ItemRow}
use Rattle.package_items.specs.Members.{on_ok}
use Rattle.package_items.specs.Items.{list_items_if_any, member_items_if_any, all_of}

-- where the parts of an item stand in it
pub data PartsRow : Type 0 where
  in_list : List ℕ → PartsRow
  in_object : List ℕ → PartsRow

abbrev pub parts_row : Parts → PartsRow
parts_row (parts.List key) = in_list key.now
parts_row (parts.Object key) = in_object key.now

-- the parts of an item
abbrev pub parts_of : PartsRow → ItemRow → Result (List ItemRow) Fault
parts_of (in_list key) i = list_items_if_any (i.at ++ (codes "/" ++ key)) (get key i.holds)
parts_of (in_object key) i = member_items_if_any (i.at ++ (codes "/" ++ key)) (get key i.holds)

abbrev pub too_deep : ItemRow → Fault
too_deep i = deeper i.at

-- an item, and behind it its parts, each with its own parts, through so many levels
unfoldable pub with_parts : PartsRow → ℕ → ItemRow → Result (List ItemRow) Fault
with_parts p zero i = Err (too_deep i)
with_parts p (suc n) i =
    on_ok (parts_of p i)
    (λ inner. on_ok (all_of (λ x. with_parts p n x) inner) (λ more. Ok (i ∷ more)))

-- each of the items, with its parts behind it
abbrev pub all_with_parts : PartsRow → ℕ → List ItemRow → Result (List ItemRow) Fault
all_with_parts p n items = all_of (λ i. with_parts p n i) items
