-- Requirements as numbers: how many of some requirements stand before them in the order.
use Rattle.std.specs.Prelude.{ℕ, List, [], count_by, slice_get}
use Rattle.std.specs.Option.{option_map_or}
use Rattle.std.specs.List.Sorted.{IsSortedBy}
use Rattle.spdx_requirement.specs.declared.requirement.LicenseReq.{LicenseReq}
use Rattle.spdx_requirement.specs.Items.{Requirement, requirement_of}
use Rattle.spdx_requirement.specs.Orders.{requirement_cmp}
use Rattle.spdx_requirement.specs.Texts.{requirement_text}
use Rattle.spdx_meaning.specs.Sets.{is_before}

abbrev pub rank_in : List Requirement → Requirement → ℕ
rank_in qs r = count_by (λ q. is_before requirement_cmp q r) qs

-- none of the requirements stands before the one in front of it
abbrev pub AreOrdered : List LicenseReq → Type 0
AreOrdered xs =
    IsSortedBy (λ x y. is_before requirement_cmp (requirement_of x) (requirement_of y)) xs

-- the text of the requirement that has the rank, where they are in their order
abbrev pub name_at : List Requirement → ℕ → List ℕ
name_at qs k = option_map_or requirement_text (slice_get qs k) []
