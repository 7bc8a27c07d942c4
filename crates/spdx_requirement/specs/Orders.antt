-- The orders of items and requirements. Of a row its index alone counts.
use Rattle.std.specs.Prelude.{Bool, true, false, Option, Some, None}
use Rattle.std.specs.Ordering.{nat_cmp, ordering_then}
use Rattle.std.specs.declared.cmp.Ordering.{Ordering}
use Rattle.std.specs.declared.cmp.Ordering.TheVariants.{Less, Equal, Greater}
use Rattle.std.specs.Cmp.Lexicographic.{slice_cmp}
use Rattle.spdx_requirement.specs.Items.{Reference, LicenseTerm, listed, referred, Addition, excepted, added, Requirement}

-- none before some
abbrev pub option_cmp : {A : Type 0} → (A → A → Ordering) → Option A → Option A → Ordering
option_cmp cmp None None = Equal
option_cmp cmp None (Some y) = Less
option_cmp cmp (Some x) None = Greater
option_cmp cmp (Some x) (Some y) = cmp x y

-- unmarked before marked
abbrev pub mark_cmp : Bool → Bool → Ordering
mark_cmp false false = Equal
mark_cmp false true = Less
mark_cmp true false = Greater
mark_cmp true true = Equal

-- by document, then by name, texts by bytes
abbrev pub reference_cmp : Reference → Reference → Ordering
reference_cmp r s =
    ordering_then (option_cmp (slice_cmp nat_cmp) r.document s.document)
    (slice_cmp nat_cmp r.name s.name)

-- rows before references; rows by index, then by mark
abbrev pub license_cmp : LicenseTerm → LicenseTerm → Ordering
license_cmp (listed r m) (listed s n) = ordering_then (nat_cmp r.index s.index) (mark_cmp m n)
license_cmp (listed r m) (referred s) = Less
license_cmp (referred r) (listed s n) = Greater
license_cmp (referred r) (referred s) = reference_cmp r s

abbrev pub addition_cmp : Addition → Addition → Ordering
addition_cmp (excepted r) (excepted s) = nat_cmp r.index s.index
addition_cmp (excepted r) (added s) = Less
addition_cmp (added r) (excepted s) = Greater
addition_cmp (added r) (added s) = reference_cmp r s

-- by licence, then by addition
abbrev pub requirement_cmp : Requirement → Requirement → Ordering
requirement_cmp r s =
    ordering_then (license_cmp r.license s.license) (option_cmp addition_cmp r.addition s.addition)
