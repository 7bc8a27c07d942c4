-- What the code's types show.
use Rattle.std.specs.Prelude.{◌≡◌, None, Some, slice_get}
use Rattle.spdx_requirement.specs.Rows.{Rows, LicenseRow}
use Rattle.spdx_requirement.specs.Ids.{id_row}
use Rattle.spdx_requirement.specs.Items.{LicenseTerm, listed, referred}
use Rattle.spdx_lexer.specs.Code.{document_of}
use Rattle.spdx_parser.specs.declared.name.Name.{Name}
use Rattle.spdx_parser.specs.declared.last.Last as code
use Rattle.spdx_parser.specs.Last.{Last, Due, Listed, Unlisted, Named, Joined, Added, Closed}

abbrev pub name_license : Name → LicenseTerm
name_license (Name.Listed id or_later) = listed (id_row id) or_later
name_license (Name.Reference d n) = referred (record { document = document_of d; name = n.now })
name_license (Name.Unknown n) = referred (record { document = None; name = n.now })

abbrev pub last_in : code.Last → Last
last_in code.Last.Due = Due
last_in (code.Last.Listed id) = Listed (id_row id)
last_in code.Last.Unlisted = Unlisted
last_in code.Last.Named = Named
last_in code.Last.Joined = Joined
last_in code.Last.Added = Added
last_in code.Last.Closed = Closed

-- the row stands in the catalogue's list, at its own index
abbrev pub IsLicenseRow : Rows → LicenseRow → Type 0
IsLicenseRow c r = slice_get c.licenses r.index ≡ Some r

-- a listed licence that was just read is one of the catalogue's
abbrev pub IsKnown : Rows → Last → Type 0
IsKnown c (Listed r) = IsLicenseRow c r
IsKnown c last = Unit {0}
