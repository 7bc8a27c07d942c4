-- What a notice says.
use Rattle.std.specs.Prelude.{ℕ, List, map}
use Rattle.license_notice.specs.declared.packages.Release.{Release}
use Rattle.license_notice.specs.declared.packages.Group.{Group}
use Rattle.license_notice.specs.Rows.{Line, Band}

abbrev pub line_of : Release → Line
line_of r = record { name = r.name.now; version = r.version.now }

abbrev pub band_of : Group → Band
band_of g = record { requirement = g.requirement.now; lines = map line_of g.packages.items }

abbrev pub bands_of : List Group → List Band
bands_of groups = map band_of groups

-- the requirements of bands
abbrev pub names_of : List Band → List (List ℕ)
names_of bands = map (λ (b : Band). b.requirement) bands
