-- What the packages' choices want.
use Rattle.std.specs.Prelude.{ℕ, List, map, flat_map, string_bytes}
use Rattle.license_notice.specs.declared.packages.Package.{Package}
use Rattle.license_notice.specs.declared.packages.Requirement.{Requirement}
use Rattle.license_notice.specs.Rows.{Row, row}

-- a package stands under each requirement of its choice
abbrev pub rows_of : Package → List Row
rows_of p = map (λ (q : Requirement). row q.name.now p.name.now p.version.now) p.choice.now

abbrev pub chosen_rows : List Package → List Row
chosen_rows packages = flat_map rows_of packages

-- the texts that a requirement wants
abbrev pub texts_of : Requirement → List (List ℕ)
texts_of q = map string_bytes q.texts.now

abbrev pub texts_for : Package → List (List ℕ)
texts_for p = flat_map texts_of p.choice.now

abbrev pub wanted_texts : List Package → List (List ℕ)
wanted_texts packages = flat_map texts_for packages
