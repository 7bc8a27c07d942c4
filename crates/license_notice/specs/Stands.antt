-- A row as the program holds it. Only private clauses cite it.
use Rattle.license_notice.specs.declared.stands.Stand.{Stand}
use Rattle.license_notice.specs.Rows.{Row, row}

abbrev pub row_of : Stand → Row
row_of s = row s.requirement.now s.name.now s.version.now
