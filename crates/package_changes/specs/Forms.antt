-- The forms.
use Rattle.std.specs.Prelude.{ℕ, List, [], ◌∷◌, ◌++◌, flat_map}
use Rattle.package_changes.specs.declared.forms.Format.{Format}
use Rattle.package_changes.specs.declared.forms.Format.TheVariants.{Text, Json, Markdown}
use Rattle.package_changes.specs.declared.tellings.Telling.{Telling}
use Rattle.package_changes.specs.Json.{json_text}
use Rattle.package_changes.specs.Lines.{line_of}
use Rattle.package_changes.specs.Table.{table_of}

abbrev pub changes_text : Format → List Telling → List ℕ
changes_text Text ts = flat_map line_of ts
changes_text Json ts = json_text ts ++ 10 ∷ []
changes_text Markdown ts = table_of ts
