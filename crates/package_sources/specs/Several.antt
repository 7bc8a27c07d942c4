-- Several licenses of one package.
use Rattle.std.specs.Prelude.{ℕ, List, ◌++◌, Some, Result, Ok, codes}
use Rattle.serde_json.specs.Data.{Data, object}
use Rattle.serde_json.specs.Find.{get}
use Rattle.package_sources.specs.declared.several.Entry.{Entry}
use Rattle.package_sources.specs.declared.several.Entry.TheVariants as entry
use Rattle.package_items.specs.Rows.{Fault, LicenseRow, ItemRow}
use Rattle.package_items.specs.Texts.{license_of_all}
use Rattle.package_items.specs.Members.{on_ok, text_of}
use Rattle.package_items.specs.Items.{each}

-- npm: an object with a text at `type`, or itself a text
abbrev pub npm_text : List ℕ → Data → Result (List ℕ) Fault
npm_text at (object ms) = text_of (at ++ codes "/type") (get (codes "type") (object ms))
npm_text at d = text_of (at ++ codes "") (Some d)

abbrev pub entry_text : Entry → ItemRow → Result (List ℕ) Fault
entry_text entry.Npm i = npm_text i.at i.holds
entry_text entry.Text i = text_of (i.at ++ codes "") (Some i.holds)

-- what the entries of a list say: each is a choice
abbrev pub choice_of : Entry → List ItemRow → Result LicenseRow Fault
choice_of kind items =
    on_ok (each (entry_text kind) items) (λ texts. Ok (license_of_all (codes " OR ") texts))
