-- Which characters are not shown as they are, by Unicode's categories.
use Rattle.std.specs.Prelude.{ℕ, Bool, true, false}
use Rattle.ucd_category.specs.declared.GeneralCategory.{GeneralCategory}
use Rattle.ucd_category.specs.declared.GeneralCategory.TheVariants.{Control, Format, LineSeparator, ParagraphSeparator, Unassigned}
use Rattle.ucd_category.specs.GeneralCategory.{general_category}

-- controls, marks of format, separators of lines and paragraphs, and what Unicode has not assigned
abbrev pub hides : GeneralCategory → Bool
hides Control = true
hides Format = true
hides LineSeparator = true
hides ParagraphSeparator = true
hides Unassigned = true
hides _ = false

abbrev pub is_hidden : ℕ → Bool
is_hidden c = hides (general_category c)
