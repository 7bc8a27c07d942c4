-- The options of a command, as the toolchain's `clap` reads them: it says what each of them is given by
-- the words of a command line.
use Rattle.clap.specs.Lexer.{usize_max}
use Rattle.clap.specs.Simple.{Shape, app_of, filled_from, help_rule, new_rule, new_shape}
use Rattle.clap.specs.Walk.{Row, Rule, Text, all_of, first_of, rows_after}
use Rattle.clap.specs.declared.builder.action.ArgAction.TheVariants.{Append, Set, SetTrue}
use Rattle.clap.specs.declared.builder.command.Command.{Command}
use Rattle.clap.specs.declared.builder.command.Command.TheViews.{out-Command as fields_of}
use Rattle.clap.specs.declared.builder.value_parser.ValueParser.TheVariants.{Names}
use Rattle.std.specs.Borrow.{Bor}
use Rattle.std.specs.Option.{option_map_or}
use Rattle.std.specs.declared.alloc.Global.{Global}
use Rattle.std.specs.Prelude.{◌≡◌, ℕ, String, string_bytes, Bool, true, false, List, [], ◌∷◌, ◌++◌}
use Rattle.std.specs.Prelude.{Some, bytes_eq, codes, is_some, unwrap_or}

-- an option without a value
abbrev pub flag : Text → Rule
flag name = record (new_rule name) { long = Some name; action = Some SetTrue }

-- one that goes by a letter too
abbrev pub lettered : ℕ → Rule → Rule
lettered letter r = record r { short = Some letter }

-- an option with a value
abbrev pub option : Text → Rule
option name =
    record (new_rule name) { long = Some name; value_names = 1; action = Some Set }

-- an option whose value is one of these names
abbrev pub choice : Text → Bor (List (Bor Text)) → Rule
choice name names = record (option name) { parser = Some (Names names) }

-- it has this value where the words don't say it
abbrev pub with_value : Text → Rule → Rule
with_value text r = record r { defaults = text ∷ [] }

-- it isn't left out
abbrev pub wanted : Rule → Rule
wanted r = record r { required = true }

-- a word that is no option
abbrev pub word : Text → Rule
word name = record (new_rule name) { action = Some Set }

-- as many words that are no options as there are
abbrev pub words : Text → Rule
words name = record (new_rule name) {
  action = Some Append;
  range = Some (record { start_inclusive = 0; end_inclusive = usize_max });
}

-- a command with these options
abbrev pub command : Text → List Rule → Shape
command name options = record (new_shape name) { rules = options }

-- what the options of a command are given by the words behind its name
abbrev pub given : List Rule → List Text → List Row
given options words = rows_after (filled_from 1 (options ++ help_rule ∷ [])) [] words

-- the words have the flag
abbrev pub has : List Row → Text → Bool
has rows name = option_map_or (λ text. bytes_eq text (codes "true")) (first_of name rows) false

-- the words have the option
abbrev pub says : List Row → Text → Bool
says rows name = is_some (first_of name rows)

-- the values of an option or of words that are none
abbrev pub all_in : List Row → Text → List Text
all_in rows name = unwrap_or (all_of name rows) []

-- the command is of this shape, and has no commands of its own
pub record IsAlone (shape : Shape) (c : Command) : Type 0 where
  pub app : app_of c ≡ record { top = shape; subs = [] }
  pub local : (fields_of c).has_globals ≡ false

-- the command has these options, and no commands of its own
abbrev pub IsCommand : Text → List Rule → Command → Type 0
IsCommand name options c = IsAlone (command name options) c

-- the text of a word
abbrev pub text_of : String Global → Text
text_of = string_bytes
