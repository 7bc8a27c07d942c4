-- What a command is given, by the words that enter it.
use Rattle.std.proofs.Common.{arith, get_or, length, ◌<◌, ◌≡◌, ◌∙◌, ap, refl, codes, sym, true, false, ◌≤◌, List, [], ◌∷◌, ◌++◌, Option, Some}
use Rattle.std.specs.Option.{option_map_or}
use Rattle.std.specs.Prelude.{String, bytes_eq, map}
use Rattle.std.specs.declared.alloc.Global.{Global}
use Rattle.std.proofs.lemmas.Slice.Eq.{bytes_eq-Decides}
use Rattle.clap.specs.Simple.{App, Shape, filled_from, help_rule, subcommand_of}
use Rattle.clap.specs.Walk.{Row, Rule, Text}
use Rattle.spdx_words.specs.Commands.{differ_options, make_options, show_options, spdx, spdx_list}
use Rattle.spdx_words.specs.Lines.{enters}
use Rattle.spdx_words.specs.Options.{command, given, text_of}
use Rattle.spdx_words.proofs.Entering.{entered_by}

same_name : (name : Text) → bytes_eq name name ≡ true
same_name name = (bytes_eq-Decides name name).1 refl

-- a command once it is built
abbrev ready : Text → List Rule → Shape
ready name options = record (command name options) {
  rules = filled_from 1 (options ++ help_rule ∷ []);
  disable_help_subcommand = true;
  is_built = true;
}

pub spdx_given : (name : Text) (options : List Rule) (program : Text) (behind : List Text)
    → subcommand_of (spdx (command name options)) (program ∷ name ∷ behind) ≡ Some (name, given options behind)
spdx_given name options program behind =
    entered_by (spdx (command name options)) program name name behind (ready name options) refl
    (rw (same_name name) refl) (rw (same_name name) refl)

module _ (behind : List Text) where
  abbrev pub in_list : (name : Text) (options : List Rule) → Type 0
  in_list name options = subcommand_of spdx_list (codes "list" ∷ name ∷ behind) ≡ Some (name, given options behind)

  pub show_given : in_list (codes "show") show_options
  show_given = entered_by spdx_list (codes "list") (codes "show") (codes "show") behind (ready (codes "show") show_options) refl refl refl

  pub make_given : in_list (codes "make") make_options
  make_given = entered_by spdx_list (codes "list") (codes "make") (codes "make") behind (ready (codes "make") make_options) refl refl refl

  pub diff_given : in_list (codes "diff") differ_options
  diff_given = entered_by spdx_list (codes "list") (codes "diff") (codes "diff") behind (ready (codes "diff") differ_options) refl refl refl

rows_of_some : (name label : Text) (x y : List Row) → ◌≡◌ {A = Option (Text × List Row)} (Some (name, y)) (Some (label, x)) → y ≡ x
rows_of_some name label x y both = ap (λ found. option_map_or (λ p. p.1) found []) both

pub given_is : (a : App) (words taken : List Text) (label : Text) (x y : List Row) → subcommand_of a taken ≡ Some (label, x)
    → words ≡ taken → (name : Text) × (subcommand_of a words ≡ Some (name, y)) → y ≡ x
given_is a words taken label x y e same found =
    rows_of_some found.0 label x y (sym found.1 ∙ ap (subcommand_of a) same ∙ e)

pub word_is : (word name : Text) (words : List Text) (program : Text) (behind : List Text) → true ≡ bytes_eq word name
    → words ≡ program ∷ word ∷ behind → words ≡ program ∷ name ∷ behind
word_is word name words program behind e is = is ∙ ap (λ w. program ∷ w ∷ behind) ((bytes_eq-Decides word name).0 (sym e))

-- the second of some words
pub second : (words : List (String Global)) (word : String Global) → 1 < length words → word ≡ get_or words 1 word
    → (first : Text) × (rest : List Text) × (map text_of words ≡ first ∷ text_of word ∷ rest)
second [] word lt at = absurd (omega arith)
second (x ∷ []) word lt at = absurd (omega arith)
second (x ∷ y ∷ rest) word lt at =
    (text_of x, map text_of rest, ap (λ w. text_of x ∷ text_of w ∷ map text_of rest) (sym at))

pub head_is : (x y : Text) (xs ys : List Text) → x ∷ xs ≡ y ∷ ys → x ≡ y
head_is x y xs ys e = cc

pub tail_is : (x y : Text) (xs ys : List Text) → x ∷ xs ≡ y ∷ ys → xs ≡ ys
tail_is x y xs ys e = cc

-- ---- words that name no command

pub not_of_list : (program word : Text) (behind : List Text) → false ≡ bytes_eq word (codes "show") → false ≡ bytes_eq word (codes "make")
    → false ≡ bytes_eq word (codes "diff") → enters (program ∷ codes "list" ∷ word ∷ behind) ≡ false
not_of_list program word behind show make diff = rw (sym show, sym make, sym diff) refl

pub no_command : (program word : Text) (behind : List Text) → false ≡ bytes_eq word (codes "check") → false ≡ bytes_eq word (codes "fix")
    → false ≡ bytes_eq word (codes "gate") → false ≡ bytes_eq word (codes "notice") → false ≡ bytes_eq word (codes "diff")
    → false ≡ bytes_eq word (codes "compare") → false ≡ bytes_eq word (codes "simplify") → false ≡ bytes_eq word (codes "list")
    → enters (program ∷ word ∷ behind) ≡ false
no_command program word behind check fix gate notice diff compare simplify list =
    rw (sym check, sym fix, sym gate, sym notice, sym diff, sym compare, sym simplify, sym list) refl

pub no_word : (words : List (String Global)) → length words ≤ 1 → enters (map text_of words) ≡ false
no_word [] lt = refl
no_word (x ∷ []) lt = refl
no_word (x ∷ y ∷ rest) lt = absurd (omega arith)

pub no_word_of_list : (program : Text) (words : List (String Global)) (behind : List Text) → length words ≤ 1
    → map text_of words ≡ codes "list" ∷ behind → enters (program ∷ map text_of words) ≡ false
no_word_of_list program [] behind lt words = refl
no_word_of_list program (x ∷ []) behind lt words =
    ap (λ w. enters (program ∷ w ∷ [])) (head_is (text_of x) (codes "list") [] behind words)
no_word_of_list program (x ∷ y ∷ rest) behind lt words = absurd (omega arith)
