-- What the calls answer.
use Rattle.std.specs.Prelude.{◌≡◌, ℕ, Bool, true, false, List, [], ◌∷◌, ◌++◌, Option, Some, None, Ok, IsUtf8}
use Rattle.std.specs.List.{flat_map}
use Rattle.line_engine.specs.Lines.{lines_of}
use Rattle.line_engine.specs.Output.{output_of, summary_of}
use Rattle.spdx_requirement.specs.Rows.{Rows, LicenseRow, ExceptionRow}
use Rattle.spdx_requirement.specs.Flags.{is_deprecated}
use Rattle.spdx_requirement.specs.Items.{Requirement}
use Rattle.spdx_requirement.specs.Texts.{requirement_text}
use Rattle.spdx_catalogue.specs.LookUps.{listed_caseless, listed_exception_caseless}
use Rattle.spdx_lexer.specs.declared.token.ParseMode.{ParseMode}
use Rattle.spdx_parser.specs.Tree.{leaves}
use Rattle.spdx_canonical.specs.Canonical.{canonical_of}
use Rattle.spdx_canonical.specs.Fix.{IsFix, HasNoFix}
use Rattle.spdx_canonical.specs.Normal.{normal_text}
use Rattle.spdx_evaluation.specs.Truth.{holds}
use Rattle.spdx_minimize.specs.Choice.{choice_of, chosen}
use Rattle.spdx.specs.Meaning.{IsReadFrom}
use Rattle.spdx.specs.Value.{Written}
use Rattle.spdx_lines.specs.declared.lines.LineMode.{LineMode}
use Rattle.spdx_lines.specs.Verdict.{Verdict, IsTheVerdict}
use Rattle.spdx_lines.specs.Lines.{rule_by}
use Rattle.spdx_calls.specs.declared.buffer.Put.{Put}
use Rattle.spdx_calls.specs.declared.texts.Answered.{Answered}
use Rattle.spdx_calls.specs.declared.questions.Listing.{Listing}
use Rattle.spdx_calls.specs.declared.questions.Listing.TheVariants.{Unlisted, Current, Deprecated}
use Rattle.spdx_calls.specs.Buffer.{IsPut}
use Rattle.spdx_calls.specs.Licensees.{AreNamed, accepts}

-- the text is an expression in this mode
abbrev pub Reads : Rows → ParseMode → List ℕ → Type 0
Reads c m text = (e : Written) × IsReadFrom c m text e

-- the canonical text of an expression is put
abbrev pub PutsCanonical : Rows → ParseMode → List ℕ → List ℕ → List ℕ → Put → Type 0
PutsCanonical c m text old new put =
    Reads c m text × ((canonical : List ℕ) × (canonical_of c text ≡ Ok canonical) ×
    IsPut canonical old new put)

-- the fix of the text is put, or it has none and nothing is put
abbrev pub PutsFix : Rows → List ℕ → List ℕ → List ℕ → Option Put → Type 0
PutsFix c text old new (Some put) =
    (mended : List ℕ) × IsFix c text mended × IsPut mended old new put
PutsFix c text old new None = HasNoFix c text × (new ≡ old)

-- the normal text of the tree is put
abbrev pub PutsNormal : Rows → ParseMode → List ℕ → List ℕ → List ℕ → Put → Type 0
PutsNormal c m text old new put =
    (e : Written) × IsReadFrom c m text e × IsPut (normal_text e.tree) old new put

-- the truth of the expression where a requirement is met exactly if some licensee, one on each
-- line, satisfies it
pub record IsTruth (c : Rows) (m : ParseMode) (text licensees : List ℕ)
    (truth : Bool) : Type 0 where
  pub expression : Written
  pub read : IsReadFrom c m text expression
  pub accepted : List Requirement
  pub named : AreNamed c (lines_of licensees) accepted
  pub is : truth ≡ holds (accepts accepted) expression.tree

-- requirements, each with a newline behind it
abbrev pub line_of : Requirement → List ℕ
line_of r = requirement_text r ++ 10 ∷ []

abbrev pub lines_text : List Requirement → List ℕ
lines_text requirements = flat_map line_of requirements

-- the requirements of the tree are put, from left to right
abbrev pub PutsRequirements : Rows → ParseMode → List ℕ → List ℕ → List ℕ → Put → Type 0
PutsRequirements c m text old new put =
    (e : Written) × IsReadFrom c m text e × IsPut (lines_text (leaves e.tree)) old new put

-- the least choice among the licensees is put
pub record PutsChoice (c : Rows) (m : ParseMode) (text licensees old new : List ℕ)
    (put : Put) : Type 0 where
  pub expression : Written
  pub read : IsReadFrom c m text expression
  pub accepted : List Requirement
  pub named : AreNamed c (lines_of licensees) accepted
  pub choice : List Requirement
  pub least : choice_of (expression.tree ∷ []) accepted ≡ chosen choice
  pub is_put : IsPut (lines_text choice) old new put

-- the verdicts of the input's lines are put, each with its choice among the licensees, and they are
-- counted
pub record PutsLines (c : Rows) (mode : LineMode) (licensees input old new : List ℕ)
    (answer : Answered) : Type 0 where
  pub accepted : List Requirement
  pub named : AreNamed c (lines_of licensees) accepted
  pub verdict : List ℕ → Verdict
  pub verdicts : (line : List ℕ) → IsTheVerdict c mode line (verdict line)
  pub is_put : IsPut (output_of (rule_by verdict accepted) input) old new answer.put
  pub counts : answer.summary ≡ summary_of (rule_by verdict accepted) (lines_of input)

-- what is said of a listed name
abbrev pub listing_by : Bool → Listing
listing_by false = Current
listing_by true = Deprecated

abbrev pub listing_among : Option LicenseRow → Option ExceptionRow → Listing
listing_among (Some r) e = listing_by (is_deprecated r.flags)
listing_among None (Some e) = listing_by (is_deprecated e.flags)
listing_among None None = Unlisted

-- what the list says of the licence of a name, in some case, else of the exception
abbrev pub listing_of : Rows → List ℕ → Listing
listing_of c name =
    listing_among (listed_caseless c.licenses name) (listed_exception_caseless c.exceptions name)

-- the name is a text, and this is what the list says of it
pub record IsListing (c : Rows) (name : List ℕ) (listing : Listing) : Type 0 where
  pub is_text : IsUtf8 name
  pub listing_is : listing ≡ listing_of c name
