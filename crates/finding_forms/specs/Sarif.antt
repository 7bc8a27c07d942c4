-- Findings as a log of SARIF 2.1.0.
use Rattle.std.specs.Prelude.{◌≡◌, ℕ, ◌^◌, ◌<◌, List, [], ◌∷◌, map, Some, ⊤, codes, decimal}
use Rattle.json.specs.Json.{Json, number, string, array, object, document, no_items, item, Members, no_members, member}
use Rattle.json.specs.Token.{Token}
use Rattle.json.specs.Print.{print}
use Rattle.json.specs.Tree.{json_tokens}
use Rattle.foreign_text.specs.declared.sinks.Sink.TheVariants.{Message, Path}
use Rattle.foreign_text.specs.Written.{text_for}
use Rattle.finding_forms.specs.Rule.{rule_name}
use Rattle.finding_forms.specs.Finding.{Aid, nothing, write, names, note, Told, column_behind, fault_of}
use Rattle.finding_forms.specs.Message.{message_text}
use Rattle.finding_forms.specs.SarifLog.{text_object, artifact, log_of, log_text}

-- a part of a line, from its first column up to the column behind it
abbrev pub region_members : ℕ → ℕ → List ℕ → Members → Members
region_members line column text more =
    member (codes "startLine") (number (decimal line))
    (member (codes "startColumn") (number (decimal column))
    (member (codes "endColumn") (number (decimal (column_behind column text))) more))

-- that part, with its text
abbrev pub region : ℕ → ℕ → List ℕ → Json
region line column text =
    object (region_members line column text
    (member (codes "snippet") (text_object text) no_members))

-- the fault where it is seen, and the whole expression
abbrev pub location : List ℕ → Told → Json
location path t =
    object (member (codes "physicalLocation") (object
    (member (codes "artifactLocation") (artifact path)
    (member (codes "region") (region t.seen.line t.seen.column (fault_of t))
    (member (codes "contextRegion") (region t.line t.column t.expression) no_members)))) no_members)

-- the mended text in the place of the expression
abbrev pub replacement : Told → List ℕ → Json
replacement t mended =
    object
    (member (codes "deletedRegion")
    (object (region_members t.line t.column t.expression no_members))
    (member (codes "insertedContent") (text_object mended) no_members))

abbrev pub fix : List ℕ → Told → List ℕ → Json
fix path t mended =
    object (member (codes "artifactChanges") (array (item (object
    (member (codes "artifactLocation") (artifact path)
    (member (codes "replacements") (array (item (replacement t mended) no_items)) no_members)))
    no_items)) no_members)

abbrev pub fixes_of : List ℕ → Told → Aid → Members
fixes_of path t nothing = no_members
fixes_of path t (write mended) =
    member (codes "fixes") (array (item (fix path t mended) no_items)) no_members
fixes_of path t (names listed rule) = no_members
fixes_of path t (note words) = no_members

abbrev pub fix_members : List ℕ → Told → Members
fix_members path t = fixes_of path t t.aid

-- the reason with hyphens names the rule
abbrev pub result_of : Told → Json
result_of t =
    let path = text_for Path t.file in
    object
    (member (codes "ruleId") (string (rule_name t.reason))
    (member (codes "level") (string (codes "error"))
    (member (codes "message") (text_object (message_text Message t))
    (member (codes "locations") (array (item (location path t) no_items)) (fix_members path t)))))

abbrev pub sarif_result : Told → List ℕ
sarif_result t = print (json_tokens (result_of t))

-- ---- the tokens of parts, as they are written

abbrev pub region_tokens : ℕ → ℕ → List ℕ → List Token
region_tokens line column text =
    Token.key (codes "startLine") ∷ Token.number (decimal line) ∷ Token.key (codes "startColumn") ∷
    Token.number (decimal column) ∷
    Token.key (codes "endColumn") ∷ Token.number (decimal (column_behind column text)) ∷ []

-- ---- the log as a whole

-- the numbers of a finding are those of 64 bits
pub record IsNumbered (t : Told) : Type 0 where
  pub line : t.line < 2 ^ 64
  pub column : t.column < 2 ^ 64
  pub seen_line : t.seen.line < 2 ^ 64
  pub seen_column : t.seen.column < 2 ^ 64

abbrev pub AreNumbered : List Told → Type 0
AreNumbered [] = ⊤
AreNumbered (t ∷ ts) = IsNumbered t × AreNumbered ts

-- what is put for findings, but for the newline, reads back as their log
abbrev pub LogReadsBack : Type 0
LogReadsBack =
    (version : List ℕ) (findings : List Told) → AreNumbered findings →
    document (log_text version (map result_of findings)) ≡ Some
    (log_of version (map result_of findings))
