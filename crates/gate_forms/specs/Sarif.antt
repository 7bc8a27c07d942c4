-- Refused packages as a log of SARIF 2.1.0.
use Rattle.std.specs.Prelude.{◌≡◌, ℕ, List, [], ◌∷◌, ◌++◌, Bool, if◌then◌else◌, map, Some, codes}
use Rattle.json.specs.Json.{Json, string, array, object, document, no_items, item, Members, no_members, member}
use Rattle.json.specs.Print.{print}
use Rattle.json.specs.Token.{Token}
use Rattle.json.specs.Tree.{json_tokens}
use Rattle.finding_forms.specs.SarifLog.{artifact, text_object, log_of, log_text}
use Rattle.foreign_text.specs.declared.sinks.Sink.TheVariants.{Message, Path}
use Rattle.gate_forms.specs.declared.reports.Baseline.{Baseline}
use Rattle.gate_forms.specs.declared.reports.Baseline.TheVariants.{Absent, New, Known}
use Rattle.gate_forms.specs.declared.reports.Report.{Report}
use Rattle.foreign_text.specs.Written.{text_for}
use Rattle.gate_forms.specs.Json.{verdict_word}
use Rattle.gate_forms.specs.Report.{is_refused, message_text}

-- the file that names the package
abbrev pub location : Report → Json
location r =
    object (member (codes "physicalLocation") (object
    (member (codes "artifactLocation") (artifact (text_for Path r.file.now)) no_members))
    no_members)

-- how much it counts, before the other members; with a baseline, whether it is known
abbrev pub level_members : Baseline → Members → Members
level_members Absent more = member (codes "level") (string (codes "error")) more
level_members New more =
    member (codes "level") (string (codes "error"))
    (member (codes "baselineState") (string (codes "new")) more)
level_members Known more =
    member (codes "level") (string (codes "note"))
    (member (codes "baselineState") (string (codes "unchanged")) more)

abbrev pub result_of : Report → Json
result_of r =
    object
    (member (codes "ruleId") (string (verdict_word r.verdict))
    (level_members r.baseline
    (member (codes "message") (text_object (message_text Message r))
    (member (codes "locations") (array (item (location r) no_items)) no_members))))

abbrev pub sarif_result : Report → List ℕ
sarif_result r = print (json_tokens (result_of r))

-- a report, which may be the first result
abbrev pub sarif_text : Bool → Report → List ℕ
sarif_text is_first r =
    if is_refused r.verdict then (if is_first then [] else 44 ∷ []) ++ sarif_result r else []

-- ---- the tokens of the members, as they are written

abbrev pub text_tokens : List ℕ → List ℕ → List Token
text_tokens key text = Token.key key ∷ Token.string text ∷ []

abbrev pub state_tokens : List ℕ → List ℕ → List Token
state_tokens level state =
    Token.key (codes "level") ∷ Token.string level ∷ Token.key (codes "baselineState") ∷
    Token.string state ∷ []

abbrev pub level_tokens : Baseline → List Token
level_tokens Absent = text_tokens (codes "level") (codes "error")
level_tokens New = state_tokens (codes "error") (codes "new")
level_tokens Known = state_tokens (codes "note") (codes "unchanged")

-- what is put for refused packages, but for the newline, reads back as their log
abbrev pub LogReadsBack : Type 0
LogReadsBack =
    (version : List ℕ) (refused : List Report) →
    document (log_text version (map result_of refused)) ≡ Some
    (log_of version (map result_of refused))
