-- What is said of a text doesn't hang on its spelling.
use Rattle.std.specs.Prelude.{◌≡◌, ℕ, true, false, List}
use Rattle.spdx_requirement.specs.Rows.{Rows}
use Rattle.spdx_lexer.specs.Words.{Word}
use Rattle.spdx_parser.specs.Tree.{Tree}
use Rattle.spdx_canonical.specs.Canonical.{canonical_text}
use Rattle.spdx_canonical.specs.Law.{IsSound}
use Rattle.spdx_policy.specs.Rules.{Rules}
use Rattle.spdx_gate.specs.declared.judgement.Outcome.{Outcome}
use Rattle.spdx_gate.specs.declared.judgement.Outcome.TheVariants as outcome
use Rattle.spdx_gate.specs.Judging.{IsOutcome}

-- the same policy, by which texts are read strictly
abbrev pub strictly : Rules → Rules
strictly p = record p { lax = false }

-- the same decisions on the requirements, and the same verdict
abbrev pub IsJudgedAlike : Outcome → Outcome → Type 0
IsJudgedAlike (outcome.Judged j) (outcome.Judged k) =
    (j.decisions.items ≡ k.decisions.items) × (j.verdict ≡ k.verdict)
IsJudgedAlike (outcome.Judged j) (outcome.Unreadable f) = ⊥
IsJudgedAlike (outcome.Unreadable f) o = ⊥

-- A text that a lax reader accepts, and in whose canonical text each name is listed and
-- undeprecated, is judged as its canonical text is, read strictly.
abbrev pub NoSpellingMatters : Rows → Rules → List ℕ → List ℕ → Outcome → Type 0
NoSpellingMatters c p tables text o =
    p.lax ≡ true → p.list ≡ c → (ws : List Word) (t : Tree) → IsSound c text ws t
    → (canonical : Outcome) → IsOutcome c (strictly p) tables (canonical_text ws) canonical →
    IsJudgedAlike canonical o
