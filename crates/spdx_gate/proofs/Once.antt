-- A text means one tree, and has one verdict.
use Rattle.std.proofs.Common.{◌≡◌, ℕ, List, sym, ◌∙◌, ap, subst}
use Rattle.spdx_requirement.specs.Rows.{Rows}
use Rattle.spdx_lexer.specs.declared.token.ParseMode.{ParseMode}
use Rattle.spdx_lexer.specs.Words.{Placed, words}
use Rattle.spdx_parser.specs.Tree.{Tree}
use Rattle.spdx_parser.specs.Faults.{HasNoTree}
use Rattle.spdx_parser.specs.Grammar.{Derives}
use Rattle.spdx_parser.proofs.Loop.{same_words}
use Rattle.spdx_policy.specs.Rules.{Rules}
use Rattle.spdx_gate.specs.declared.judgement.Outcome.{Outcome}
use Rattle.spdx_gate.specs.declared.judgement.Outcome.TheVariants as outcome
use Rattle.spdx_gate.specs.Judging.{mode_of, verdict_of, IsOutcome}
use Rattle.spdx_gate.specs.Reports.{Means, outcome_verdict}

pub means_once : (c : Rows) (m : ParseMode) (text : List ℕ) (t u : Tree) → Means c m text t → Means c m text u → t ≡ u
means_once c m text t u h k =
    let same : h.0 ≡ k.0 = same_words h.0 k.0 (sym h.1 ∙ k.1) in
    k.2.only t (subst (λ (read : List Placed). Derives c m (words read) t) same h.2.derived)

pub means_some : (c : Rows) (m : ParseMode) (text : List ℕ) (t : Tree) → Means c m text t → HasNoTree c m text → ⊥
means_some c m text t h none = none h.0 t h.1 h.2.derived

-- the verdict of what comes out of a text is that of its tree
pub verdict_means : (c : Rows) (p : Rules) (tables text : List ℕ) (o : Outcome) (t : Tree) → IsOutcome c p tables text o → Means c (mode_of p) text t → outcome_verdict o ≡ verdict_of p tables t
verdict_means c p tables text (outcome.Judged j) t h means =
    h.decided.verdict_is ∙ ap (verdict_of p tables) (means_once c (mode_of p) text h.parsed.tree t (h.parsed.read, h.parsed.reads, h.parsed.meant) means)
verdict_means c p tables text (outcome.Unreadable f) t h means = absurd (means_some c (mode_of p) text t means h.no_tree)
