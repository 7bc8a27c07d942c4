-- A text is judged as its normal text is.
use Rattle.std.proofs.Common.{◌≡◌, ◌⊎◌, inl, inr, ℕ, Bool, false, cond, List, map, sym, ◌∙◌, ap, subst, IsTrue}
use Rattle.spdx_requirement.specs.Rows.{Rows}
use Rattle.spdx_catalogue.specs.RowRules.{is_well_formed}
use Rattle.spdx_lexer.specs.declared.token.ParseMode.{ParseMode}
use Rattle.spdx_lexer.specs.Words.{words}
use Rattle.spdx_lexer.specs.Modes.{strict, lax}
use Rattle.spdx_lexer.specs.Reading.{said}
use Rattle.spdx_parser.specs.Tree.{Tree, postfix, leaves, node_of}
use Rattle.spdx_canonical.specs.Normal.{normal_text}
use Rattle.spdx_canonical.specs.NormalLaw.{IsStrict, ReadsAs}
use Rattle.spdx_canonical.proofs.NormalLaws.{reads}
use Rattle.spdx_policy.specs.declared.decision.Decision.{Decision}
use Rattle.spdx_policy.specs.Decisions.{decision_of}
use Rattle.spdx_policy.specs.Rules.{Rules}
use Rattle.spdx_why.specs.Least.{choice_of}
use Rattle.spdx_why.specs.Missing.{missing_of}
use Rattle.spdx_gate.specs.declared.judged.Judged.{Judged}
use Rattle.spdx_gate.specs.declared.judgement.Outcome.{Outcome}
use Rattle.spdx_gate.specs.declared.judgement.Outcome.TheVariants as outcome
use Rattle.spdx_gate.specs.Judging.{mode_of, verdict_of, accepted_in, none_in, IsDecided, IsOutcome}
use Rattle.spdx_gate.specs.Reports.{Means}
use Rattle.spdx_gate.specs.Spelling.{strictly}
use Rattle.spdx_gate.specs.Alike.{SaysAlike, BothSayAlike}
use Rattle.spdx_gate.specs.Normal.{NormalTextAgrees}
use Rattle.spdx_gate.proofs.Spelling.{map_same, decision_strictly, verdict_strictly, said_words, tree_once, not_unread}
use Rattle.spdx_gate.proofs.Once.{means_once, means_some}

-- what is said of one tree by the same decisions
pub alike : (p q : Rules) (tables others : List ℕ) (t u : Tree) (j k : Judged) → map node_of j.nodes.items ≡ postfix t → map node_of k.nodes.items ≡ postfix u → t ≡ u
    → IsDecided p tables t j → IsDecided q others u k → j.decisions.items ≡ k.decisions.items → verdict_of p tables t ≡ verdict_of q others u → SaysAlike j k
alike p q tables others t u j k nodes more same h i decided verdict = record {
  nodes_are = nodes ∙ ap postfix same ∙ sym more;
  decisions_are = decided;
  missing_are = h.missing_are ∙ ap (λ (z : Tree). missing_of z (accepted_in j.decisions.items)) same ∙ ap (λ (ds : List Decision). missing_of u (accepted_in ds)) decided ∙ sym i.missing_are;
  choice_is =
      h.choice_is
      ∙ ap (λ (z : Tree). choice_of z (none_in j.decisions.items) (accepted_in j.decisions.items)) same
      ∙ ap (λ (ds : List Decision). choice_of u (none_in ds) (accepted_in ds)) decided
      ∙ sym i.choice_is;
  verdict_is = h.verdict_is ∙ verdict ∙ sym i.verdict_is;
}

module _ (c : Rows) (well : IsTrue (is_well_formed c)) (p : Rules) (tables text : List ℕ) (t : Tree) where
  -- where the policy has texts read strictly, its trees are strict
  is_strict : Means c (mode_of p) text t → (p.lax ≡ false) ⊎ IsStrict c t → IsStrict c t
  is_strict means (inr h) = h
  is_strict means (inl reads_so) =
      let mode : mode_of p ≡ strict = ap (λ (b : Bool). cond b lax strict) reads_so in
      let h : Means c strict text t = subst (λ (m : ParseMode). Means c m text t) mode means in
      record { well_formed = well; text = text; words = words h.0; read = ap (map said) h.1 ∙ said_words h.0; means = h.2.derived }

  normal_agrees : (o : Outcome) → IsOutcome c p tables text o → Means c (mode_of p) text t → ReadsAs c (normal_text t) t → (normal : Outcome) → IsOutcome c (strictly p) tables (normal_text t) normal → BothSayAlike normal o
  normal_agrees (outcome.Unreadable f) h means reads_so normal k = absurd (means_some c (mode_of p) text t means h.no_tree)
  normal_agrees (outcome.Judged j) h means reads_so (outcome.Unreadable f) k =
      absurd (not_unread c strict (normal_text t) reads_so.words t reads_so.read reads_so.meant.derived k.no_tree)
  normal_agrees (outcome.Judged j) h means reads_so (outcome.Judged n) k =
      let other : t ≡ k.parsed.tree = tree_once c strict (normal_text t) reads_so.words t n.nodes.items k.parsed reads_so.read reads_so.meant.derived in
      let same : k.parsed.tree ≡ h.parsed.tree = sym other ∙ means_once c (mode_of p) text t h.parsed.tree means (h.parsed.read, h.parsed.reads, h.parsed.meant) in
      alike (strictly p) p tables tables k.parsed.tree h.parsed.tree n j k.parsed.nodes_are h.parsed.nodes_are same k.decided h.decided
      (
      k.decided.decisions_are
      ∙ map_same (decision_of (strictly p) tables) (decision_of p tables) (leaves k.parsed.tree) (decision_strictly p tables)
      ∙ ap (λ (z : Tree). map (decision_of p tables) (leaves z)) same
      ∙ sym h.decided.decisions_are
      )
      (verdict_strictly p tables k.parsed.tree ∙ ap (verdict_of p tables) same)

pub normal_text_agrees : (c : Rows) → IsTrue (is_well_formed c) → (p : Rules) (tables text : List ℕ) (o : Outcome) → IsOutcome c p tables text o → NormalTextAgrees c p tables text o
normal_text_agrees c well p tables text o h t means reads_so normal k =
    normal_agrees c well p tables text t o h means (reads c t (is_strict c well p tables text t means reads_so)) normal k
