-- What a policy allows of a text, from what it decided.
use Rattle.std.proofs.Common.{◌≡◌, ℕ, Bool, false, List, [], ◌∷◌, length, map, replicate, refl, sym, ◌∙◌, ap}
use Rattle.std.proofs.lemmas.List.{length-map}
use Rattle.spdx_requirement.specs.Rows.{Rows}
use Rattle.spdx_requirement.specs.Items.{Requirement}
use Rattle.spdx_parser.specs.declared.node.ExprNode.{ExprNode}
use Rattle.spdx_parser.specs.Tree.{Tree, leaves, postfix, node_of}
use Rattle.spdx_parser.specs.Meaning.{IsParsed}
use Rattle.spdx_lexer.specs.declared.token.ParseMode.{ParseMode}
use Rattle.spdx_evaluation.specs.Postfix.{IsPostfix, tree_in, tree_of}
use Rattle.spdx_evaluation.specs.PostfixLaws.{tree_of_postfix}
use Rattle.spdx_policy.specs.Decisions.{decision_of}
use Rattle.spdx_policy.specs.Rules.{Rules}
use Rattle.spdx_why.specs.Least.{choice_of, advised}
use Rattle.spdx_gate.specs.declared.judged.Judged.{Judged}
use Rattle.spdx_policy.specs.declared.decision.Decision.{Decision}
use Rattle.spdx_why.specs.declared.marks.Mark.{Mark}
use Rattle.spdx_why.specs.Marks.{allows}
use Rattle.spdx_gate.specs.Allowing.{mark_of}
use Rattle.spdx_gate.specs.Judging.{allowed_in, accepted_in, none_in, IsJudged}
use Rattle.package_choices.specs.Choice.{Offered, own_choice}
use Rattle.package_choices.specs.Texts.{offered, judged_offer, IsAllowedOf}

each_allowed : (p : Rules) (tables : List ℕ) (rs : List Requirement) → accepted_in (map (decision_of p tables) rs) ≡ map (allowed_in p tables) rs
each_allowed p tables [] = refl
each_allowed p tables (r ∷ rs) = ap (λ (z : List Bool). allowed_in p tables r ∷ z) (each_allowed p tables rs)

nothing : (p : Rules) (tables : List ℕ) (rs : List Requirement) → none_in (map (decision_of p tables) rs) ≡ replicate (length (map (allowed_in p tables) rs)) false
nothing p tables [] = refl
nothing p tables (r ∷ rs) = ap (λ (z : List Bool). false ∷ z) (nothing p tables rs)

abbrev pub the : Tree → List Bool → Offered
the t allowed = record { tree = t; allowed = allowed }

module _ (c : Rows) (p : Rules) (tables text : List ℕ) (j : Judged) (h : IsJudged c p tables text j) where
  -- its nodes and what is accepted are its offer
  pub offer_there : (nodes : List ExprNode) (allowed : List Bool) → nodes ≡ j.nodes.items → allowed ≡ accepted_in j.decisions.items
      → record { tree = tree_in nodes; allowed = allowed } ≡ offered p tables h.parsed.tree
  offer_there nodes allowed e f =
      ap (λ (z : List ExprNode). the (tree_in z) allowed) e
      ∙ ap (the (tree_in j.nodes.items)) (f ∙ ap accepted_in h.decided.decisions_are ∙ each_allowed p tables (leaves h.parsed.tree))
      ∙ ap (λ (t : Tree). the t (map (allowed_in p tables) (leaves h.parsed.tree))) h.tree_is

  -- and the choice is its own
  pub choice_there : advised j.choice ≡ own_choice (offered p tables h.parsed.tree)
  choice_there =
      let t = h.parsed.tree in
      let ds = h.decided.decisions_are in
      h.decided.choice_is
      ∙ ap (choice_of t (none_in j.decisions.items)) (ap accepted_in ds ∙ each_allowed p tables (leaves t))
      ∙ ap (λ (z : List Bool). choice_of t z (map (allowed_in p tables) (leaves t))) (ap none_in ds ∙ nothing p tables (leaves t))

-- of each decision it is known whether it allows
pub each_judged : (ds : List Decision) → length (accepted_in ds) ≡ length ds
each_judged ds = length-map (map mark_of ds) allows ∙ length-map ds mark_of

pub allowed_of_judged : (j : Judged) (o : Offered) → o ≡ judged_offer j → IsAllowedOf j o
allowed_of_judged j o e c p tables text h = record {
  tree = h.parsed.tree;
  means = (h.parsed.read, h.parsed.reads, h.parsed.meant);
  offer_is = e ∙ offer_there c p tables text j h j.nodes.items (accepted_in j.decisions.items) refl refl;
  own_is = choice_there c p tables text j h;
}
