-- The meaning texts of strict trees over one catalogue.
use Rattle.std.proofs.Common.{◌≡◌, ◌↔◌, ℕ, List, sym, ◌∙◌, ap, subst}
use Rattle.std.specs.List.{AllByRecursion}
use Rattle.spdx_requirement.specs.Rows.{Rows}
use Rattle.spdx_requirement.specs.Items.{Requirement}
use Rattle.spdx_parser.specs.Tree.{Tree, Leaf, Join, leaves}
use Rattle.spdx_parser.specs.Meaning.{IsOfRows}
use Rattle.spdx_evaluation.specs.Truth.{holds}
use Rattle.spdx_canonical.specs.Normal.{normal_text}
use Rattle.spdx_canonical.specs.NormalLaw.{EachLeaf, IsStrict, ReadsAs, HasFewestParens}
use Rattle.spdx_canonical.proofs.Leaves.{IsGood}
use Rattle.spdx_canonical.proofs.NormalLaws as Normal
use Rattle.spdx_meaning.specs.Meaning.{IsEquivalent}
use Rattle.spdx_meaning.specs.Sets.{In}
use Rattle.spdx_meaning.specs.LeastSets.{AreLeastSets, any_of}
use Rattle.spdx_meaning.specs.Joined.{sets_text}
use Rattle.spdx_meaning.specs.MeaningText.{IsMeaningText}
use Rattle.spdx_meaning.proofs.LeastText.{all_fits}
use Rattle.spdx_meaning.proofs.Tree.{some_sets, all_filled, means_the_same, least_of_its_own}
use Rattle.spdx_meaning.proofs.Read.{each_leaf, leaf_of, text_of_sets}
use Rattle.spdx_meaning.proofs.One.{IsRequirementOf, the_same}

rows_of : (c : Rows) (t : Tree) → IsOfRows c t → EachLeaf (IsRequirementOf c) t
rows_of c (Leaf r) h = h
rows_of c (Join o l r) h = (rows_of c l h.0, rows_of c r h.1)

module _ (c : Rows) where
  leaf_good : (t : Tree) → IsStrict c t → (r : Requirement) → In (leaves t) r → IsGood c r
  leaf_good t s r k = leaf_of (IsGood c) t (Normal.good c t s) r k

  leaf_row : (t : Tree) → IsStrict c t → (r : Requirement) → In (leaves t) r → IsRequirementOf c r
  leaf_row t s r k = leaf_of (IsRequirementOf c) t (rows_of c t (Normal.strict_rows c t s)) r k

  module _ (t : Tree) (s : IsStrict c t) (sets : List (List Requirement)) (least : AreLeastSets t sets) where
    tree_good : EachLeaf (IsGood c) (any_of sets)
    tree_good =
        each_leaf (IsGood c) sets (some_sets t sets least) (all_filled t sets least)
        (all_fits (AllByRecursion (In (leaves t))) (AllByRecursion (IsGood c)) (λ m h. all_fits (In (leaves t)) (IsGood c) (leaf_good t s) m h) sets least.of_tree)

    tree_reads : ReadsAs c (normal_text (any_of sets)) (any_of sets)
    tree_reads = Normal.good_reads c s.well_formed (any_of sets) tree_good

    pub tree_strict : IsStrict c (any_of sets)
    tree_strict = let r = tree_reads in record { well_formed = s.well_formed; text = normal_text (any_of sets); words = r.words; read = r.read; means = r.meant.derived }

    pub text_is : normal_text (any_of sets) ≡ sets_text sets
    text_is = text_of_sets sets (some_sets t sets least) (all_filled t sets least)

  pub tells : (t u : Tree) (a b : List ℕ) → IsStrict c t → IsStrict c u → IsMeaningText t a → IsMeaningText u b → (a ≡ b) ↔ IsEquivalent t u
  tells t u a b s r x y =
      let forth : a ≡ b → IsEquivalent t u = λ e h ok.
      let texts : normal_text (any_of x.sets) ≡ normal_text (any_of y.sets) = text_is t s x.sets x.least ∙ sym x.written ∙ e ∙ y.written ∙ sym (text_is u r y.sets y.least) in
      let trees : any_of x.sets ≡ any_of y.sets = (Normal.tells c (any_of x.sets) (any_of y.sets) (tree_strict t s x.sets x.least) (tree_strict u r y.sets y.least)).0 texts in
      means_the_same t x.sets x.least h ok ∙ ap (holds h) trees ∙ sym (means_the_same u y.sets y.least h ok) in
      (forth, λ same. x.written ∙ ap sets_text (the_same c t u (leaf_row t s) (leaf_row u r) x.sets y.sets x.least y.least same) ∙ sym y.written)

  pub is_read : (t : Tree) (text : List ℕ) → IsStrict c t → (x : IsMeaningText t text) → ReadsAs c text (any_of x.sets) × HasFewestParens c text (any_of x.sets) × IsStrict c (any_of x.sets) × IsEquivalent t (any_of x.sets) × IsMeaningText (any_of x.sets) text
  is_read t text s x = (
    subst (λ (z : List ℕ). ReadsAs c z (any_of x.sets)) (text_is t s x.sets x.least ∙ sym x.written) (tree_reads t s x.sets x.least),
    subst (λ (z : List ℕ). HasFewestParens c z (any_of x.sets)) (text_is t s x.sets x.least ∙ sym x.written) (Normal.fewest c (any_of x.sets) (tree_strict t s x.sets x.least)),
    tree_strict t s x.sets x.least,
    means_the_same t x.sets x.least,
    record { sets = x.sets; least = least_of_its_own t x.sets x.least; written = x.written },
  )
