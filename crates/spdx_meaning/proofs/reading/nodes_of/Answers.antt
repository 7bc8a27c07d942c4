use Rattle.std.proofs.Common.{◌≡◌, sym, ◌∙◌, ap, subst}
use Rattle.spdx_parser.specs.Tree.{Tree, postfix}
use Rattle.spdx_evaluation.specs.Postfix.{tree_of, tree_in}
use Rattle.spdx_evaluation.specs.PostfixLaws.{tree_of_postfix}
use Rattle.spdx_meaning.specs.Reading.{Says}
use Rattle.spdx_meaning.proofs.reading.nodes_of.Goals as goal

pub returns-in-Ok-clause-read : goal.returns-in-Ok-clause-read
returns-in-Ok-clause-read c =
    let p = c.in-Ok.ensures.ok in
    let is : p.tree ≡ tree_in c.in-Ok.nodes.items = sym (ap tree_of p.nodes_are ∙ tree_of_postfix p.tree) in
    subst (λ (t : Tree). Says c.args.catalogue.now c.args.mode c.args.text.now t) is (p.read, p.reads, p.meant)

pub returns-in-Ok-clause-tree : goal.returns-in-Ok-clause-tree
returns-in-Ok-clause-tree c =
    let p = c.in-Ok.ensures.ok in
    p.nodes_are ∙ ap postfix (sym (ap tree_of p.nodes_are ∙ tree_of_postfix p.tree))
