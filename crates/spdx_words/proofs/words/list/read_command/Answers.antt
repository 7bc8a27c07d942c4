use Rattle.std.proofs.Common.{◌∙◌, ap, ◌∷◌, codes}
use Rattle.clap.specs.Values.{kind_of}
use Rattle.spdx_words.specs.Lines as lines
use Rattle.spdx_words.proofs.Answering.{of_memory}
use Rattle.spdx_words.proofs.Saying.{not_of_list, word_is}
use Rattle.spdx_words.proofs.words.list.read_command.Goals as goal

pub returns-in_err-list_alone : goal.returns-in_err-list_alone
returns-in_err-list_alone c program behind words = of_memory _ c.from_residual.result c.from_residual.ensures.1

pub returns-then-eq : goal.returns-then-eq
returns-then-eq c program behind words =
    c.read_show.ensures program behind (word_is c.args.word.now (codes "show") _ (codes "list") behind c.if-eq.ensures words)

pub returns-then-eq-2 : goal.returns-then-eq-2
returns-then-eq-2 c program behind words =
    c.read_make.ensures program behind (word_is c.args.word.now (codes "make") _ (codes "list") behind c.if-eq-2.ensures words)

pub returns-then-eq-3 : goal.returns-then-eq-3
returns-then-eq-3 c program behind words =
    c.read_differ.ensures program behind (word_is c.args.word.now (codes "diff") _ (codes "list") behind c.if-eq-3.ensures words)

pub returns-in_ok-list_alone : goal.returns-in_ok-list_alone
returns-in_ok-list_alone c program behind words =
    lines.unknown _ (kind_of c.refusal.result) (ap (λ ws. lines.enters (program ∷ ws)) words
    ∙ not_of_list program c.args.word.now behind c.if-eq.ensures c.if-eq-2.ensures c.if-eq-3.ensures)
