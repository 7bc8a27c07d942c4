use Rattle.std.proofs.Common.{◌∙◌, ap}
use Rattle.clap.specs.Values.{kind_of}
use Rattle.spdx_words.specs.Lines as lines
use Rattle.spdx_words.proofs.Answering.{of_memory}
use Rattle.spdx_words.proofs.Saying.{no_command}
use Rattle.spdx_words.proofs.words.read_command.Goals as goal

pub returns-in_err-with_all : goal.returns-in_err-with_all
returns-in_err-with_all c program behind words = of_memory _ c.from_residual.result c.from_residual.ensures.1

pub returns-in_ok-with_all : goal.returns-in_ok-with_all
returns-in_ok-with_all c program behind words =
    lines.unknown _ (kind_of c.refusal.result) (ap lines.enters words
    ∙ no_command program c.args.word.now behind c.if-eq.ensures c.if-eq-2.ensures c.if-eq-3.ensures c.if-eq-4.ensures c.if-eq-5.ensures
    c.if-eq-6.ensures c.if-eq-7.ensures c.if-eq-8.ensures)
