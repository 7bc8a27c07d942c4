use Rattle.std.proofs.Common.{◌∙◌, ap, sym, ◌∷◌}
use Rattle.clap.specs.Values.{kind_of}
use Rattle.clap.specs.Walk.{Text}
use Rattle.spdx_words.specs.Lines as lines
use Rattle.spdx_words.proofs.Answering.{of_memory}
use Rattle.spdx_words.proofs.Saying.{no_word, second}
use Rattle.spdx_words.proofs.words.read.Goals as goal

pub returns-in_err-with_all-in-None : goal.returns-in_err-with_all-in-None
returns-in_err-with_all-in-None c = of_memory _ c.from_residual.result c.from_residual.ensures.1

pub returns-in-Some : goal.returns-in-Some
returns-in-Some c =
    let found = second c.args.words.now c.in-Some.word.now c.in-Some.ensures.lookup.3.0 c.in-Some.ensures.lookup.1 in
    c.read_command.ensures found.0 found.1 (found.2 ∙ ap (λ (w : Text). found.0 ∷ w ∷ found.1) (sym c.as_str.ensures.value))

pub returns-in_ok-with_all-in-None : goal.returns-in_ok-with_all-in-None
returns-in_ok-with_all-in-None c =
    lines.unknown _ (kind_of c.refusal.result) (no_word c.args.words.now c.in-None.ensures.lookup.3)
