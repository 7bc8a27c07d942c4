use Rattle.std.proofs.Common.{◌≡◌, ◌∙◌, ap, sym, ◌∷◌, codes}
use Rattle.clap.specs.Values.{kind_of}
use Rattle.clap.specs.Walk.{Text}
use Rattle.spdx_words.specs.Lines as lines
use Rattle.spdx_words.proofs.Answering.{of_memory}
use Rattle.spdx_words.proofs.Saying.{head_is, no_word_of_list, second}
use Rattle.spdx_words.proofs.words.list.read_list.Goals as goal

pub returns-in_err-list_alone-in-None : goal.returns-in_err-list_alone-in-None
returns-in_err-list_alone-in-None c program behind words = of_memory _ c.from_residual.result c.from_residual.ensures.1

pub returns-in-Some : goal.returns-in-Some
returns-in-Some c program behind words =
    let found = second c.args.words.now c.in-Some.word.now c.in-Some.ensures.lookup.3.0 c.in-Some.ensures.lookup.1 in
    let first : found.0 ≡ codes "list" = head_is _ _ _ _ (sym found.2 ∙ words) in
    c.read_command.ensures program found.1 (found.2 ∙ ap (λ (w : Text). found.0 ∷ w ∷ found.1) (sym c.as_str.ensures.value)
    ∙ ap (λ (w : Text). w ∷ c.as_str.result.now ∷ found.1) first)

pub returns-in_ok-list_alone-in-None : goal.returns-in_ok-list_alone-in-None
returns-in_ok-list_alone-in-None c program behind words =
    lines.unknown _ (kind_of c.refusal.result) (no_word_of_list program c.args.words.now behind c.in-None.ensures.lookup.3 words)
