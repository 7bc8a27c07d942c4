use Rattle.std.proofs.Common.{arith, length, ◌≡◌, ◌∙◌, ap, subst, sym, ◌∷◌, map}
use Rattle.clap.specs.Values.{kind_of}
use Rattle.spdx_words.specs.Lines as lines
use Rattle.spdx_words.specs.Options.{text_of}
use Rattle.spdx_words.proofs.Answering.{of_memory}
use Rattle.spdx_words.proofs.Saying.{no_word, tail_is}
use Rattle.spdx_words.proofs.words.read_list_behind.Goals as goal

pub returns-in-Some : goal.returns-in-Some
returns-in-Some c program behind words =
    let tail = tail_is _ _ _ _ (sym (ap (map text_of) c.in-Some.ensures.cases.0) ∙ words) in
    subst (λ ws. lines.IsAnswer ws c.read_list.result) (ap (λ ws. program ∷ ws) tail ∙ sym words)
    (c.read_list.ensures program behind tail)

pub returns-in_err-list_alone-in-None : goal.returns-in_err-list_alone-in-None
returns-in_err-list_alone-in-None c program behind words = of_memory _ c.from_residual.result c.from_residual.ensures.1

pub returns-in_ok-list_alone-in-None : goal.returns-in_ok-list_alone-in-None
returns-in_ok-list_alone-in-None c program behind words =
    let none : length c.args.words.now ≡ 0 = c.in-None.ensures.cases in
    lines.unknown _ (kind_of c.refusal.result) (no_word c.args.words.now (omega arith))
