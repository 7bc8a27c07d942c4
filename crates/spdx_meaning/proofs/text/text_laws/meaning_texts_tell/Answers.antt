use Rattle.spdx_meaning.proofs.Telling.{tells}
use Rattle.spdx_meaning.proofs.text.text_laws.meaning_texts_tell.Goals as goal

pub returns : goal.returns
returns c = λ rows t u a b s r x y. tells rows t u a b s r x y
