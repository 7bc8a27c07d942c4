use Rattle.spdx_meaning.proofs.Telling.{is_read}
use Rattle.spdx_meaning.proofs.text.text_laws.meaning_text_is_read.Goals as goal

pub returns : goal.returns
returns c = λ rows t text s x. is_read rows t text s x
