use Rattle.std.proofs.Common.{◌≡◌, ℕ, ◌+◌, List, Bor, map, string_bytes, ap, ◌∙◌}
use Rattle.std.specs.Prelude.{fold}
use Rattle.spdx_gate.specs.Counts.{count_in, times}
use Rattle.spdx_gate.specs.Needs.{texts_of}
use Rattle.spdx_gate.specs.Texts.{each_once, with_text}
use Rattle.spdx_gate.proofs.Counted.{each_there_once}
use Rattle.spdx_gate.proofs.needs.count_different.Goals as goal

pub returns : goal.returns
returns c = λ q.
    let texts = map string_bytes c.args.texts.now in
    let once : texts_of c.as_slice.result.now ≡ each_once texts = ap texts_of c.as_slice.ensures.value ∙ c.in_ok-add_new.ensures.once
    ∙ ap (λ (ts : List (Bor (List ℕ))). fold with_text (texts_of ts) texts) c.new-once.ensures.items in
    c.in_ok-count_each.ensures q
    ∙ ap (λ (ts : List (List ℕ)). count_in c.args.counts.now q + times ts q) once
    ∙ ap (λ (n : ℕ). count_in c.args.counts.now q + n) (each_there_once texts q)
