use Rattle.std.proofs.Common.{◌≡◌, ℕ, List, Bor, map, flat_map}
use Rattle.notice_texts.specs.Words.{line_of}
use Rattle.notice_texts.proofs.text_words.lines_of_words.Given as goal

abbrev pub invariant-loop-word : goal.invariant-loop-word
invariant-loop-word l = l.lines.items ≡ flat_map line_of (map (λ (w : Bor (List ℕ)). w.now) l.yielded)
