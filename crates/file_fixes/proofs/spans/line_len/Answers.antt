use Rattle.std.proofs.Common.{◌≡◌, ℕ, ◌+◌, ◌∷◌, take, drop, sym, subst}
use Rattle.line_engine.specs.Lines.{lines_of}
use Rattle.license_tags.proofs.FirstLine.{lines_of-found}
use Rattle.file_fixes.proofs.spans.line_len.Goals as goal

pub returns-clause-lines : goal.returns-clause-lines
returns-clause-lines c some =
    let xs = c.args.bytes.now in
    subst (λ (n : ℕ). lines_of xs ≡ take n xs ∷ lines_of (drop (n + 1) xs)) (sym c.unwrap_or.ensures) (lines_of-found xs c.memchr.result c.memchr.ensures some)
