use Rattle.std.proofs.Common.{rules, ◌≡◌, ◌∙◌, ◌&&◌, ℕ, true, sym, ap, drop, get_or, nat_lt, List}
use Rattle.spdx_lexer.specs.Text.{white}
use Rattle.spdx_lexer.proofs.White.{white_seen, white_blank}
use Rattle.spdx_lexer.proofs.run.skip_white.Goals as goal

pub returns-in-len1-up : goal.returns-in-len1-up
returns-in-len1-up c =
    let bytes : List ℕ = c.as_bytes.result.now in
    let none : white bytes ≡ 0 = white_seen bytes c.in-len1-up.len_at_least (sym c.is_seen.ensures ∙ c.if-is_seen.true) in
    sym (ap (λ (n : ℕ). drop n c.args.text.now) (ap white (sym c.as_bytes.ensures.value) ∙ none))

pub returns-in-32 : goal.returns-in-32
returns-in-32 c =
    let bytes : List ℕ = c.as_bytes.result.now in
    let blank : get_or bytes 0 0 ≡ 32 = search rules in
    let seen : (nat_lt 32 (get_or bytes 1 0) && nat_lt (get_or bytes 1 0) 128) ≡ true = search rules in
    let one : white bytes ≡ 1 = white_blank bytes c.in-32.len_at_least blank seen in
    c.range_from.ensures.value ∙ sym (ap (λ (n : ℕ). drop n c.args.text.now) (ap white (sym c.as_bytes.ensures.value) ∙ one))
