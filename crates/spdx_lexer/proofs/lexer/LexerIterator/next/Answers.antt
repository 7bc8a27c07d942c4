use Rattle.std.proofs.Common.{◌≡◌, ◌<◌, ◌-◌, length, sym, ◌∙◌, ap, rules, nat_lt, ◌&&◌, true, false}
use Rattle.spdx_lexer.specs.Text.{begins_plus, run_at}
use Rattle.spdx_lexer.proofs.Front.{left_behind}
use Rattle.spdx_lexer.proofs.Table.{lexeme_grouped}
use Rattle.spdx_lexer.specs.Faults.{fault_of}
use Rattle.spdx_lexer.specs.Code.{word_of}
use Rattle.spdx_lexer.proofs.Next.{ends, separated_call, taken_call, refused_call, reading_nil}
use Rattle.spdx_lexer.proofs.lexer.LexerIterator.next.Goals as goal

pub returns-then-is_empty-clause-steps : goal.returns-then-is_empty-clause-steps
returns-then-is_empty-clause-steps c =
    let s = c.args.self.now in
    let none : length c.skip_white-rest.result.now ≡ 0 = search rules in
    (ends s.catalogue.now s.well_formed s.mode (length s.text.now) s.rest.now c.skip_white-rest.result.now c.skip_white-rest.ensures s.within none, reading_nil s.catalogue.now s.mode _)

pub returns-then-is_separated_plus-clause-steps : goal.returns-then-is_separated_plus-clause-steps
returns-then-is_separated_plus-clause-steps c =
    let s = c.args.self.now in
    let T = c.skip_white-rest.result.now in
    let some : 0 < length T = search rules in
    let plus : (nat_lt (length s.text.now - length s.rest.now) (length s.text.now - length T) && begins_plus T) ≡ true = search rules in
    separated_call s.catalogue.now s.well_formed s.mode (length s.text.now) s.rest.now T c.skip_white-rest.ensures s.within _ some plus

pub returns-then-is_separated_plus-clause-goes : goal.returns-then-is_separated_plus-clause-goes
returns-then-is_separated_plus-clause-goes c = let shorter = ap length (returns-then-is_separated_plus-clause-steps c) in search rules

pub returns-in-Ok-clause-steps : goal.returns-in-Ok-clause-steps
returns-in-Ok-clause-steps c =
    let s = c.args.self.now in
    let T = c.skip_white-rest.result.now in
    let some : 0 < length T = search rules in
    let plus : (nat_lt (length s.text.now - length s.rest.now) (length s.text.now - length T) && begins_plus T) ≡ false = search rules in
    taken_call s.catalogue.now s.well_formed s.mode (length s.text.now) s.rest.now T c.skip_white-rest.ensures s.within (word_of c.in-Ok.token) c.in-Ok.len _ some plus (lexeme_grouped s.catalogue.now s.mode T ∙ sym c.in-Ok.ensures.value) c.in-Ok.ensures.cut.0 c.range_from-self.ensures.value

pub returns-in-Ok-clause-goes : goal.returns-in-Ok-clause-goes
returns-in-Ok-clause-goes c = let shorter = ap length (returns-in-Ok-clause-steps c) in search rules

pub returns-in-Err-clause-steps : goal.returns-in-Err-clause-steps
returns-in-Err-clause-steps c =
    let s = c.args.self.now in
    let T = c.skip_white-rest.result.now in
    let some : 0 < length T = search rules in
    let plus : (nat_lt (length s.text.now - length s.rest.now) (length s.text.now - length T) && begins_plus T) ≡ false = search rules in
    refused_call s.catalogue.now s.well_formed s.mode (length s.text.now) s.rest.now T c.skip_white-rest.ensures s.within _ (fault_of c.in-Err.reason) c.in-Err.len some plus (lexeme_grouped s.catalogue.now s.mode T ∙ sym c.in-Err.ensures.value)

pub returns-in-Err-clause-goes : goal.returns-in-Err-clause-goes
returns-in-Err-clause-goes c = let shorter = ap length (returns-in-Err-clause-steps c) in search rules

pub invariant_of-self-in-Ok-clause-run_left : goal.invariant_of-self-in-Ok-clause-run_left
invariant_of-self-in-Ok-clause-run_left c =
    let T = c.skip_white-rest.result.now in
    let left : c.saturating_sub-self.result ≡ length (run_at T) - c.in-Ok.len = search rules in
    rw c.range_from-self.ensures.value (left_behind T c.in-Ok.len c.saturating_sub-self.result left)
