use Rattle.std.proofs.Common.{◌≡◌, ℕ, ◌^◌, ◌<◌, true, List, Result, Ok, sym, ap, ◌∙◌, drop}
use Rattle.std.specs.Cmp.Lexicographic.{bytes_decides}
use Rattle.std.specs.Str.Parse.{ParsesUnsigned}
use Rattle.std.proofs.lemmas.Fmt.{parse-decimal}
use Rattle.text_places.specs.Marks.{mark_text}
use Rattle.text_places.proofs.marks.number_of.Goals as goal
use Rattle.text_places.proofs.marks.number_of.Goals.{then-eq, else-eq}

-- behind the first byte of a mark its number is read
reads : {E : Type 0} (number n : ℕ) (text digits : List ℕ) (r : Result ℕ E) → number < 2 ^ 64 → text ≡ mark_text number
    → n ≡ 1 → digits ≡ drop n text → ParsesUnsigned 64 10 digits r → r ≡ Ok number
reads number n text digits r small same one behind parses =
    parse-decimal 64 number digits r small small (behind ∙ ap (λ k. drop k text) one ∙ ap (drop 1) same) parses

pub returns-in_default-parse-clause-none : goal.returns-in_default-parse-clause-none
returns-in_default-parse-clause-none c = λ number small same.
    let stripped = c.in-Some.ensures.cases in
    let read : c.parse.result ≡ Ok number = reads number _ _ _ c.parse.result small same stripped.1.0 stripped.2 c.parse.ensures.value.0 in
    absurd (cc)

pub returns-clause-none : goal.returns-clause-none
returns-clause-none c =
    elim c.if-eq.branch [
      | then-eq w ↦ rw w.result-is tt
      | else-eq w ↦ rw w.result-is (λ number small same.
          let stripped = c.in-Some.ensures.cases in
          let read : c.parse.result ≡ Ok number = reads number _ _ _ c.parse.result small same stripped.1.0 stripped.2 c.parse.ensures.value.0 in
          let number_is : c.in-Ok.number ≡ number = cc in
          let written : c.as_str.result.now ≡ c.args.text.now = c.as_str.ensures.value ∙ c.in_ok-mark.ensures.ok ∙ ap mark_text number_is ∙ sym same in
          let equal : c.eq.result ≡ true = c.eq.ensures ∙ (bytes_decides _ _).1 written in
          absurd (cc w.if-eq.false))
    ]
