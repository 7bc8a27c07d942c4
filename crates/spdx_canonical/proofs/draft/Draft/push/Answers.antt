use Rattle.std.proofs.Common.{◌≡◌, ◌-◌, ◌++◌, List, ℕ, Option, String, Global, length, option_map, string_bytes, ap, sym, subst, ◌∙◌, is_ok}
use Rattle.spdx_canonical.specs.Draft.{Drafted, extended, IsOff}
use Rattle.spdx_canonical.specs.DraftModel.{bytes_of}
use Rattle.spdx_canonical.proofs.Drafts.{Off, either_off, still_off, now_off, goes_on, unbegun, err_any}
use Rattle.spdx_canonical.proofs.draft.Draft.push.Goals as goal

pub invariant_of-self : goal.invariant_of-self
invariant_of-self c =
    let text = c.self.inside.text.now in
    let written = string_bytes c.in-Some.written in
    let was = c.self.invariant.2 written (ap (option_map string_bytes) c.in-Some.is) in (
      c.self.invariant.0,
      c.self.invariant.1,
      λ x e.
          let same : string_bytes c.push_str.new.self ≡ x = cc in
          subst (Off text) (sym c.push_str.ensures.bytes ∙ same) (either_off (is_ok c.push_str.result) text written c.args.piece.now was),
    )

pub invariant_of-self-in_ok-joined-in-None-2 : goal.invariant_of-self-in_ok-joined-in-None-2
invariant_of-self-in_ok-joined-in-None-2 c =
    let text = c.self.inside.text.now in
    let rest = c.self.inside.rest.now in
    let piece = c.args.piece.now in (
      c.self.invariant.0,
      c.self.invariant.1,
      λ x e.
          let same : string_bytes c.in_ok-joined-in-None.field-0 ≡ x = cc in
          subst (Off text) (sym (c.in_ok-joined-in-None.ensures ∙ ap (λ (f : List ℕ). f ++ piece) c.front-front.ensures) ∙ same) (now_off text rest piece (length text - length rest) c.self.invariant.1 (unbegun rest piece c.in-None.ensures.cases)),
    )

pub returns-in-Some-strip_prefix-clause-ok : goal.returns-in-Some-strip_prefix-clause-ok
returns-in-Some-strip_prefix-clause-ok c =
    let text = c.self.inside.text.now in
    let rest = c.self.inside.rest.now in
    let new = c.in-Some-strip_prefix.rest.now in
    let piece = c.args.piece.now in
    let cut = c.in-Some-strip_prefix.ensures.cases in
    let follows : rest ≡ piece ++ new = cut.1.1 ∙ ap (λ (x : List ℕ). piece ++ x) (sym cut.2) in
    let none = c.in_default.is in
    ap (λ (o : Option (String Global)). let d : Drafted = record { text = text; bytes = bytes_of text new (option_map string_bytes o) } in d) none
    ∙ ap (λ (bytes : List ℕ). let d : Drafted = record { text = text; bytes = bytes } in d) (goes_on text rest new piece c.self.invariant.0 c.self.invariant.1 follows)
    ∙ ap (λ (o : Option (String Global)). let d : Drafted = record { text = text; bytes = bytes_of text rest (option_map string_bytes o) ++ piece } in d) (sym none)
    ∙ ap (λ (d : Drafted). extended d piece) c.self.view_is

pub returns-in-Some-clause-err : goal.returns-in-Some-clause-err
returns-in-Some-clause-err c =
    let text = c.self.inside.text.now in
    let rest = c.self.inside.rest.now in
    let piece = c.args.piece.now in
    let written = string_bytes c.in-Some.written in
    let was = c.self.invariant.2 written (ap (option_map string_bytes) c.in-Some.is) in
    let off : IsOff (record { text = text; bytes = bytes_of text rest (option_map string_bytes c.self.inside.written) }) piece =
    subst (λ (o : Option (String Global)). IsOff (record { text = text; bytes = bytes_of text rest (option_map string_bytes o) }) piece) (sym c.in-Some.is) (still_off text written piece was) in
    err_any c.push_str.result (subst (λ (d : Drafted). IsOff d piece) c.self.view_is off)

pub returns-in_err-joined-in-None-clause-err : goal.returns-in_err-joined-in-None-clause-err
returns-in_err-joined-in-None-clause-err c =
    let text = c.self.inside.text.now in
    let rest = c.self.inside.rest.now in
    let piece = c.args.piece.now in
    let off : IsOff (record { text = text; bytes = bytes_of text rest (option_map string_bytes c.self.inside.written) }) piece =
    subst (λ (o : Option (String Global)). IsOff (record { text = text; bytes = bytes_of text rest (option_map string_bytes o) }) piece) (sym c.in_default.is) (now_off text rest piece (length text - length rest) c.self.invariant.1 (unbegun rest piece c.in-None.ensures.cases)) in
    err_any c.from_residual.result (subst (λ (d : Drafted). IsOff d piece) c.self.view_is off)
