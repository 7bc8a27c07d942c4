use Rattle.std.proofs.Common.{◌≡◌, ◌++◌, Option, List, ℕ, ap, sym, subst, ◌∙◌}
use Rattle.std.proofs.lemmas.Result.{IfOk-weaker}
use Rattle.std.specs.Borrow.{Bor}
use Rattle.std.specs.Prelude.{codes}
use Rattle.spdx_lexer.specs.Code.{document_of}
use Rattle.spdx_requirement.specs.Texts.{reference_text}
use Rattle.spdx_canonical.specs.Draft.{Drafted, extended, IsOff}
use Rattle.spdx_canonical.proofs.Pushed.{extended-document, off_document, off_colon}
use Rattle.spdx_canonical.proofs.Drafts.{err_any, err_each, off_same}
use Rattle.spdx_canonical.proofs.text.push_reference.Goals as goal

pub returns-in_ok-push-in-Some-clause-ok : goal.returns-in_ok-push-in-Some-clause-ok
returns-in_ok-push-in-Some-clause-ok c =
    let d = c.args.draft.now in
    let x = c.in-Some.document.now in
    let p = c.args.prefix.now in
    let n = c.args.name.now in
    let before : c.push.new.self ≡ extended (extended d (codes "DocumentRef-" ++ x)) (codes ":") =
    c.in_ok-push-in-Some.ensures.ok ∙ ap (λ (e : Drafted). extended e (codes ":")) c.in_ok-push_both-in-Some.ensures.ok in
    let all = ap (λ (e : Drafted). extended e (p ++ n)) before ∙ extended-document d x p n ∙ ap (λ (o : Option (Bor (List ℕ))). extended d (reference_text p (document_of o) n)) (sym c.in-Some.is) in
    IfOk-weaker c.push_both-in-Some-2.result (λ _. c.push_both-in-Some-2.new.draft ≡ extended c.push.new.self (p ++ n)) (λ _. c.push_both-in-Some-2.new.draft ≡ extended d (reference_text p (document_of c.args.document) n)) (λ x e. e ∙ all) c.push_both-in-Some-2.ensures.ok

pub returns-in_ok-push-in-Some-clause-err : goal.returns-in_ok-push-in-Some-clause-err
returns-in_ok-push-in-Some-clause-err c =
    let d = c.args.draft.now in
    let x = c.in-Some.document.now in
    let p = c.args.prefix.now in
    let n = c.args.name.now in
    let before : c.push.new.self ≡ extended (extended d (codes "DocumentRef-" ++ x)) (codes ":") =
    c.in_ok-push-in-Some.ensures.ok ∙ ap (λ (e : Drafted). extended e (codes ":")) c.in_ok-push_both-in-Some.ensures.ok in
    let all = ap (λ (e : Drafted). extended e (p ++ n)) before ∙ extended-document d x p n ∙ ap (λ (o : Option (Bor (List ℕ))). extended d (reference_text p (document_of o) n)) (sym c.in-Some.is) in
    err_each c.push_both-in-Some-2.result (off_same c.push.new.self d (p ++ n) (reference_text p (document_of c.args.document) n) all) c.push_both-in-Some-2.ensures.err

pub returns-in_err-push_both-in-Some-clause-err : goal.returns-in_err-push_both-in-Some-clause-err
returns-in_err-push_both-in-Some-clause-err c =
    let d = c.args.draft.now in
    let off = off_document d c.in-Some.document.now c.args.prefix.now c.args.name.now c.in_err-push_both-in-Some.ensures.err in
    err_any c.from_residual.result (subst (λ (o : Option (Bor (List ℕ))). IsOff d (reference_text c.args.prefix.now (document_of o) c.args.name.now)) (sym c.in-Some.is) off)

pub returns-in_err-push-in-Some-clause-err : goal.returns-in_err-push-in-Some-clause-err
returns-in_err-push-in-Some-clause-err c =
    let d = c.args.draft.now in
    let x = c.in-Some.document.now in
    let p = c.args.prefix.now in
    let n = c.args.name.now in
    let off = off_colon d c.push_both-in-Some.new.draft x p n c.in_ok-push_both-in-Some.ensures.ok c.in_err-push-in-Some.ensures.err in
    err_any c.from_residual-in_err-push-in-Some.result (subst (λ (o : Option (Bor (List ℕ))). IsOff d (reference_text p (document_of o) n)) (sym c.in-Some.is) off)
