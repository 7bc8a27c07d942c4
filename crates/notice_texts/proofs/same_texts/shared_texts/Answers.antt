use Rattle.std.proofs.Common.{◌≡◌, Vec, Global, Result, Ok, Err, List, map, sym, ap, ◌∙◌, subst}
use Rattle.std.specs.Prelude.{IfOk}
use Rattle.std.specs.declared.alloc.AllocError.{AllocError}
use Rattle.notice_texts.specs.declared.texts.SharedText.{SharedText}
use Rattle.notice_texts.specs.Shared.{own, shared_of, Shared, gathered, EachStands, NothingElse, AreApart}
use Rattle.notice_texts.specs.Entries.{entry, entry_of, firsts, shared_by, Entry}
use Rattle.notice_texts.proofs.Gathering.{is_gathered, each_stands, nothing_else, are_apart}
use Rattle.notice_texts.proofs.Wording.{same_words}
use Rattle.notice_texts.proofs.same_texts.shared_texts.Goals as goal

abbrev texts_of : Vec SharedText Global → List Shared
texts_of v = map shared_of v.items

if_ok : (r : Result (Vec SharedText Global) AllocError) (g : List Shared) (P : List Shared → Type 0) → IfOk r (λ v. texts_of v ≡ g) → P g → IfOk r (λ v. P (texts_of v))
if_ok (Ok v) g P e h = subst P (sym e) h
if_ok (Err x) g P e h = tt

pub returns-clause-exact : goal.returns-clause-exact
returns-clause-exact c =
    let texts = map own c.args.texts.now in
    let entries : map entry_of c.deref.result.now ≡ map entry texts = ap (map entry_of) c.deref.ensures.value ∙ c.in_ok-keyed.ensures in
    let is : map (shared_by (map entry_of c.deref.result.now)) (firsts (map entry_of c.deref.result.now)) ≡ gathered texts = ap (λ (es : List Entry). map (shared_by es) (firsts es)) entries ∙ is_gathered texts in
    subst (λ (g : List Shared). IfOk c.shared.result (λ v. map shared_of v.items ≡ g)) is c.shared.ensures

pub returns-clause-each : goal.returns-clause-each
returns-clause-each c =
    if_ok c.shared.result (gathered (map own c.args.texts.now)) (EachStands (map own c.args.texts.now)) (returns-clause-exact c) (each_stands (map own c.args.texts.now))

pub returns-clause-nothing_else : goal.returns-clause-nothing_else
returns-clause-nothing_else c =
    if_ok c.shared.result (gathered (map own c.args.texts.now)) (NothingElse (map own c.args.texts.now)) (returns-clause-exact c) (nothing_else (map own c.args.texts.now))

pub returns-clause-apart : goal.returns-clause-apart
returns-clause-apart c =
    if_ok c.shared.result (gathered (map own c.args.texts.now)) AreApart (returns-clause-exact c) (are_apart (map own c.args.texts.now))

pub returns-clause-same : goal.returns-clause-same
returns-clause-same c = same_words

pub returns-in_err-keyed-clause-same : goal.returns-in_err-keyed-clause-same
returns-in_err-keyed-clause-same c = same_words
