use Rattle.std.proofs.Common.{◌≡◌, [], map, find, ap, sym, ◌∙◌}
use Rattle.std.specs.Option.{option_map_or}
use Rattle.std.proofs.lemmas.Result.{IfOk-weaker}
use Rattle.spdx_requirement.specs.Rows.{row_of, imprecise_of}
use Rattle.spdx_hints.specs.Borrowed.{nows}
use Rattle.spdx_hints.specs.Rules.{spellings}
use Rattle.spdx_hints.specs.Hints.{given_by, gives, meant_by, rules_asked}
use Rattle.spdx_hints.proofs.ByRule.{meant_is, rows_same, rule_same}
use Rattle.spdx_hints.proofs.hint.given_for.Goals as goal

pub returns-clause-rows : goal.returns-clause-rows
returns-clause-rows c =
    let found = map imprecise_of (nows c.as_slice.result.now) in
    let rows = map row_of c.licenses.result.now in
    let same : found ≡ spellings c.args.catalogue.now.imprecise c.args.phrase.now =
    ap (λ xs. map imprecise_of (nows xs)) c.as_slice.ensures.value ∙ c.in_ok-found.ensures ∙ ap (λ ms. spellings ms c.args.phrase.now) c.imprecise_names.ensures in
    let by = meant_is c.args.catalogue.now c.args.phrase.now found rows (sym c.can_mean.ensures ∙ c.if-not-can_mean.false) same c.licenses.ensures in
    IfOk-weaker c.first_given.result (λ given. map row_of (nows given.rows.items) ≡ option_map_or (given_by found c.args.phrase.now rows) given.rule []) _
    (λ given e. e ∙ rows_same (given_by found c.args.phrase.now rows) (meant_by c.args.catalogue.now c.args.phrase.now) by given.rule) c.first_given.ensures.rows

pub returns-clause-rule : goal.returns-clause-rule
returns-clause-rule c =
    let found = map imprecise_of (nows c.as_slice.result.now) in
    let rows = map row_of c.licenses.result.now in
    let same : found ≡ spellings c.args.catalogue.now.imprecise c.args.phrase.now =
    ap (λ xs. map imprecise_of (nows xs)) c.as_slice.ensures.value ∙ c.in_ok-found.ensures ∙ ap (λ ms. spellings ms c.args.phrase.now) c.imprecise_names.ensures in
    let by = meant_is c.args.catalogue.now c.args.phrase.now found rows (sym c.can_mean.ensures ∙ c.if-not-can_mean.false) same c.licenses.ensures in
    IfOk-weaker c.first_given.result (λ given. given.rule ≡ find (gives found c.args.phrase.now rows) rules_asked) _
    (λ given e. e ∙ rule_same (given_by found c.args.phrase.now rows) (meant_by c.args.catalogue.now c.args.phrase.now) by) c.first_given.ensures.rule
