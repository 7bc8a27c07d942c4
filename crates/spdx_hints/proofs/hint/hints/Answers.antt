use Rattle.std.proofs.Common.{rules, ◌≡◌, [], map, find, ap, ◌∙◌}
use Rattle.std.specs.Option.{option_map_or}
use Rattle.spdx_requirement.specs.Rows.{row_of}
use Rattle.spdx_hints.specs.Borrowed.{nows}
use Rattle.spdx_hints.specs.Plain.{plain_of}
use Rattle.spdx_hints.specs.Hints.{meant_by, means_by, rules_asked}
use Rattle.spdx_hints.proofs.ByRule.{rule_is, hints_are, are_of_rule}
use Rattle.spdx_hints.proofs.Good.{hints_six, hints_good, len_six}
use Rattle.spdx_hints.proofs.hint.hints.Goals as goal

pub returns-clause-rule : goal.returns-clause-rule
returns-clause-rule c =
    let plain : c.deref.result.now ≡ plain_of c.args.phrase.now = search rules in
    rule_is c.args.catalogue.now c.args.phrase.now c.in_ok-given.given.rule (c.in_ok-given.ensures.rule ∙ ap (λ p. find (means_by c.args.catalogue.now p) rules_asked) plain)

pub returns-clause-names : goal.returns-clause-names
returns-clause-names c =
    let plain : c.deref.result.now ≡ plain_of c.args.phrase.now = search rules in
    let rule = c.in_ok-given.given.rule in
    let same : map row_of (nows c.as_slice.result.now) ≡ option_map_or (meant_by c.args.catalogue.now (plain_of c.args.phrase.now)) rule [] =
    ap (λ xs. map row_of (nows xs)) c.as_slice.ensures.value ∙ c.in_ok-given.ensures.rows ∙ ap (λ p. option_map_or (meant_by c.args.catalogue.now p) rule []) plain in
    c.in_ok-names.ensures ∙ hints_are c.args.catalogue.now c.args.phrase.now (map row_of (nows c.as_slice.result.now)) rule same (returns-clause-rule c)

pub returns-clause-first : goal.returns-clause-first
returns-clause-first c =
    are_of_rule c.args.catalogue.now c.args.phrase.now (nows c.in_ok-names.names.items) c.in_ok-given.given.rule (returns-clause-names c) (returns-clause-rule c)

pub returns-clause-few : goal.returns-clause-few
returns-clause-few c =
    let names = c.in_ok-names.names in
    len_six names.items names.len names.ok.0 (hints_six c.args.catalogue.now c.args.phrase.now (nows names.items) (returns-clause-names c))

pub returns-clause-good : goal.returns-clause-good
returns-clause-good c = hints_good c.args.catalogue.now c.args.phrase.now (nows c.in_ok-names.names.items) (returns-clause-names c)
