use Rattle.std.proofs.Common.{◌≡◌, ℕ, ◌<◌, List, Err, length, map, string_bytes, subst, arith, rules}
use Rattle.spdx_policy.proofs.Blamed.{blamed, names_blame}
use Rattle.spdx_policy.proofs.Eaches.{each_more}
use Rattle.spdx_policy.specs.Meant.{IsNamed}
use Rattle.spdx_policy.specs.Named.{named_row}
use Rattle.spdx_policy.specs.Blame.{BlamesName, BlamesNames}
use Rattle.spdx_policy.specs.declared.error.Place.{Place}
use Rattle.spdx_policy.proofs.reading.names_of.Goals as goal

pub loop-index-preserved : goal.loop-index-preserved
loop-index-preserved c =
    let lt : c.loop-index.index < length c.args.texts.now = omega arith in
    each_more (IsNamed c.args.catalogue.now c.args.replacements.now) string_bytes named_row c.args.texts.now c.loop-index.index c.index-texts-index.result c.loop-index.names.items c.push.new.self.items c.in_ok-name_of.field-0
    lt c.index-texts-index.is c.in_ok-push.ensures.items c.loop-index.invariant (subst (λ t. IsNamed c.args.catalogue.now c.args.replacements.now t (named_row c.in_ok-name_of.field-0)) c.as_str.ensures.value c.in_ok-name_of.ensures.ok)

pub returns-in_err-name_of-clause-err : goal.returns-in_err-name_of-clause-err
returns-in_err-name_of-clause-err c =
    let lt : c.loop-index.index < length c.args.texts.now = omega arith in
    let same : c.from_residual.result ≡ Err c.in_err-name_of.field-0.0 = search rules in
    let texts = c.args.texts.now in
    let text = c.index-texts-index.result in
    blamed (BlamesName c.args.catalogue.now c.one-place.result c.as_str.result.now) (BlamesNames c.args.catalogue.now c.args.section c.args.key (map string_bytes texts)) c.from_residual.result c.in_err-name_of.field-0.0 same
    c.in_err-name_of.ensures.err (λ f b.
    names_blame c.args.catalogue.now c.args.replacements.now c.args.section c.args.key texts c.loop-index.index text (map named_row c.loop-index.names.items) lt c.index-texts-index.is c.loop-index.invariant f
    (subst (λ (q : Place). BlamesName c.args.catalogue.now q (string_bytes text) f) c.one-place.ensures (subst (λ (t : List ℕ). BlamesName c.args.catalogue.now c.one-place.result t f) c.as_str.ensures.value b)))
