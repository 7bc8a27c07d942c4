use Rattle.std.proofs.Common.{rules, tests, sym, ◌∙◌}
use Rattle.std.specs.Prelude.{◌==◌}
use Rattle.std.proofs.lemmas.Iterator.Splits.{YieldsList-from_slice_split}
use Rattle.std.proofs.lemmas.Iterator.Search.{any_from_yields_List}
use Rattle.notice_texts.specs.Names.{is_nickname_in, stands_for}
use Rattle.notice_texts.specs.declared.words.TheConstants.{NICKNAMES}
use Rattle.notice_texts.proofs.names.stands_for.Goals as goal

pub returns-else-same : goal.returns-else-same
unfolding stands_for
returns-else-same c =
    let found =
    any_from_yields_List (is_nickname_in c.args.tag.now c.args.license.now) _ _ c.any.result c.any.ensures.ran
    (YieldsList-from_slice_split _ (λ b. b == 10) NICKNAMES.now (c.split.ensures.rest ∙ c.as_bytes.ensures.value) c.split.ensures.done c.split.ensures.closure (λ x b q k. search (rules, tests)))
    (λ x b q k. search (rules, tests)) in
    rw (sym c.same.ensures ∙ c.if-same.false) found
