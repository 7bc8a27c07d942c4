use Rattle.std.proofs.Common.{rules, tests, Bor, List, ℕ, ◌∙◌}
use Rattle.std.proofs.lemmas.Iterator.{YieldsList-from_slice}
use Rattle.std.proofs.lemmas.Iterator.Search.{any_from_yields_List}
use Rattle.notice_texts.specs.Names.{stands_for}
use Rattle.notice_texts.proofs.Laws.{any_map}
use Rattle.notice_texts.proofs.names.stands_for_one.Goals as goal

pub returns : goal.returns
returns c =
    any_from_yields_List (λ (t : Bor (List ℕ)). stands_for c.args.tag.now t.now) _ _ c.any.result c.any.ensures.ran
    (YieldsList-from_slice c.args.licenses.now cc) (λ x b q k. search (rules, tests))
    ∙ any_map (stands_for c.args.tag.now) (λ (t : Bor (List ℕ)). t.now) c.args.licenses.now
