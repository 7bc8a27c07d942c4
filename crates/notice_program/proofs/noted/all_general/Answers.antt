use Rattle.std.proofs.Common.{List, map, rules, subst}
use Rattle.std.specs.Prelude.{IsPermutation}
use Rattle.std.proofs.lemmas.Fn.{always_returns_same}
use Rattle.std.proofs.lemmas.List.Sorted.{IsPermutation-map}
use Rattle.owed_texts.specs.Held.{Text}
use Rattle.notice_told.specs.declared.lacks.GeneralText.{GeneralText}
use Rattle.notice_program.specs.Noted.{text_by}
use Rattle.notice_program.proofs.noted.all_general.Goals as goal

pub returns : goal.returns
returns c = record {
  same = subst (λ (z : List Text). IsPermutation z (map text_by c.sort_by_key.new.self.items)) c.in_ok-general.ensures (IsPermutation-map text_by _ _ c.in_ok-sort_by_key.ensures.permutation);
  ascend = c.in_ok-sort_by_key.ensures.sorted (λ (g : GeneralText). g.name) (always_returns_same _ _ _ (λ a r q k. search rules));
}
