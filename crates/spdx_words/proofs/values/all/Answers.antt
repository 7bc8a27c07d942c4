use Rattle.std.proofs.Common.{◌≡◌, ◌∙◌, ap, refl, List, [], ◌++◌, Option, Some, None, Bor}
use Rattle.std.specs.Prelude.{option_map, unwrap_or}
use Rattle.clap.specs.Matches.{found_of}
use Rattle.clap.specs.Walk.{Text, texts}
use Rattle.clap.proofs.WalkLemmas.{raw_values-rows}
use Rattle.spdx_words.proofs.values.all.Goals as goal

texts_or_none : (o : Option (Bor (List (Bor Text)))) (none : Bor (List (Bor Text))) → none.now ≡ []
    → texts (unwrap_or o none).now ≡ unwrap_or (option_map (λ s. texts s.now) o) []
texts_or_none None none e = ap texts e
texts_or_none (Some words) none e = refl

pub returns : goal.returns
returns c =
    ap texts c.in_ok-extend_from_slice.ensures.items
    ∙ ap (λ xs. texts (xs ++ c.unwrap_or.result.now)) c.new-all.ensures.items
    ∙ ap (λ (s : Bor (List (Bor Text))). texts s.now) c.unwrap_or.ensures
    ∙ texts_or_none c.get_strs.result _ refl
    ∙ ap (λ o. unwrap_or o []) (c.get_strs.ensures ∙ raw_values-rows (found_of c.args.matches.now) c.args.name.now)
