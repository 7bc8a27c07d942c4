use Rattle.std.proofs.Common.{◌≡◌, ◌∙◌, ℕ, List, [], ◌∷◌, ◌||◌, Bor, bytes_eq, map, refl, ap}
use Rattle.std.specs.List.{list_any}
use Rattle.license_tags.specs.Comments.{is_among}
use Rattle.license_tags.proofs.comment.is_among.Goals as goal

among_now : (words : List (Bor (List ℕ))) (text : List ℕ)
    → list_any (λ (word : Bor (List ℕ)). bytes_eq word.now text) words ≡ is_among (map (λ (word : Bor (List ℕ)). word.now) words) text
among_now [] text = refl
among_now (word ∷ words) text = ap (λ is. bytes_eq word.now text || is) (among_now words text)

pub returns : goal.returns
returns c = c.contains.ensures.value ∙ among_now c.args.words.now c.args.text.now
