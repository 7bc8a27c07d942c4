-- Which requirements are met, by number.
use Rattle.std.proofs.Common.{◌≡◌, ℕ, zero, suc, ◌<◌, ◌≤◌, Bool, ◌&&◌, List, [], ◌∷◌, length, refl, ap, arith, get_or}
use Rattle.spdx_why.specs.Missing.{answer_in}
use Rattle.package_choices.specs.declared.allowed.question.Question.{Question}
use Rattle.package_choices.specs.Choice.{met, met_in}
use Rattle.package_choices.specs.Questions.{asked_of, longest}

pub length-met : (allowed : List Bool) (numbers : List ℕ) (selection : List Bool) → length numbers ≡ length allowed → length (met allowed numbers selection) ≡ length allowed
length-met [] numbers selection e = refl
length-met (a ∷ rest) [] selection e = absurd (omega arith)
length-met (a ∷ rest) (n ∷ ns) selection e = ap suc (length-met rest ns selection (omega arith))

pub met_at : (allowed : List Bool) (numbers : List ℕ) (selection : List Bool) (k : ℕ) (d : ℕ) → length numbers ≡ length allowed → k < length allowed
    → (answer_in allowed k && answer_in selection (get_or numbers k d)) ≡ answer_in (met allowed numbers selection) k
met_at [] numbers selection k d e h = absurd (omega arith)
met_at (a ∷ rest) [] selection k d e h = absurd (omega arith)
met_at (a ∷ rest) (n ∷ ns) selection zero d e h = refl
met_at (a ∷ rest) (n ∷ ns) selection (suc k) d e h = met_at rest ns selection k d (omega arith) (omega arith)

-- one answer for each requirement
pub each_met : (selection : List Bool) (q : Question) → length (met_in (asked_of q) selection) ≡ length q.allowed.now
each_met selection q = length-met q.allowed.now q.numbers.items selection q.numbered

-- each question fits where the longest does
pub each_fits : (qs : List Question) (i : ℕ) (d : Question) → i < length qs → length (get_or qs i d).nodes.now ≤ longest qs
each_fits [] i d h = absurd (omega arith)
each_fits (q ∷ qs) zero d h = omega arith
each_fits (q ∷ qs) (suc i) d h = omega (arith, each_fits qs i d (omega arith))
