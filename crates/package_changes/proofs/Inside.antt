-- What stands in a cell ends neither it nor its code span.
use Rattle.std.proofs.Common.{◌≡◌, ◌≢◌, ℕ, Bool, true, false, cond, List, [], ◌∷◌, ◌++◌, flat_map, refl, arith}
use Rattle.std.specs.Prelude.{◌==◌}
use Rattle.std.specs.List.{AllByRecursion}
use Rattle.std.proofs.lemmas.Bool.Decides.{nat_tests}
use Rattle.std.proofs.lemmas.List.Elements.{All-from_recursion}
use Rattle.foreign_text.specs.declared.sinks.Sink.TheVariants.{Line}
use Rattle.foreign_text.specs.Written.{text_for}
use Rattle.package_changes.specs.Texts.{cell_byte, cell_text, IsInside}

abbrev IsPlain : ℕ → Type 0
IsPlain b = (b ≢ 96) × (b ≢ 124)

joined : (xs ys : List ℕ) → AllByRecursion IsPlain xs → AllByRecursion IsPlain ys → AllByRecursion IsPlain (xs ++ ys)
joined [] ys g h = h
joined (x ∷ xs) ys g h = (g.0, joined xs ys g.1 h)

number : (d e : ℕ) → IsPlain d → IsPlain e → AllByRecursion IsPlain (92 ∷ 117 ∷ 123 ∷ d ∷ e ∷ 125 ∷ [])
number d e g h = ((omega arith, omega arith), ((omega arith, omega arith), ((omega arith, omega arith), (g, (h, ((omega arith, omega arith), tt))))))

one : (b : ℕ) → AllByRecursion IsPlain (cell_byte b)
one b = cases (b == 96) (b == 124) (λ e. grind (arith, nat_tests, e)) (λ e. grind (arith, nat_tests, e))
  where
    cases : (quote bar : Bool) → (quote ≡ false → b ≢ 96) → (bar ≡ false → b ≢ 124) → AllByRecursion IsPlain (cond quote (92 ∷ 117 ∷ 123 ∷ 54 ∷ 48 ∷ 125 ∷ []) (cond bar (92 ∷ 117 ∷ 123 ∷ 55 ∷ 99 ∷ 125 ∷ []) (b ∷ [])))
    cases true bar g h = number 54 48 (omega arith, omega arith) (omega arith, omega arith)
    cases false true g h = number 55 99 (omega arith, omega arith) (omega arith, omega arith)
    cases false false g h = ((g refl, h refl), tt)

all : (bytes : List ℕ) → AllByRecursion IsPlain (flat_map cell_byte bytes)
all [] = tt
all (b ∷ bs) = joined (cell_byte b) (flat_map cell_byte bs) (one b) (all bs)

pub inside : (text : List ℕ) → IsInside text
inside text = All-from_recursion IsPlain (cell_text text) (all (text_for Line text))
