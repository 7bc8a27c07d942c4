use Rattle.std.proofs.Common.{◌≡◌, ◌-◌, ◌∙◌, ℕ, List, Bor, map, drop, length, string_bytes, ap, sym, subst, arith}
use Rattle.std.specs.Result.{IfOk}
use Rattle.std.proofs.lemmas.List.{take_rest}
use Rattle.package_sources.specs.Folders.{name_of_ends}
use Rattle.package_sources.proofs.Ends.{ends_of_shown}
use Rattle.package_sources.proofs.formats.folder.name_in.Goals as goal

pub returns : goal.returns
returns c =
    let xs = c.args.segments.now in
    let shown : Bor (List ℕ) → List ℕ = λ x. x.now in
    let from : c.saturating_sub-from.result ≡ length xs - 2 = omega (arith, c.saturating_sub-from.ensures) in
    let rest = ap (λ (ys : List (Bor (List ℕ))). map shown ys) (take_rest xs c.saturating_sub-from.result) in
    let last = ap (λ (n : ℕ). map shown (drop n xs)) from ∙ sym (ends_of_shown xs) in
    subst (λ (e : List (List ℕ)). IfOk c.name_of_ends.result (λ s. string_bytes s ≡ name_of_ends e)) (rest ∙ last) c.name_of_ends.ensures
