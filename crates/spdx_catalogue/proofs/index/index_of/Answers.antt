use Rattle.std.proofs.Common.{rules, ◌≡◌, ℕ, ◌+◌, ◌++◌, ◌∷◌, [], List, Some, length, arith, sym, ◌∙◌, ap, subst}
use Rattle.std.specs.Option.{option_copied}
use Rattle.std.proofs.lemmas.List.Sorted.{IsNonDecreasingBy-from_sort}
use Rattle.spdx_catalogue.specs.Index.{code, key_of}
use Rattle.spdx_catalogue.proofs.Keys.{AreCodes, codes_more, indexed}
use Rattle.spdx_catalogue.proofs.index.index_of.Goals as goal

pub loop-place-preserved : goal.loop-place-preserved
loop-place-preserved g c =
    let bytes = c.in_ok-keyed.field-0.now in
    let own : c.code.result ≡ code (key_of bytes) c.loop-place.place = c.code.ensures ∙ ap (λ (k : ℕ). code k c.loop-place.place) c.key_of.ensures in
    let pushed : c.push.new.self.items ≡ c.loop-place.codes.items ++ c.code.result ∷ [] = search rules in
    let keyed : g.R.Keyed.keyed_of c.index-rows-place.result ≡ Some bytes = sym c.keyed.ensures ∙ ap option_copied c.in_ok-keyed.was in
    subst (λ (xs : List ℕ). AreCodes g.R.Keyed.keyed_of c.args.rows.now xs (c.loop-place.place + 1)) (ap (λ (x : ℕ). c.loop-place.codes.items ++ x ∷ []) (sym own) ∙ sym pushed)
    (codes_more g.R.Keyed.keyed_of c.args.rows.now c.loop-place.codes.items c.loop-place.place c.index-rows-place.result bytes c.loop-place-test.true c.index-rows-place.is keyed c.loop-place.invariant)

pub returns : goal.returns
returns g c =
    let all : c.loop-place.place ≡ length c.args.rows.now = omega arith in
    indexed g.R.Keyed.keyed_of c.args.rows.now c.loop-place.codes.items c.sort_unstable.new.self.items (omega arith)
    (subst (AreCodes g.R.Keyed.keyed_of c.args.rows.now c.loop-place.codes.items) all c.loop-place.invariant) c.sort_unstable.ensures.permutation
    (IsNonDecreasingBy-from_sort (λ (x : ℕ). x) c.sort_unstable.new.self.items c.sort_unstable.ensures.sorted)
