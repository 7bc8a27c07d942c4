use Rattle.std.proofs.Common.{◌≡◌, List, [], ◌∷◌, map, refl, ap, ◌∙◌, append_assoc}
use Rattle.package_changes.specs.declared.package.Package.{Package}
use Rattle.package_changes.specs.declared.package.Change.{Change}
use Rattle.package_changes.specs.declared.changes.pairing.Pair.{Pair}
use Rattle.package_changes.specs.Rows.{row_of, change_row, went, came}
use Rattle.package_changes.specs.Pairing.{stayed_of}
use Rattle.package_changes.specs.Steps.{pair_of}
use Rattle.package_changes.proofs.changes.told.Goals as goal

twice : {X Y Z : Type 0} (f : X → Y) (g : Y → Z) (xs : List X) → map (λ x. g (f x)) xs ≡ map g (map f xs)
twice f g [] = refl
twice f g (x ∷ xs) = ap (λ (zs : List _). g (f x) ∷ zs) (twice f g xs)

pub returns : goal.returns
returns c =
    let p = c.args.pairing.now in
    let start : map change_row c.new-found.result.items ≡ [] = ap (λ (cs : List Change). map change_row cs) c.new-found.ensures.items in
    let pairs : map (λ (q : Pair). stayed_of (pair_of q)) c.as_slice.result.now ≡ map stayed_of (map pair_of p.pairs.items) = ap (λ (qs : List Pair). map (λ (q : Pair). stayed_of (pair_of q)) qs) c.as_slice.ensures.value ∙ twice pair_of stayed_of p.pairs.items in
    let olds : map (λ (q : Package). went (row_of q)) c.as_slice-2.result.now ≡ map went (map row_of p.old.items) = ap (λ (qs : List Package). map (λ (q : Package). went (row_of q)) qs) c.as_slice-2.ensures.value ∙ twice row_of went p.old.items in
    let news : map (λ (q : Package). came (row_of q)) c.as_slice-3.result.now ≡ map came (map row_of p.new.items) = ap (λ (qs : List Package). map (λ (q : Package). came (row_of q)) qs) c.as_slice-3.ensures.value ∙ twice row_of came p.new.items in
    rw (c.in_ok-put_new.ensures, c.in_ok-put_old.ensures, c.in_ok-put_pairs.ensures, start, pairs, olds, news)
    (append_assoc (map stayed_of (map pair_of p.pairs.items)) (map went (map row_of p.old.items)) (map came (map row_of p.new.items)))
