use Rattle.std.proofs.Common.{arith, ◌≡◌, ◌<◌, ◌+◌, length, map, List, [], ◌∷◌, ◌++◌, sym, ap, ◌∙◌}
use Rattle.std.proofs.lemmas.List.{map-append, take_rest}
use Rattle.package_changes.specs.declared.package.Package.{Package}
use Rattle.package_changes.specs.Rows.{Row, row_of}
use Rattle.package_changes.specs.Pairing.{Paired, is_like, pair_all}
use Rattle.package_changes.specs.Steps.{before, paired_of}
use Rattle.package_changes.proofs.Walking.{rest, less_step, greater_step, no_old_left, no_new_left}
use Rattle.package_changes.proofs.changes.pairing.pair_in_order.Goals as goal

pub loop-in_old-preserved-in-Less : goal.loop-in_old-preserved-in-Less
loop-in_old-preserved-in-Less c =
    let l = c.args.likeness in
    let olds = c.args.old.now in
    let news = c.args.new.now in
    let found = paired_of c.loop-in_old.found in
    let low : c.loop-in_old.in_old < length olds = omega (arith, c.loop-in_old-test.true) in
    let lower : c.loop-in_old.in_new < length news = omega (arith, c.if-in_new-new.true) in
    let pushed = ap (λ (ps : List Package). map row_of ps) c.in_ok-push-in-Less.ensures.items ∙ map-append row_of c.loop-in_old.found.old.items (_ ∷ []) in
    let made : List Row → Paired Row = λ ps. record { pairs = found.pairs; old = ps; new = found.new } in (
      omega (arith, low),
      c.loop-in_old.invariant.1,
      ap (λ p. before p (pair_all (is_like l) (rest olds (c.loop-in_old.in_old + 1)) (rest news c.loop-in_old.in_new))) (ap made pushed)
          ∙ less_step l found olds news c.loop-in_old.in_old c.loop-in_old.in_new _ _ low lower (sym c.front.ensures ∙ c.in-Less.is) c.requires.new
          ∙ c.loop-in_old.invariant.2,
    )

pub loop-in_old-preserved-in-Greater : goal.loop-in_old-preserved-in-Greater
loop-in_old-preserved-in-Greater c =
    let l = c.args.likeness in
    let olds = c.args.old.now in
    let news = c.args.new.now in
    let found = paired_of c.loop-in_old.found in
    let low : c.loop-in_old.in_old < length olds = omega (arith, c.loop-in_old-test.true) in
    let lower : c.loop-in_old.in_new < length news = omega (arith, c.if-in_new-new.true) in
    let pushed = ap (λ (ps : List Package). map row_of ps) c.in_ok-push-in-Greater.ensures.items ∙ map-append row_of c.loop-in_old.found.new.items (_ ∷ []) in
    let made : List Row → Paired Row = λ ps. record { pairs = found.pairs; old = found.old; new = ps } in (
      c.loop-in_old.invariant.0,
      omega (arith, lower),
      ap (λ p. before p (pair_all (is_like l) (rest olds c.loop-in_old.in_old) (rest news (c.loop-in_old.in_new + 1)))) (ap made pushed)
          ∙ greater_step l found olds news c.loop-in_old.in_old c.loop-in_old.in_new _ _ low lower (sym c.front.ensures ∙ c.in-Greater.is) c.requires.old
          ∙ c.loop-in_old.invariant.2,
    )

pub returns : goal.returns
returns c =
    let l = c.args.likeness in
    let olds = c.args.old.now in
    let news = c.args.new.now in
    let i = c.loop-in_old.in_old in
    let j = c.loop-in_old.in_new in
    let found = paired_of c.loop-in_old.found in
    let first : map row_of c.extend_from_slice.new.self.items ≡ found.old ++ rest olds i =
    ap (λ (ps : List Package). map row_of ps) (c.in_ok-extend_from_slice.ensures.items ∙ ap (λ (ps : List Package). c.loop-in_old.found.old.items ++ ps) (take_rest olds i)) ∙ map-append row_of c.loop-in_old.found.old.items _ in
    let second : map row_of c.extend_from_slice-2.new.self.items ≡ found.new ++ rest news j =
    ap (λ (ps : List Package). map row_of ps) (c.in_ok-extend_from_slice-2.ensures.items ∙ ap (λ (ps : List Package). c.loop-in_old.found.new.items ++ ps) (take_rest news j)) ∙ map-append row_of c.loop-in_old.found.new.items _ in
    let made : List Row → List Row → Paired Row = λ ps qs. record { pairs = found.pairs; old = ps; new = qs } in
    ap (λ ps. made ps (map row_of c.extend_from_slice-2.new.self.items)) first
    ∙ ap (made (found.old ++ rest olds i)) second
    ∙ elim c.loop-in_old-test.branch [ goal.then-loop-in_old-test+else-in_new-new w ↦ no_new_left l found olds news i j (omega (arith, w.if-in_new-new)) | goal.else-loop-in_old-test w ↦ no_old_left l found olds news i j (omega (arith, w.loop-in_old-test)) ]
    ∙ c.loop-in_old.invariant.2
