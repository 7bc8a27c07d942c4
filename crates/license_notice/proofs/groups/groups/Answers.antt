use Rattle.std.proofs.Common.{◌≡◌, ◌-◌, ◌<◌, ◌++◌, [], ◌∷◌, List, length, map, take, drop, arith, sym, subst}
use Rattle.std.proofs.lemmas.List.{take_all, length-drop, length-take-le}
use Rattle.std.proofs.lemmas.Bool.Decides.{nat_tests}
use Rattle.license_notice.specs.declared.packages.Group.{Group}
use Rattle.license_notice.specs.declared.stands.Stand.{Stand}
use Rattle.license_notice.specs.Notices.{line_of, bands_of}
use Rattle.license_notice.specs.Grouping.{grouped}
use Rattle.license_notice.specs.Stands.{row_of}
use Rattle.license_notice.proofs.Bands.{lines, group_pushed, run_some}
use Rattle.license_notice.proofs.groups.groups.Goals as goal

pub loop-rest-preserved : goal.loop-rest-preserved
loop-rest-preserved c =
    let rest = c.loop-rest.rest.now in
    let n = c.run_len-len.result in
    let g : Group = record { requirement = c.first_requirement-requirement.result; packages = c.in_ok-packages.packages } in
    let some : 0 < length rest = grind (arith, nat_tests, c.is_empty.ensures, c.loop-rest-test.true) in
    let shown : map line_of g.packages.items ≡ lines (take n rest) = c.in_ok-packages.ensures in
    let behind : take (length rest - n) (drop n rest) ≡ drop n rest = take_all (length rest - n) (drop n rest) (omega (arith, length-drop n rest)) in
    rw (c.in_ok-push.ensures.items)
    (subst (λ (ss : List Stand). bands_of (c.loop-rest.groups.items ++ g ∷ []) ++ grouped (map row_of ss) ≡ grouped (map row_of c.args.stands.now)) (sym behind)
    (group_pushed c.loop-rest.groups.items g rest n _ c.loop-rest.invariant some c.first_requirement-requirement.ensures c.run_len-len.ensures.value shown))

pub loop-rest-smaller : goal.loop-rest-smaller
loop-rest-smaller c =
    let rest = c.loop-rest.rest.now in
    let some : 0 < length rest = grind (arith, nat_tests, c.is_empty.ensures, c.loop-rest-test.true) in
    let run = run_some rest some c.first_requirement-requirement.result.now c.first_requirement-requirement.ensures in
    omega (arith, run, c.run_len-len.ensures.value, length-take-le {A = Stand}, length-drop {A = Stand})
