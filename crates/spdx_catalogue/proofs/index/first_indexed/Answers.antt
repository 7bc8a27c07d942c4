use Rattle.std.proofs.Common.{◌+◌, ◌≡◌, ℕ, ◌<◌, List, Some, None, true, length, ◌*◌, ◌%◌, get_or, arith, sym, ◌∙◌, ap}
use Rattle.spdx_catalogue.specs.Index as spec
use Rattle.spdx_catalogue.proofs.Keys.{passed_none, passed_more, none_left, none_behind, found_here, place_is, code_is, key_is, not_some}
use Rattle.spdx_catalogue.proofs.Sorted.{get_is}
use Rattle.spdx_catalogue.proofs.index.first_indexed.Goals as goal
use Rattle.spdx_catalogue.proofs.index.first_indexed.Goals.{else-own-wanted-2-via-else-own-wanted-2, else-own-wanted-2-via-then-own-wanted-2+in-None-1, else-own-wanted-2-via-then-own-wanted-2+in-Some+else-fits}

pub loop-at-init : goal.loop-at-init
loop-at-init g c =
    passed_none (λ r. spec.fits c.args.sought (g.R.Keyed.text_of r)) g.R.Keyed.keyed_of c.args.rows.now c.args.index.now.codes.items c.from-wanted.result c.requires.index
    (λ r bytes fit keyed. c.requires.relevant r bytes fit keyed ∙ sym c.key-key.ensures ∙ sym c.from-wanted.ensures)
    c.least_at-at.result (λ m lt. omega (arith, c.least_at-at.ensures m lt))

pub returns-then-own-wanted : goal.returns-then-own-wanted
returns-then-own-wanted g c =
    let x : ℕ = get_or c.as_slice-codes.result.now c.loop-at.at 0 in
    let seen : x ≡ get_or c.args.index.now.codes.items c.loop-at.at 0 = ap (λ (ys : List ℕ). get_or ys c.loop-at.at 0) c.as_slice-codes.ensures.value in
    sym (none_behind (λ r. spec.fits c.args.sought (g.R.Keyed.text_of r)) g.R.Keyed.keyed_of c.args.rows.now c.args.index.now.codes.items c.from-wanted.result c.requires.index
    (λ r bytes fit keyed. c.requires.relevant r bytes fit keyed ∙ sym c.key-key.ensures ∙ sym c.from-wanted.ensures)
    c.loop-at.at (omega (arith, c.loop-at-test.true, ap (length {A = ℕ}) c.as_slice-codes.ensures.value)) (omega arith) c.loop-at.invariant)

pub returns-in-loop-at : goal.returns-in-loop-at
returns-in-loop-at g c =
    let rows = c.args.rows.now in
    let x : ℕ = get_or c.as_slice-codes.result.now c.loop-at.at 0 in
    let seen : x ≡ get_or c.args.index.now.codes.items c.loop-at.at 0 = ap (λ (ys : List ℕ). get_or ys c.loop-at.at 0) c.as_slice-codes.ensures.value in
    let place : ℕ = x % 4294967296 in
    let row = c.in-Some.row.now in
    let own = c.in-Some.ensures.lookup.3.1 row in
    let in_rows : place < length rows = c.in-Some.ensures.lookup.3.0 in
    let fit : spec.fits c.args.sought (g.R.Keyed.text_of (get_or rows place row)) ≡ true = ap (λ r. spec.fits c.args.sought (g.R.Keyed.text_of r)) (sym own) ∙ sym (ap (spec.fits c.args.sought) c.text.ensures) ∙ sym c.fits.ensures ∙ c.if-fits.true in
    sym (found_here (λ r. spec.fits c.args.sought (g.R.Keyed.text_of r)) g.R.Keyed.keyed_of c.args.rows.now c.args.index.now.codes.items c.from-wanted.result c.requires.index
    (λ r bytes fit keyed. c.requires.relevant r bytes fit keyed ∙ sym c.key-key.ensures ∙ sym c.from-wanted.ensures)
    c.loop-at.at place row (omega (arith, c.loop-at-test.true, ap (length {A = ℕ}) c.as_slice-codes.ensures.value)) in_rows (sym seen ∙ code_is x c.from-wanted.result c.if-own-wanted-2.true) fit c.loop-at.invariant
    ∙ get_is rows place row in_rows ∙ ap Some (sym own))

pub loop-at-preserved : goal.loop-at-preserved
loop-at-preserved g c =
    passed_more (λ r. spec.fits c.args.sought (g.R.Keyed.text_of r)) g.R.Keyed.keyed_of c.args.rows.now c.args.index.now.codes.items c.from-wanted.result c.requires.index
    (λ r bytes fit keyed. c.requires.relevant r bytes fit keyed ∙ sym c.key-key.ensures ∙ sym c.from-wanted.ensures)
    c.loop-at.at c.loop-at.invariant
    (λ k d lt at.
    let x : ℕ = get_or c.as_slice-codes.result.now c.loop-at.at 0 in
    let here : x ≡ c.from-wanted.result * 4294967296 + k = ap (λ (ys : List ℕ). get_or ys c.loop-at.at 0) c.as_slice-codes.ensures.value ∙ at in
    let few : k < 4294967296 = omega (arith, c.requires.index.few) in
    let place : x % 4294967296 ≡ k = place_is x c.from-wanted.result k here few in
    elim c.else-own-wanted-2.branch [
      | else-own-wanted-2-via-else-own-wanted-2 w ↦ absurd (w.if-own-wanted-2.false (key_is x c.from-wanted.result k here few))
      | else-own-wanted-2-via-then-own-wanted-2+in-None-1 w ↦
          (let gone : w.get.result ≡ None = cc in
          absurd (not_some w.get.result gone (w.get.ensures.lookup.2 (omega arith))))
      | else-own-wanted-2-via-then-own-wanted-2+in-Some+else-fits w ↦
          (let own : w.in-Some.row.now ≡ get_or c.args.rows.now k d = w.in-Some.ensures.lookup.3.1 d ∙ ap (λ (i : ℕ). get_or c.args.rows.now i d) place in
          ap (λ r. spec.fits c.args.sought (g.R.Keyed.text_of r)) (sym own) ∙ sym (ap (spec.fits c.args.sought) w.text.ensures) ∙ sym w.fits.ensures ∙ w.if-fits.false)
    ])

pub returns : goal.returns
returns g c =
    sym (none_left (λ r. spec.fits c.args.sought (g.R.Keyed.text_of r)) g.R.Keyed.keyed_of c.args.rows.now c.args.index.now.codes.items c.from-wanted.result c.requires.index
    (λ r bytes fit keyed. c.requires.relevant r bytes fit keyed ∙ sym c.key-key.ensures ∙ sym c.from-wanted.ensures)
    c.loop-at.at (omega (arith, ap (length {A = ℕ}) c.as_slice-codes.ensures.value)) c.loop-at.invariant)
