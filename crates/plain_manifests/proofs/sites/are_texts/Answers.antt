use Rattle.std.proofs.Common.{◌≡◌, ◌<◌, ◌+◌, ◌∷◌, [], map, drop, length, get_or, drop-cons, add-one, List, ℕ, Bor, ap, sym, ◌∙◌, arith, rules, true, false}
use Rattle.std.proofs.Math.ListN.{get_or-map}
use Rattle.std.specs.Prelude.{bytes_eq}
use Rattle.std.proofs.lemmas.Slice.Eq.{bytes_eq-Decides}
use Rattle.plain_manifests.proofs.sites.are_texts.Goals as goal

pub loop-index-preserved : goal.loop-index-preserved
loop-index-preserved c same =
    let shown : Bor (List ℕ) → List ℕ = λ x. x.now in
    let d : Bor (List ℕ) = record { ref_ptr = (0, 0); now = [] } in
    let i : ℕ = c.loop-index.index in
    let lt : i < length c.args.texts.now = omega arith in
    let lw : i < length c.args.wanted.now = omega (arith, c.if-texts-wanted.false) in
    let ts : drop i c.args.texts.now ≡ get_or c.args.texts.now i d ∷ drop (i + 1) c.args.texts.now = rw (add-one, drop-cons c.args.texts.now i d lt) in
    let ws : drop i c.args.wanted.now ≡ get_or c.args.wanted.now i d ∷ drop (i + 1) c.args.wanted.now = rw (add-one, drop-cons c.args.wanted.now i d lw) in
    let same_bytes : bytes_eq (get_or c.args.texts.now i d).now (get_or c.args.wanted.now i d).now ≡ true = search rules in
    let head : (get_or c.args.texts.now i d).now ≡ (get_or c.args.wanted.now i d).now = (bytes_eq-Decides _ _).0 same_bytes in
    c.loop-index.invariant (ap (map shown) ts ∙ (ap (λ x. x ∷ map shown (drop (i + 1) c.args.texts.now)) head ∙ ap (λ xs. (get_or c.args.wanted.now i d).now ∷ xs) same) ∙ sym (ap (map shown) ws))

pub returns-then-ne-clause-other : goal.returns-then-ne-clause-other
returns-then-ne-clause-other c is same =
    let shown : Bor (List ℕ) → List ℕ = λ x. x.now in
    let d : Bor (List ℕ) = record { ref_ptr = (0, 0); now = [] } in
    let i : ℕ = c.loop-index.index in
    let head : (get_or c.args.texts.now i d).now ≡ (get_or c.args.wanted.now i d).now = sym (get_or-map shown c.args.texts.now i d) ∙ ap (λ l. get_or l i []) same ∙ get_or-map shown c.args.wanted.now i d in
    let equal : bytes_eq (get_or c.args.texts.now i d).now (get_or c.args.wanted.now i d).now ≡ true = (bytes_eq-Decides _ _).1 head in
    let differs : bytes_eq (get_or c.args.texts.now i d).now (get_or c.args.wanted.now i d).now ≡ false = search rules in
    grind (arith, sym equal ∙ differs)
