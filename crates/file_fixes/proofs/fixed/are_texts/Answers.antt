use Rattle.std.proofs.Common.{◌≡◌, ◌<◌, ◌+◌, ◌∷◌, drop, length, get_or, drop-cons, add-one, List, ℕ, ap, sym, ◌∙◌, arith, rules, true, false}
use Rattle.std.proofs.Math.ListN.{get_or-map, length-map}
use Rattle.std.proofs.lemmas.List.{get_or_default}
use Rattle.std.specs.Prelude.{bytes_eq}
use Rattle.std.specs.Global.{Vec}
use Rattle.std.proofs.lemmas.Slice.Eq.{bytes_eq-Decides}
use Rattle.manifests.specs.declared.site.Site.{Site}
use Rattle.file_fixes.specs.ManifestFixing.{texts_of}
use Rattle.file_fixes.specs.ManifestProgress.{texts_in}
use Rattle.file_fixes.proofs.fixed.are_texts.Goals as goal

pub loop-index-preserved : goal.loop-index-preserved
loop-index-preserved c same =
    let i : ℕ = c.loop-index.index in
    let sites : List Site = c.args.sites.now in
    let texts : List (Vec ℕ) = c.args.texts.now in
    let site : Site = c.index-sites-index.result in
    let text : Vec ℕ = c.index-texts-index.result in
    let lt : i < length sites = omega arith in
    let lw : i < length texts = omega (arith, c.if-sites-texts.false) in
    let ss : drop i sites ≡ get_or sites i site ∷ drop (i + 1) sites = rw (add-one, drop-cons sites i site lt) in
    let ts : drop i texts ≡ get_or texts i text ∷ drop (i + 1) texts = rw (add-one, drop-cons texts i text lw) in
    let same_bytes : bytes_eq site.text.items text.items ≡ true = search rules in
    let head : site.text.items ≡ text.items = (bytes_eq-Decides _ _).0 same_bytes in
    let firsts : drop i sites ≡ site ∷ drop (i + 1) sites = ss ∙ ap (λ (x : Site). x ∷ drop (i + 1) sites) (sym c.index-sites-index.is) in
    let firsts' : drop i texts ≡ text ∷ drop (i + 1) texts = ts ∙ ap (λ (x : Vec ℕ). x ∷ drop (i + 1) texts) (sym c.index-texts-index.is) in
    c.loop-index.invariant (ap texts_of firsts ∙ (ap (λ (x : List ℕ). x ∷ texts_of (drop (i + 1) sites)) head ∙ ap (λ (xs : List (List ℕ)). text.items ∷ xs) same) ∙ sym (ap texts_in firsts'))

pub returns-then-ne-clause-other : goal.returns-then-ne-clause-other
returns-then-ne-clause-other c is same =
    let i : ℕ = c.loop-index.index in
    let sites : List Site = c.args.sites.now in
    let texts : List (Vec ℕ) = c.args.texts.now in
    let site : Site = c.index-sites-index.result in
    let text : Vec ℕ = c.index-texts-index.result in
    let differs : bytes_eq site.text.items text.items ≡ false = search rules in
    let of_site : Site → List ℕ = λ x. x.text.items in
    let of_text : Vec ℕ → List ℕ = λ x. x.items in
    let lt : i < length sites = omega arith in
    let within : i < length (texts_in texts) = omega (arith, length-map texts of_text, c.if-sites-texts.false) in
    let head : site.text.items ≡ text.items =
    ap of_site c.index-sites-index.is ∙ sym (get_or-map of_site sites i site) ∙ ap (λ l. get_or l i site.text.items) same
    ∙ get_or_default (texts_in texts) i site.text.items text.items within ∙ get_or-map of_text texts i text ∙ sym (ap of_text c.index-texts-index.is) in
    let equal : bytes_eq site.text.items text.items ≡ true = (bytes_eq-Decides _ _).1 head in
    grind (arith, sym equal ∙ differs)
