use Rattle.std.proofs.Common.{◌≡◌, ◌∙◌, ◌++◌, ◌∷◌, ◌+◌, ◌<◌, [], map, drop, get_or, drop-cons, add-one, length, List, ℕ, ap, sym, arith, append_assoc}
use Rattle.std.specs.Prelude.{filter}
use Rattle.std.proofs.lemmas.List.Elements.{filter-append}
use Rattle.text_places.specs.declared.Span.{Span}
use Rattle.plain_manifests.specs.declared.sites.PlainSite.{PlainSite}
use Rattle.plain_manifests.specs.Places.{text_at}
use Rattle.plain_manifests.specs.Sites.{is_expression, numbers_of, texts_at}
use Rattle.plain_manifests.proofs.Ascending.{so_far}
use Rattle.plain_manifests.proofs.sites.sites_at.Goals as goal

pub loop-number-preserved : goal.loop-number-preserved
loop-number-preserved c =
    let bytes : List ℕ = c.args.declared.now.bytes.now in
    let places : List Span = c.args.declared.now.places.now in
    let n : ℕ = c.loop-number.number in
    let d : Span = record { start = 0; end = 0 } in
    let text : PlainSite → List ℕ = λ s. s.text.items in
    let kept : List (List ℕ) → List (List ℕ) = filter (is_expression c.args.form) in
    let lt : n < length places = omega arith in
    let at : drop n places ≡ get_or places n d ∷ drop (n + 1) places = rw (add-one, drop-cons places n d lt) in
    let first : List (List ℕ) = text_at bytes (get_or places n d) ∷ [] in
    let later : List (List ℕ) = texts_at bytes (drop (n + 1) places) in
    let split : kept (texts_at bytes (drop n places)) ≡ kept first ++ kept later = ap (λ ps. kept (texts_at bytes ps)) at ∙ filter-append (is_expression c.args.form) first later in
    let pushed : map text c.push_site.new.sites.items ≡ map text c.loop-number.sites.items ++ kept first = c.in_ok-push_site.ensures.texts in
    record {
      texts = c.loop-number.invariant.texts
          ∙ ap (λ ts. map text c.loop-number.sites.items ++ ts) split
          ∙ sym (append_assoc (map text c.loop-number.sites.items) (kept first) (kept later))
          ∙ ap (λ ts. ts ++ kept later) (sym pushed);
      each = c.in_ok-push_site.ensures.each c.loop-number.invariant.each;
      ascend = c.in_ok-push_site.ensures.ascend c.loop-number.invariant.ascend;
    }

pub returns-clause-ascend : goal.returns-clause-ascend
returns-clause-ascend c = so_far (numbers_of c.loop-number.sites.items) c.loop-number.number c.loop-number.invariant.ascend
