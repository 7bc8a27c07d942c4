use Rattle.std.proofs.Common.{◌≡◌, ◌++◌, map}
use Rattle.std.specs.Prelude.{filter}
use Rattle.text_places.specs.declared.Span.{Span}
use Rattle.text_places.specs.declared.element_texts.Element.{Element}
use Rattle.plain_manifests.specs.Places.{declares, text_at, element_places}
use Rattle.plain_manifests.proofs.places.element_places.Given as goal

abbrev pub invariant-loop-element : goal.invariant-loop-element
invariant-loop-element l =
    let text : Element → Span = λ e. e.text in
    element_places l.form l.name l.bytes
    ≡ l.found.items ++ map text (filter (λ (e : Element). declares l.form (text_at l.bytes e.attributes)) l.element-iterator.rest.items)
