use Rattle.std.proofs.Common.{◌≡◌, ℕ, ◌+◌, ◌<◌, ◌≤◌, Option, ◌++◌, ◌∷◌, [], List, Bool, Vec, Global, length, min, take, drop, sym, ap, ◌∙◌, subst, append-nil, arith}
use Rattle.std.proofs.lemmas.List.{length-drop, length-take-le}
use Rattle.memchr.specs.Find.{FindsNeedle}
use Rattle.line_engine.specs.Lines.{lines_of}
use Rattle.license_tags.specs.declared.Tag.{Tag}
use Rattle.license_tags.specs.Tags.{tag_text, is_open_behind, line_tags, tags_of, tags_from, AreInOrder}
use Rattle.license_tags.proofs.Occurring.{IsNext, IsFirstAt, next_found, line_absent, line_whole, line_first, line_before, behind_first, place_of-first, tag_text-length}
use Rattle.license_tags.proofs.InOrder.{AreInOrder-push, AreInOrder-more}
use Rattle.license_tags.proofs.Steps.{tags_from-absent, line_tags-absent, line_tags-inside, line_tags-first, line_step}
use Rattle.license_tags.proofs.tags.Goals as goal
use Rattle.license_tags.proofs.tags.Goals.{After-line_len-len, Joined-place-len, then-place-len+then-not-inside+in_ok-push, then-place-len+else-not-inside, else-place-len}

first_here : (c : After-line_len-len) → IsFirstAt tag_text c.loop-next.rest.now c.in-Some.place
first_here c = subst (IsNext tag_text c.loop-next.rest.now) c.in-Some.is c.loop-next.invariant.next

pub loop-next-init : goal.loop-next-init
loop-next-init c = record {
  next = next_found tag_text c.args.bytes.now c.find-next.result (subst (λ (t : List ℕ). FindsNeedle c.args.bytes.now t 0 c.find-next.result) c.finder-finder.ensures c.find-next.ensures);
  done = ap (λ (found : List Tag). found ++ tags_of c.args.comment c.args.bytes.now) (sym c.new-found.ensures.items);
  within = λ some. omega arith;
  number = omega arith;
  order = subst (λ (tags : List Tag). AreInOrder 0 tags (min 0 (length c.args.bytes.now))) (sym c.new-found.ensures.items) (omega arith);
}

pub tag_in-requires-clause-stands : goal.tag_in-requires-clause-stands
tag_in-requires-clause-stands c =
    let rest = c.loop-next.rest.now in
    let whole = line_whole rest c.in-Some.place c.line_len-len.result (first_here (goal.at.tag_in-requires-clause-stands c).After-line_len-len) c.line_len-len.ensures.within c.line_len-len.ensures.newline c.if-place-len.true in
    omega (arith, whole, length-take-le c.line_len-len.result rest c.line_len-len.ensures.within)

pub overflow_sub-next : goal.overflow_sub-next
overflow_sub-next c =
    line_before c.loop-next.rest.now c.in-Some.place c.line_len-len.result (first_here (goal.at.overflow_sub-next c).After-line_len-len) c.line_len-len.ensures.within c.line_len-len.ensures.newline c.if-place-len.false

pub overflow_add-offset-in-Some : goal.overflow_add-offset-in-Some
overflow_add-offset-in-Some c =
    let first = first_here (goal.at.overflow_add-offset-in-Some c).After-line_len-len in
    omega (arith, first.here.fits, tag_text-length, c.loop-next.invariant.within, c.line_len-len.ensures.within)

pub overflow_add-number : goal.overflow_add-number
overflow_add-number c =
    let first = first_here (goal.at.overflow_add-number c).After-line_len-len in
    omega (arith, first.here.fits, tag_text-length, c.loop-next.invariant.within, c.loop-next.invariant.number)

pub loop-next-smaller : goal.loop-next-smaller
loop-next-smaller c =
    let first = first_here (goal.at.loop-next-smaller c).After-line_len-len in
    let len = c.line_len-len.result in
    let rest = c.loop-next.rest.now in
    omega (arith, first.here.fits, tag_text-length, length-drop (len + 1) rest, ap length c.behind-rest.ensures)

-- a search behind this line finds the next tag
found_behind : (c : Joined-place-len) (r : Option ℕ) → FindsNeedle c.behind-rest.result.now c.finder-finder.result 0 r → r ≡ c.if-place-len.next →
    IsNext tag_text c.behind-rest.result.now c.if-place-len.next
found_behind c r h e =
    let xs = c.behind-rest.result.now in
    subst (IsNext tag_text xs) e (next_found tag_text xs r (subst (λ (t : List ℕ). FindsNeedle xs t 0 r) c.finder-finder.ensures h))

-- what is found up to the end of this line, and what is left to find, whatever the line's tags are
module _ (c : Joined-place-len) (first : IsFirstAt tag_text c.loop-next.rest.now c.in-Some.place) where
  abbrev line : List ℕ
  line = take c.line_len-len.result c.loop-next.rest.now

  abbrev later : Bool → List ℕ → List Tag
  later opened ys = tags_from c.args.comment opened (c.loop-next.number + 1) (c.loop-next.offset + (c.line_len-len.result + 1)) (lines_of ys)

  stepped : (tags : List Tag) → line_tags c.args.comment c.is_inside-inside.result c.loop-next.number c.loop-next.offset line ≡ tags →
      c.loop-next.found.items ++ tags ≡ c.if-place-len.found.items →
      tags_of c.args.comment c.args.bytes.now ≡ c.if-place-len.found.items ++ later c.is_open_behind-opened.result c.behind-rest.result.now
  stepped tags here kept =
      let rest = c.loop-next.rest.now in
      let len = c.line_len-len.result in
      let items = c.loop-next.found.items in
      let number = c.loop-next.number in
      let offset = c.loop-next.offset in
      let lines = c.line_len-len.ensures.lines (omega (arith, first.here.fits, tag_text-length)) in
      let inside = c.is_inside-inside.ensures in
      let opened = c.is_open_behind-opened.ensures ∙ ap (λ (b : Bool). is_open_behind b line) inside in
      line_step c.args.comment c.loop-next.opened (tags_of c.args.comment c.args.bytes.now) items number offset rest len c.loop-next.invariant.done lines c.line_len-len.ensures.within tags
      (ap (λ (b : Bool). line_tags c.args.comment b number offset line) (sym inside) ∙ here)
      ∙ ap (λ (b : Bool). (items ++ tags) ++ later b (drop (len + 1) rest)) (sym opened)
      ∙ ap (λ (ys : List ℕ). (items ++ tags) ++ later c.is_open_behind-opened.result ys) (sym c.behind-rest.ensures)
      ∙ ap (λ (ts : List Tag). ts ++ later c.is_open_behind-opened.result c.behind-rest.result.now) kept

pub loop-next-preserved : goal.loop-next-preserved
loop-next-preserved c =
    let first = first_here (goal.at.loop-next-preserved c).After-line_len-len in
    let len = c.line_len-len.result in
    let rest = c.loop-next.rest.now in
    let place = c.in-Some.place in
    let within = c.line_len-len.ensures.within in
    let newline = c.line_len-len.ensures.newline in
    let some : 0 < length rest = omega (arith, first.here.fits, tag_text-length) in
    let number = c.loop-next.number in
    let offset = c.loop-next.offset in
    let items = c.loop-next.found.items in
    let inside = c.is_inside-inside.result in
    let low = min offset (length c.args.bytes.now) in
    let high = min (offset + (len + 1)) (length c.args.bytes.now) in
    let wider = AreInOrder-more 0 items low high c.loop-next.invariant.order (omega arith) in
    let room : 0 < length c.behind-rest.result.now → offset + (len + 1) + length c.behind-rest.result.now ≤ length c.args.bytes.now =
    λ h. omega (arith, length-drop (len + 1) rest, ap length c.behind-rest.ensures, c.loop-next.invariant.within some) in
    let step = stepped c first in
    elim c.if-place-len.branch [
      | then-place-len+then-not-inside+in_ok-push w ↦
          let tagged = place_of-first tag_text (omega (arith, tag_text-length)) (take len rest) place (line_first rest place len first within newline w.if-place-len.true) in
          let placed = ap (λ (v : Vec Tag Global). v.items) w.found-is ∙ w.in_ok-push.ensures.items in
          let here = line_tags-first c.args.comment inside number offset (take len rest) place w.if-not-inside.true tagged in
          record {
            next = found_behind c w.find-next-then-place-len.result w.find-next-then-place-len.ensures (sym w.next-is);
            done = step (w.tag_in.result ∷ []) (here ∙ ap (λ (t : Tag). t ∷ []) (sym w.tag_in.ensures.value)) (sym placed);
            within = room;
            number = omega (arith, c.loop-next.invariant.number);
            order =
                let fits = length-take-le len rest within in
                subst (λ (tags : List Tag). AreInOrder 0 tags high) (sym placed)
                (AreInOrder-push 0 items w.tag_in.result low high c.loop-next.invariant.order
                (omega (arith, w.tag_in.ensures.low)) w.tag_in.ensures.ordered (omega (arith, w.tag_in.ensures.high, fits, c.loop-next.invariant.within some)));
          }
      | then-place-len+else-not-inside w ↦
          let kept = ap (λ (v : Vec Tag Global). v.items) (sym w.found-is) in
          record {
            next = found_behind c w.find-next-then-place-len.result w.find-next-then-place-len.ensures (sym w.next-is);
            done = step [] (line_tags-inside c.args.comment inside number offset (take len rest) w.if-not-inside.false) (append-nil items ∙ kept);
            within = room;
            number = omega (arith, c.loop-next.invariant.number);
            order = subst (λ (tags : List Tag). AreInOrder 0 tags high) kept wider;
          }
      | else-place-len w ↦
          let kept = ap (λ (v : Vec Tag Global). v.items) (sym w.found-is) in
          let absent = line_absent rest place len first within w.if-place-len.false in
          let next = behind_first rest place len first within newline w.if-place-len.false in
          record {
            next = subst (λ (xs : List ℕ). IsNext tag_text xs c.if-place-len.next) (sym c.behind-rest.ensures) (subst (IsNext tag_text (drop (len + 1) rest)) (sym w.next-is) next);
            done = step [] (line_tags-absent c.args.comment inside number offset (take len rest) absent) (append-nil items ∙ kept);
            within = room;
            number = omega (arith, c.loop-next.invariant.number);
            order = subst (λ (tags : List Tag). AreInOrder 0 tags high) kept wider;
          }
    ]

pub returns-clause-value : goal.returns-clause-value
returns-clause-value c =
    let absent = subst (IsNext tag_text c.loop-next.rest.now) c.in_default.is c.loop-next.invariant.next in
    sym (
    c.loop-next.invariant.done
    ∙ ap (λ (tags : List Tag). c.loop-next.found.items ++ tags) (tags_from-absent c.args.comment c.loop-next.opened c.loop-next.number c.loop-next.offset c.loop-next.rest.now absent)
    ∙ append-nil c.loop-next.found.items
    )

pub returns-clause-in_order : goal.returns-clause-in_order
returns-clause-in_order c =
    AreInOrder-more 0 c.loop-next.found.items (min c.loop-next.offset (length c.args.bytes.now)) (length c.args.bytes.now) c.loop-next.invariant.order (omega arith)
