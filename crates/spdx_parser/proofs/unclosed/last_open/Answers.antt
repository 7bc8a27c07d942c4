use Rattle.std.proofs.Common.{◌≡◌, ◌≤◌, List, Some, Ok, Err, [], ◌∷◌, ◌++◌, refl, sym, ◌∙◌, ap, subst, arith, length}
use Rattle.std.proofs.lemmas.List.{length-map}
use Rattle.spdx_lexer.specs.declared.token.Token.{Token}
use Rattle.spdx_lexer.specs.Code.{word_of, span_of, item_of}
use Rattle.spdx_lexer.specs.Faults.{fault_of}
use Rattle.spdx_lexer.specs.Remainder.{items_left}
use Rattle.spdx_lexer.specs.Words.{Word, OpenParen, CloseParen, Span, Item, Placed}
use Rattle.spdx_parser.specs.Faults.{IsLastOpen}
use Rattle.spdx_parser.proofs.Loop.{same_words}
use Rattle.spdx_parser.proofs.Seen.{depth}
use Rattle.spdx_parser.proofs.Shown.{move_places}
use Rattle.spdx_parser.proofs.LastOpen.{nothing_seen, opens_at, opens_more, one_to_close, closes_one, reads_on, room, no_fault, found}
use Rattle.spdx_parser.proofs.unclosed.last_open.Goals as goal

-- what was read, as the item that it is
read_item : (w : Word) (at : Span) (items more : List Item) (v : Word) → items ≡ Ok (v, at) ∷ more → v ≡ w → items ≡ Ok (w, at) ∷ more
read_item w at items more v is same = is ∙ ap (λ (x : Word). let i : Item = Ok (x, at) in i ∷ more) same

-- any other word opens and closes none
others : (t : Token) → (t ≡ Token.OpenParen → ⊥) → (t ≡ Token.CloseParen → ⊥) → (depth 0 (word_of t ∷ []) ≡ Some 0) × ((at : Span) (places : List Span) → move_places (word_of t) at places ≡ places)
others Token.OpenParen n m = absurd (n refl)
others Token.CloseParen n m = absurd (m refl)
others _ n m = (refl, λ at places. refl)

pub loop-item-init : goal.loop-item-init
loop-item-init c =
    let (read, reads, leaves) = c.requires.left in
    let lent : items_left c.into_iter-item-iterator.result.now ≡ items_left c.by_ref-item-items.result.now = ap (λ x. items_left x.now) c.into_iter-item-iterator.ensures.into_iter_gives in
    let items : items_left c.into_iter-item-iterator.result.now ≡ items_left c.new_mode-lexer.result = lent ∙ ap items_left c.by_ref-item-items.ensures.value in
    (read, reads, leaves, [], nothing_seen read _ _ _ c.requires.some (items ∙ c.new_mode-lexer.ensures.items ∙ reads))

pub loop-item-preserved-in_default : goal.loop-item-preserved-in_default
loop-item-preserved-in_default c =
    let (read, reads, leaves, seen, r) = c.loop-item.invariant in
    let left = items_left c.next.new.self.now in
    let next : items_left c.loop-item.item-iterator.now ≡ Err (fault_of c.in_default.field-0.reason, span_of c.in_default.field-0.span) ∷ left = c.in-Some.ensures.steps ∙ ap (λ i. item_of i ∷ left) c.in_default.is in
    absurd (no_fault read _ seen _ _ _ r _ left next)

pub overflow_add-depth : goal.overflow_add-depth
overflow_add-depth c =
    let (read, reads, leaves, seen, r) = c.loop-item.invariant in
    let left = items_left c.next.new.self.now in
    let next : items_left c.loop-item.item-iterator.now ≡ Ok (word_of c.in-Ok.found.token, span_of c.in-Ok.found.span) ∷ left = c.in-Some.ensures.steps ∙ ap (λ i. item_of i ∷ left) c.in-Ok.is in
    let all : length (items_left c.new_mode-lexer.result) ≡ length read = ap length (c.new_mode-lexer.ensures.items ∙ reads) ∙ length-map read (λ (q : Placed). let i : Item = Ok q in i) in
    let few : length read ≤ length c.args.text.now = subst (λ n. n ≤ length c.args.text.now) all c.new_mode-lexer.ensures.bound in
    let fits = room read _ seen _ _ _ r _ left (length c.args.text.now) next few in
    omega arith

pub loop-item-preserved-then-depth-count : goal.loop-item-preserved-then-depth-count
loop-item-preserved-then-depth-count c =
    let (read, reads, leaves, seen, r) = c.loop-item.invariant in
    let left = items_left c.next.new.self.now in
    let at = span_of c.in-Ok.found.span in
    let next : items_left c.loop-item.item-iterator.now ≡ Ok (word_of c.in-Ok.found.token, at) ∷ left = c.in-Some.ensures.steps ∙ ap (λ i. item_of i ∷ left) c.in-Ok.is in
    (read, reads, leaves, seen ++ (OpenParen, at) ∷ [], opens_at read _ seen _ _ _ r at left (read_item OpenParen at _ left _ next (ap word_of c.in-OpenParen.is)) c.if-depth-count.true)

pub loop-item-preserved-else-depth-count : goal.loop-item-preserved-else-depth-count
loop-item-preserved-else-depth-count c =
    let (read, reads, leaves, seen, r) = c.loop-item.invariant in
    let left = items_left c.next.new.self.now in
    let at = span_of c.in-Ok.found.span in
    let next : items_left c.loop-item.item-iterator.now ≡ Ok (word_of c.in-Ok.found.token, at) ∷ left = c.in-Some.ensures.steps ∙ ap (λ i. item_of i ∷ left) c.in-Ok.is in
    (read, reads, leaves, seen ++ (OpenParen, at) ∷ [], opens_more read _ seen _ _ _ r at left (read_item OpenParen at _ left _ next (ap word_of c.in-OpenParen.is)) c.if-depth-count.false)

pub overflow_sub-depth : goal.overflow_sub-depth
overflow_sub-depth c =
    let (read, reads, leaves, seen, r) = c.loop-item.invariant in
    let left = items_left c.next.new.self.now in
    let at = span_of c.in-Ok.found.span in
    let next : items_left c.loop-item.item-iterator.now ≡ Ok (word_of c.in-Ok.found.token, at) ∷ left = c.in-Some.ensures.steps ∙ ap (λ i. item_of i ∷ left) c.in-Ok.is in
    let some = one_to_close read _ seen _ _ _ r at left (read_item CloseParen at _ left _ next (ap word_of c.in-CloseParen.is)) leaves in
    omega arith

pub loop-item-preserved-in-CloseParen : goal.loop-item-preserved-in-CloseParen
loop-item-preserved-in-CloseParen c =
    let (read, reads, leaves, seen, r) = c.loop-item.invariant in
    let left = items_left c.next.new.self.now in
    let at = span_of c.in-Ok.found.span in
    let next : items_left c.loop-item.item-iterator.now ≡ Ok (word_of c.in-Ok.found.token, at) ∷ left = c.in-Some.ensures.steps ∙ ap (λ i. item_of i ∷ left) c.in-Ok.is in
    let is = read_item CloseParen at _ left _ next (ap word_of c.in-CloseParen.is) in
    let some = one_to_close read _ seen _ _ _ r at left is leaves in
    (read, reads, leaves, seen ++ (CloseParen, at) ∷ [], closes_one read _ seen _ _ _ r at left _ is (omega arith))

pub loop-item-preserved : goal.loop-item-preserved
loop-item-preserved c =
    let (read, reads, leaves, seen, r) = c.loop-item.invariant in
    let left = items_left c.next.new.self.now in
    let at = span_of c.in-Ok.found.span in
    let w = word_of c.in-Ok.found.token in
    let next : items_left c.loop-item.item-iterator.now ≡ Ok (w, at) ∷ left = c.in-Some.ensures.steps ∙ ap (λ i. item_of i ∷ left) c.in-Ok.is in
    let (even, still) = others c.in-Ok.found.token c.in_default-token.not-OpenParen c.in_default-token.not-CloseParen in
    (read, reads, leaves, seen ++ (w, at) ∷ [], reads_on read _ seen _ _ _ r w at left next even (still at r.places))

pub returns : goal.returns
returns c read reads =
    let (all, is, leaves, seen, r) = c.loop-item.invariant in
    subst (λ xs. IsLastOpen xs (span_of c.loop-item.place)) (same_words all read (sym is ∙ reads)) (found all _ seen _ _ _ r c.in-None.ensures.steps.0 c.requires.some leaves)
