use Rattle.std.proofs.Common.{◌≡◌, ◌+◌, ◌^◌, ◌<◌, ◌≤◌, List, None, Some, Ok, Err, [], ◌∷◌, ◌++◌, length, map, refl, sym, ◌∙◌, ap, subst, arith}
use Rattle.std.specs.List.{All}
use Rattle.std.specs.Prelude.{◌==◌}
use Rattle.spdx_lexer.specs.Words.{Unexpected, Span, words}
use Rattle.spdx_lexer.specs.Code.{word_of, span_of, item_of}
use Rattle.spdx_lexer.specs.Faults.{fault_of}
use Rattle.spdx_lexer.specs.Layout.{IsPlace, place_of}
use Rattle.spdx_lexer.specs.Remainder.{items_left}
use Rattle.spdx_parser.specs.declared.frames.Frame.{Frame}
use Rattle.spdx_parser.specs.Faults.{fault_behind}
use Rattle.spdx_parser.specs.Code.{IsKnown}
use Rattle.spdx_parser.specs.Last.{Due, is_closing, terms}
use Rattle.spdx_parser.specs.State.{State, start, all_joined, require}
use Rattle.spdx_parser.proofs.Loop.{nothing_read, row_known, has_room, has_depth, takes, stops, lexes_no_more, refused, span_is, ends_empty, ends_short, ends_deep, ends_well, same_words, all_read}
use Rattle.spdx_parser.proofs.Kept.{as_long, as_many, taken, kept_refused}
use Rattle.spdx_parser.proofs.Counted.{is_zero, not_zero}
use Rattle.spdx_parser.proofs.LastOpen.{ends_unclosed, leaves_frames}
use Rattle.spdx_parser.specs.Heard.{listed_last, Along, HearsAll}
use Rattle.spdx_parser.proofs.Heard.{along_more}
use Rattle.spdx_parser.proofs.Seen.{words_on}
use Rattle.spdx_parser.proofs.Shown.{places_of}
use Rattle.spdx_parser.proofs.Places.{node_places}
use Rattle.spdx_parser.proofs.parser.Parser.read_text.Goals as goal

pub loop-item-init : goal.loop-item-init
loop-item-init g c =
    let lent : items_left c.into_iter-item-iterator.result.now ≡ items_left c.by_ref-item-items.result.now = ap (λ x. items_left x.now) c.into_iter-item-iterator.ensures.into_iter_gives in
    let items : items_left c.into_iter-item-iterator.result.now ≡ items_left c.new_mode-lexer.result = lent ∙ ap items_left c.by_ref-item-items.ensures.value in
    ([], start, nothing_read c.args.catalogue.now c.args.mode c.args.text.now _ (sym (items ∙ c.new_mode-lexer.ensures.items)), sym c.requires, refl)

pub returns-in-Err-clause-err : goal.returns-in-Err-clause-err
returns-in-Err-clause-err g c =
    let (read, s, r, shows, _) = c.loop-item.invariant in
    let left = items_left c.next.new.self.now in
    let next : items_left c.loop-item.item-iterator.now ≡ Err (fault_of c.in-Err.error.reason, span_of c.in-Err.error.span) ∷ left = c.in-Some.ensures.steps ∙ ap (λ i. item_of i ∷ left) c.in-Err.is in
    refused c.args.catalogue.now c.args.mode c.args.text.now c.refusal.result _ _ _ c.refusal.ensures
    (lexes_no_more c.args.catalogue.now c.args.mode c.args.text.now read _ _ s r _ _ left next) refl refl refl

pub read-requires-clause-room : goal.read-requires-clause-room
read-requires-clause-room g c =
    let (read, s, r, shows, _) = c.loop-item.invariant in
    let left = items_left c.next.new.self.now in
    let next : items_left c.loop-item.item-iterator.now ≡ Ok (word_of c.in-Ok.found.token, span_of c.in-Ok.found.span) ∷ left = c.in-Some.ensures.steps ∙ ap (λ i. item_of i ∷ left) c.in-Ok.is in
    let few = subst (λ items. length items ≤ length c.args.text.now) c.new_mode-lexer.ensures.items c.new_mode-lexer.ensures.bound in
    subst (λ (k : State). k.frame.ors + k.frame.ands + 1 < 2 ^ 64) shows (has_room c.args.catalogue.now c.args.mode c.args.text.now read _ _ s r _ left next few (omega arith))

pub read-requires-clause-depth : goal.read-requires-clause-depth
read-requires-clause-depth g c =
    let (read, s, r, shows, _) = c.loop-item.invariant in
    let left = items_left c.next.new.self.now in
    let next : items_left c.loop-item.item-iterator.now ≡ Ok (word_of c.in-Ok.found.token, span_of c.in-Ok.found.span) ∷ left = c.in-Some.ensures.steps ∙ ap (λ i. item_of i ∷ left) c.in-Ok.is in
    let few = subst (λ items. length items ≤ length c.args.text.now) c.new_mode-lexer.ensures.items c.new_mode-lexer.ensures.bound in
    subst (λ (k : State). length k.opened + 1 < 2 ^ 64) shows (subst (λ n. n + 1 < 2 ^ 64) (sym (as_long s)) (has_depth c.args.catalogue.now c.args.mode c.args.text.now read _ _ s r _ left next few (omega arith)))

pub read-requires-clause-known : goal.read-requires-clause-known
read-requires-clause-known g c =
    let (read, s, r, shows, _) = c.loop-item.invariant in subst (λ (k : State). IsKnown c.args.catalogue.now k.last) shows (row_known c.args.catalogue.now c.args.mode c.args.text.now read _ _ s r c.is_well_formed.ensures)

pub returns-then-not-branch-clause-err : goal.returns-then-not-branch-clause-err
returns-then-not-branch-clause-err g c =
    let (read, s, r, shows, _) = c.loop-item.invariant in
    let left = items_left c.next.new.self.now in
    let next : items_left c.loop-item.item-iterator.now ≡ Ok (word_of c.in-Ok.found.token, span_of c.in-Ok.found.span) ∷ left = c.in-Some.ensures.steps ∙ ap (λ i. item_of i ∷ left) c.in-Ok.is in
    let t = c.if-not-branch.true in
    let view = c.self.view_is ∙ sym shows in
    let many = as_many s c.loop-item.self c.self.inside.opened shows (ap (λ (k : State). k.opened) c.self.view_is) in
    let last = ap (λ (k : State). fault_behind c.args.mode k.last c.is_empty-none_open.result (word_of c.in-Ok.found.token)) view in
    let none = kept_refused c.args.catalogue.now c.args.mode s c.loop-item.self c.read.new.self (word_of c.in-Ok.found.token) (span_of c.in-Ok.found.span) shows (rw t at c.in_ok-read.ensures) in
    refused c.args.catalogue.now c.args.mode c.args.text.now c.refusal-then-not-branch.result _ _ _ c.refusal-then-not-branch.ensures
    (stops c.args.catalogue.now c.args.mode c.args.text.now read _ _ s r (word_of c.in-Ok.found.token) (span_of c.in-Ok.found.span) left s c.is_empty-none_open.result (fault_of c.reason.result) next none (c.is_empty-none_open.ensures ∙ ap (λ n. n == 0) many) (c.reason.ensures ∙ last)) refl refl refl

pub loop-item-preserved : goal.loop-item-preserved
loop-item-preserved g c =
    let (read, s, r, shows, heard) = c.loop-item.invariant in
    let left = items_left c.next.new.self.now in
    let next : items_left c.loop-item.item-iterator.now ≡ Ok (word_of c.in-Ok.found.token, span_of c.in-Ok.found.span) ∷ left = c.in-Some.ensures.steps ∙ ap (λ i. item_of i ∷ left) c.in-Ok.is in
    let t = c.if-not-branch.false in
    let w = word_of c.in-Ok.found.token in
    let last = ap (λ (k : State). listed_last k.last) (c.self.view_is ∙ sym shows) ∙ ap listed_last r.last_is in
    let told = subst (λ o. g.L.Listener.Hears c.loop-item.listener o (Some w) c.hear.new.self) (c.listed.ensures ∙ last) c.in_ok-hear.ensures in
    let more = along_more g.L.Listener.Hears c.args.listener.now Due (words read) w c.loop-item.listener c.hear.new.self heard told in
    let (k, is, shown) = taken c.args.catalogue.now c.args.mode s c.loop-item.self c.read.new.self w (span_of c.in-Ok.found.span) shows (rw t at c.in_ok-read.ensures) in (
      read ++ (w, span_of c.in-Ok.found.span) ∷ [],
      k,
      takes c.args.catalogue.now c.args.mode c.args.text.now read _ _ s r w (span_of c.in-Ok.found.span) left k next is,
      shown,
      subst (λ ws. Along g.L.Listener.Hears c.args.listener.now Due ws c.hear.new.self) (sym (words_on read ((w, span_of c.in-Ok.found.span) ∷ []))) more,
    )

pub returns-then-is_empty-clause-err : goal.returns-then-is_empty-clause-err
returns-then-is_empty-clause-err g c =
    let (read, s, r, shows, _) = c.loop-item.invariant in
    refused c.args.catalogue.now c.args.mode c.args.text.now c.refusal-then-is_empty.result _ _ _ c.refusal-then-is_empty.ensures
    (ends_empty c.args.catalogue.now c.args.mode c.args.text.now read _ _ s r c.in-None.ensures.steps.0 c.if-is_empty.true) refl (span_is 0 (length c.args.text.now) 0 (length c.args.text.now) refl (omega arith)) refl

pub returns-then-not-is_closing-clause-err : goal.returns-then-not-is_closing-clause-err
returns-then-not-is_closing-clause-err g c =
    let (read, s, r, shows, _) = c.loop-item.invariant in
    let last = ap (λ (k : State). k.last) (c.self-2.view_is ∙ sym shows) in
    refused c.args.catalogue.now c.args.mode c.args.text.now c.refusal-then-not-is_closing.result _ _ _ c.refusal-then-not-is_closing.ensures
    (ends_short c.args.catalogue.now c.args.mode c.args.text.now read _ _ s r c.in-None.ensures.steps.0 c.if-is_empty.false (ap is_closing (sym last) ∙ sym c.is_closing.ensures ∙ c.if-not-is_closing.true)) (ap Unexpected (c.terms.ensures ∙ ap terms last)) (span_is (length c.args.text.now) (length c.args.text.now) (length c.args.text.now) 0 refl (omega arith)) refl

none_left : (opened : List (Span × Frame)) → length opened ≡ 0 → map (λ (o : Span × Frame). o.0) opened ≡ []
none_left [] e = refl
none_left (o ∷ opened) e = absurd (omega arith)

pub count-requires : goal.count-requires
count-requires g c =
    let (read, s, r, shows, _) = c.loop-item.invariant in
    let many = as_many s c.loop-item.self c.self-2.inside.opened shows (ap (λ (k : State). k.opened) c.self-2.view_is) in
    let few = subst (λ items. length items ≤ length c.args.text.now) c.new_mode-lexer.ensures.items c.new_mode-lexer.ensures.bound in
    let fits = ends_deep c.args.catalogue.now c.args.mode c.args.text.now read _ _ s r c.in-None.ensures.steps.0 few (omega arith) in
    omega arith

pub last_open-place-requires-clause-left : goal.last_open-place-requires-clause-left
last_open-place-requires-clause-left g c =
    let (read, s, r, shows, _) = c.loop-item.invariant in
    let many = as_many s c.loop-item.self c.self-2.inside.opened shows (ap (λ (k : State). k.opened) c.self-2.view_is) in
    let end = c.in-None.ensures.steps.0 in
    (read, all_read c.args.catalogue.now c.args.mode c.args.text.now read _ _ s r end, leaves_frames c.args.catalogue.now c.args.mode c.args.text.now read _ _ s r end c.self-2.inside.opened many _ c.count.ensures)

pub returns-then-not-is_empty-clause-err : goal.returns-then-not-is_empty-clause-err
returns-then-not-is_empty-clause-err g c =
    let (read, s, r, shows, _) = c.loop-item.invariant in
    let last = ap (λ (k : State). is_closing k.last) (shows ∙ sym c.self-2.view_is) in
    let many = as_many s c.loop-item.self c.self-2.inside.opened shows (ap (λ (k : State). k.opened) c.self-2.view_is) in
    let end = c.in-None.ensures.steps.0 in
    let some = not_zero (length c.self-2.inside.opened) (sym c.is_empty.ensures ∙ c.if-not-is_empty.true) in
    let found = c.last_open-place.ensures read (all_read c.args.catalogue.now c.args.mode c.args.text.now read _ _ s r end) in
    refused c.args.catalogue.now c.args.mode c.args.text.now c.refusal-then-not-is_empty.result _ _ _ c.refusal-then-not-is_empty.ensures
    (ends_unclosed c.args.catalogue.now c.args.mode c.args.text.now read _ _ s r end _ (last ∙ sym c.is_closing.ensures ∙ c.if-not-is_closing.false) (subst (λ n. 0 < n) many some) found) refl refl refl

pub returns-clause-ok : goal.returns-clause-ok
returns-clause-ok g c nodes is =
    let (read, s, r, shows, _) = c.loop-item.invariant in
    let last = ap (λ (k : State). is_closing k.last) (shows ∙ sym c.self-2.view_is) in
    let many = as_many s c.loop-item.self c.self-2.inside.opened shows (ap (λ (k : State). k.opened) c.self-2.view_is) in
    let opened : places_of s ≡ [] = none_left s.opened (sym many ∙ is_zero (length c.self-2.inside.opened) (sym c.is_empty.ensures ∙ c.if-not-is_empty.false)) in
    ends_well c.args.catalogue.now c.args.mode c.args.text.now read _ _ s r c.in-None.ensures.steps.0 c.is_well_formed.ensures (last ∙ sym c.is_closing.ensures ∙ c.if-not-is_closing.false) opened nodes
    (is ∙ c.in_ok-finish.ensures ∙ ap (λ (k : State). all_joined (require k None)) (sym shows))

pub returns-clause-heard : goal.returns-clause-heard
returns-clause-heard g c all is =
    let (read, s, r, shows, heard) = c.loop-item.invariant in
    let H = g.L.Listener.Hears in
    let same : all ≡ read = same_words all read (sym is ∙ all_read c.args.catalogue.now c.args.mode c.args.text.now read _ _ s r c.in-None.ensures.steps.0) in
    let last = ap (λ (k : State). listed_last k.last) (c.self-2.view_is ∙ sym shows) ∙ ap listed_last r.last_is in
    subst (λ xs. HearsAll H c.args.listener.now (words xs) c.hear-2.new.self) (sym same)
    (record { behind = c.loop-item.listener; each = heard; end = subst (λ o. H c.loop-item.listener o None c.hear-2.new.self) (c.listed-2.ensures ∙ last) c.in_ok-hear-2.ensures })

pub returns-clause-spans : goal.returns-clause-spans
returns-clause-spans g c nodes is =
    let text = c.args.text.now in
    let all = subst (All (λ i. IsPlace text (place_of i))) c.new_mode-lexer.ensures.items c.new_mode-lexer.ensures.places in
    node_places c.args.catalogue.now c.args.mode text all nodes (returns-clause-ok g c nodes is)
