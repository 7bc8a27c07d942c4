-- The words that were read so far, and what one more comes to.
use Rattle.std.proofs.Common.{◌≡◌, ℕ, ◌+◌, ◌<◌, ◌≤◌, ◌^◌, Bool, true, false, List, [], ◌∷◌, ◌++◌, length, map, Option, Some, None, Ok, Err, refl, sym, ◌∙◌, ap, subst, arith, append_assoc, append-nil, length-append}
use Rattle.std.specs.Prelude.{◌==◌}
use Rattle.std.proofs.lemmas.List.{map-append, length-map}
use Rattle.std.proofs.lemmas.List.Sums.{fold_push}
use Rattle.spdx_requirement.specs.Rows.{Rows}
use Rattle.spdx_catalogue.specs.RowRules.{is_well_formed}
use Rattle.spdx_lexer.specs.declared.token.ParseMode.{ParseMode}
use Rattle.spdx_lexer.specs.Words.{Word, CloseParen, Fault, Empty, Unexpected, UnclosedParens, Span, span, Item, Placed, words}
use Rattle.spdx_lexer.specs.Code.{span_of}
use Rattle.spdx_lexer.specs.Reading.{reading}
use Rattle.spdx_parser.specs.declared.node.ExprNode.{ExprNode}
use Rattle.spdx_parser.specs.declared.frames.Frame.{Frame}
use Rattle.spdx_parser.specs.Tree.{Tree, postfix}
use Rattle.spdx_parser.specs.Nodes.{placed_node}
use Rattle.spdx_parser.specs.Last.{Due, last_of, next_last, is_license, is_closing, terms}
use Rattle.spdx_parser.specs.Spans.{license_spans}
use Rattle.spdx_parser.specs.Grammar.{Derives, IsViable, IsTheTree}
use Rattle.spdx_parser.specs.Faults.{opens, closes, fault_behind, empty, short, unclosed, IsFaultOf, at_word, at_place, at_end, HasNoTree}
use Rattle.spdx_lexer.specs.declared.error.ParseError.{ParseError}
use Rattle.spdx_lexer.specs.Faults.{fault_of}
use Rattle.spdx_requirement.specs.declared.failure.Failure.{Failure}
use Rattle.spdx_requirement.specs.declared.failure.Failure.TheVariants.{Refused}
use Rattle.spdx_requirement.specs.Failures.{IfRefused}
use Rattle.spdx_parser.specs.Meaning.{IsParsed, IsRefused}
use Rattle.spdx_parser.proofs.Machine as machine
use Rattle.spdx_parser.proofs.Runs as runs
use Rattle.spdx_parser.specs.Code.{IsKnown}
use Rattle.spdx_parser.specs.State.{State, start, step, all_joined, require, if_taken}
use Rattle.spdx_parser.proofs.Complete.{complete}
use Rattle.spdx_parser.proofs.Theorem.{run_front, viable, not_viable, the_tree, no_tree}
use Rattle.spdx_parser.proofs.Shown.{Shows, Goes, FramesFit, add_span, spans_of, places_of, goes, ends, not_ended, ended_spans, starts}
use Rattle.spdx_parser.proofs.Folded.{bare, places_in, bare_nodes, places_nodes}
use Rattle.spdx_parser.proofs.Seen.{Nest, whole, nest_more, nest_count, opens_bound, none_open_is, last_open, spans_more, words_on}
use Rattle.spdx_parser.proofs.Known.{last_known, words_known, tree_known}

abbrev pub is_nil : List Placed → Bool
is_nil [] = true
is_nil (p ∷ read) = false

pub span_is : (a b at len : ℕ) → a ≡ at → b ≡ at + len → (let s : Span = record { from = a; to = b } in s) ≡ span at len
span_is a b at len e f = ap (λ (x : ℕ). let s : Span = record { from = x; to = b } in s) e ∙ ap (λ (x : ℕ). let s : Span = record { from = at; to = x } in s) f

-- ---- lists of items

-- a reading that goes on behind these words goes on so in any cut of it
pub goes_on : (all read : List Placed) (p : Placed) (more : List Item) → map Ok all ≡ map Ok read ++ Ok p ∷ more → (rest : List Word) × (words all ≡ (words read ++ p.0 ∷ []) ++ rest)
goes_on [] [] p more e = absurd cc
goes_on [] (q ∷ read) p more e = absurd cc
goes_on (a ∷ all) [] p more e =
    let item : ◌≡◌ {A = Item} (Ok a) (Ok p) = cc in
    let same : a ≡ p = cc in
    (words all, ap (λ (x : Placed). x.0 ∷ words all) same)
goes_on (a ∷ all) (q ∷ read) p more e =
    let item : ◌≡◌ {A = Item} (Ok a) (Ok q) = cc in
    let same : a ≡ q = cc in
    let tails : ◌≡◌ {A = List Item} (map Ok all) (map Ok read ++ Ok p ∷ more) = cc in
    let rest = goes_on all read p more tails in
    (rest.0, ap (λ (x : Placed). x.0 ∷ words all) same ∙ ap (λ ws. q.0 ∷ ws) rest.1)

pub no_fault_in : (all read : List Placed) (x : Fault × Span) (more : List Item) → map Ok all ≡ map Ok read ++ Err x ∷ more → ⊥
no_fault_in [] [] x more e = cc
no_fault_in [] (q ∷ read) x more e = cc
no_fault_in (a ∷ all) [] x more e = let item : ◌≡◌ {A = Item} (Ok a) (Err x) = cc in cc
no_fault_in (a ∷ all) (q ∷ read) x more e = let tails : ◌≡◌ {A = List Item} (map Ok all) (map Ok read ++ Err x ∷ more) = cc in no_fault_in all read x more tails

pub same_words : (all read : List Placed) → ◌≡◌ {A = List Item} (map Ok all) (map Ok read) → all ≡ read
same_words [] [] e = refl
same_words [] (q ∷ read) e = absurd cc
same_words (a ∷ all) [] e = absurd cc
same_words (a ∷ all) (q ∷ read) e =
    let item : ◌≡◌ {A = Item} (Ok a) (Ok q) = cc in
    let heads : a ≡ q = cc in
    let tails : ◌≡◌ {A = List Item} (map Ok all) (map Ok read) = cc in
    let rest : all ≡ read = same_words all read tails in
    ap (λ x. x ∷ all) heads ∙ ap (λ xs. q ∷ xs) rest

module _ (c : Rows) (m : ParseMode) (text : List ℕ) where
  -- where a text has a fault, it has no tree
  pub fault_no_tree : (f : Fault) (s : Span) → IsFaultOf c m text f s → HasNoTree c m text
  fault_no_tree f s (at_word read w {s = at} more e v bad) all t reads d =
      let rest = goes_on all read (w, at) more (sym reads ∙ e) in
      bad (rest.0, t, subst (λ ws. Derives c m ws t) rest.1 d)
  fault_no_tree f s (at_place read more e v) all t reads d = no_fault_in all read (f, s) more (sym reads ∙ e)
  fault_no_tree f s (at_end read e v none end) all t reads d = none t (subst (λ r. Derives c m (words r) t) (same_words all read (sym reads ∙ e)) d)

  -- an error that is the text's fault
  pub refused : (failure : Failure ParseError) (error : ParseError) (f : Fault) (s : Span) → failure ≡ Refused error → IsFaultOf c m text f s → fault_of error.reason ≡ f → span_of error.span ≡ s → error.original.now ≡ text → IfRefused (λ (e : ParseError). IsRefused c m text e) failure
  refused failure error f s is h same place original =
      let fault : IsFaultOf c m text (fault_of error.reason) (span_of error.span) = subst (λ x. IsFaultOf c m text x (span_of error.span)) (sym same) (subst (λ x. IsFaultOf c m text f x) (sym place) h) in
      let refusal : IsRefused c m text error = record { no_tree = fault_no_tree (fault_of error.reason) (span_of error.span) fault; fault_is = fault; text_is = original } in
      subst (λ (x : Failure ParseError). IfRefused (λ (e : ParseError). IsRefused c m text e) x) (sym is) refusal

  -- the words so far, with what is left of the reading, and what the parser holds behind them
  pub record Reads (read : List Placed) (left : List Item) (is_empty : Bool) (s : State) : Type 0 where
    pub so_far : reading c m 0 text ≡ map Ok read ++ left
    pub state : machine.State
    pub reached : runs.run c m (Some machine.start) (words read) ≡ Some state
    pub shows : Shows state.part state.frame state.outer s
    pub last_is : s.last ≡ last_of (words read)
    pub spans_are : spans_of s ≡ license_spans Due read
    pub nest : Nest read (places_of s)
    pub frames_fit : FramesFit (length read) s
    pub begun : is_empty ≡ is_nil read

  pub nothing_read : (left : List Item) → reading c m 0 text ≡ left → Reads [] left true start
  nothing_read left e = record { so_far = e; state = machine.start; reached = refl; shows = starts; last_is = refl; spans_are = refl; nest = whole refl; frames_fit = (omega arith, tt); begun = refl }

  -- a `)` is taken where a parenthesis is open
  open_before : (p : machine.Part) (f : machine.Frame) (fs : List machine.Frame) (s : machine.State) → machine.act c m p f fs CloseParen ≡ Some s → 0 < length fs
  open_before p f (g ∷ gs) s e = omega arith
  open_before machine.Due f [] s e = absurd cc
  open_before (machine.Fresh r) f [] s e = absurd cc
  open_before (machine.Named l) f [] s e = absurd cc
  open_before (machine.Joined l) f [] s e = absurd cc
  open_before (machine.Whole t) f [] s e = absurd cc

  module _ (read : List Placed) (left : List Item) (is_empty : Bool) (s : State) (r : Reads read left is_empty s) where
    places_long : length (places_of s) ≡ length s.opened
    places_long = length-map s.opened (λ (o : Span × Frame). o.0)

    opened_long : length s.opened ≡ length r.state.outer
    opened_long = sym (length-map s.opened (λ (o : Span × Frame). o.1)) ∙ ap length r.shows.frames_are ∙ length-map r.state.outer _

    pub row_known : is_well_formed c ≡ true → IsKnown c s.last
    row_known well = subst (IsKnown c) (sym r.last_is) (last_known c Due (words read) tt (words_known c well m text read left r.so_far))

    pub is_viable : IsViable c m (words read)
    is_viable = viable c m (words read) r.state r.reached

    words_more : (w : Word) (at : Span) → words (read ++ (w, at) ∷ []) ≡ words read ++ w ∷ []
    words_more w at = words_on read ((w, at) ∷ [])

    step_goes : (w : Word) (at : Span) → Goes s w at (machine.step c m r.state w) (step c m s (w, at))
    step_goes w at = goes c m r.state.part r.state.frame r.state.outer s w at r.shows

    -- a word that was taken
    pub takes : (w : Word) (at : Span) (more : List Item) (next : State) → left ≡ Ok (w, at) ∷ more → step c m s (w, at) ≡ if_taken true next → Reads (read ++ (w, at) ∷ []) more false next
    takes w at more next is taken = go (machine.step c m r.state w) refl (subst (Goes s w at (machine.step c m r.state w)) taken (step_goes w at))
      where
        nil_more : (xs : List Placed) (p : Placed) → is_nil (xs ++ p ∷ []) ≡ false
        nil_more [] p = refl
        nil_more (x ∷ xs) p = refl

        go : (o : Option machine.State) → machine.step c m r.state w ≡ o → Goes s w at o (Some next) → Reads (read ++ (w, at) ∷ []) more false next
        go None h k = absurd k
        go (Some state) h (shows, k) = record {
          so_far = r.so_far ∙ ap (λ xs. map Ok read ++ xs) is ∙ sym (append_assoc (map Ok read) (Ok (w, at) ∷ []) more) ∙ ap (λ xs. xs ++ more) (sym (map-append Ok read ((w, at) ∷ [])));
          state = state;
          reached = ap (λ ws. runs.run c m (Some machine.start) ws) (words_more w at) ∙ run_front c m (words read) (w ∷ []) (Some r.state) r.reached ∙ h;
          shows = shows;
          last_is = k.last_is ∙ ap (λ last. next_last last w) r.last_is ∙ sym (fold_push next_last Due (words read) w) ∙ ap last_of (sym (words_more w at));
          spans_are = k.spans_are ∙ ap (λ last. add_span (is_license last w) (spans_of s) at) r.last_is ∙ ap (λ xs. add_span (is_license (last_of (words read)) w) xs at) r.spans_are ∙ sym (spans_more Due read w at);
          nest = subst (Nest (read ++ (w, at) ∷ [])) (sym k.places_are)
              (nest_more read (places_of s) w at r.nest (λ close. subst (λ n. 0 < n) (sym (places_long ∙ opened_long)) (open_before r.state.part r.state.frame r.state.outer state (subst (λ x. machine.step c m r.state x ≡ Some state) close h))));
          frames_fit = subst (λ n. FramesFit n next) (sym (length-append read ((w, at) ∷ []))) (k.frames_fit (length read) r.frames_fit);
          begun = sym (nil_more read (w, at));
        }

    -- a word that was refused
    pub stops : (w : Word) (at : Span) (more : List Item) (next : State) (none : Bool) (f : Fault) → left ≡ Ok (w, at) ∷ more → step c m s (w, at) ≡ if_taken false next → none ≡ (length s.opened == 0) → f ≡ fault_behind m s.last none w → IsFaultOf c m text f at
    stops w at more next none f is refused tells fault =
        let same : f ≡ fault_behind m (last_of (words read)) (opens (words read) == closes (words read)) w =
        fault ∙ ap (λ b. fault_behind m s.last b w) (tells ∙ sym (ap (λ n. n == 0) places_long) ∙ sym (none_open_is read (places_of s) r.nest))
        ∙ ap (λ last. fault_behind m last (opens (words read) == closes (words read)) w) r.last_is in
        subst (λ x. IsFaultOf c m text x at) (sym same) (at_word read w more (r.so_far ∙ ap (λ xs. map Ok read ++ xs) is) is_viable (go (machine.step c m r.state w) refl (subst (Goes s w at (machine.step c m r.state w)) refused (step_goes w at))))
      where
        go : (o : Option machine.State) → machine.step c m r.state w ≡ o → Goes s w at o None → IsViable c m (words read ++ w ∷ []) → ⊥
        go None h k v = not_viable c m (words read ++ w ∷ []) v.0 v.1 (run_front c m (words read) (w ∷ []) (Some r.state) r.reached ∙ h) v.2
        go (Some state) h k v = k

    -- a place that is no word
    pub lexes_no_more : (f : Fault) (at : Span) (more : List Item) → left ≡ Err (f, at) ∷ more → IsFaultOf c m text f at
    lexes_no_more f at more is = at_place read more (r.so_far ∙ ap (λ xs. map Ok read ++ xs) is) is_viable

    -- each left side and each parenthesis has a word of the text, and so has the one that comes
    words_fit : (p : Placed) (more : List Item) → left ≡ Ok p ∷ more → length (reading c m 0 text) ≤ length text → length text < 2 ^ 64 → length read + 1 < 2 ^ 64
    words_fit p more is long lt =
        let all = ap length (r.so_far ∙ ap (λ xs. map Ok read ++ xs) is) ∙ length-append (map Ok read) (Ok p ∷ more) in
        omega (arith, all, length-map read (λ (q : Placed). let i : Item = Ok q in i), long, lt)

    pub has_room : (p : Placed) (more : List Item) → left ≡ Ok p ∷ more → length (reading c m 0 text) ≤ length text → length text < 2 ^ 64 → s.frame.ors + s.frame.ands + 1 < 2 ^ 64
    has_room p more is long lt = omega (arith, r.frames_fit.0, words_fit p more is long lt)

    depth_fits : length s.opened ≤ length read
    depth_fits = omega (arith, places_long, nest_count read (places_of s) r.nest, opens_bound (words read), length-map read (λ (q : Placed). q.0))

    pub has_depth : (p : Placed) (more : List Item) → left ≡ Ok p ∷ more → length (reading c m 0 text) ≤ length text → length text < 2 ^ 64 → length s.opened + 1 < 2 ^ 64
    has_depth p more is long lt = omega (arith, depth_fits, words_fit p more is long lt)

    module _ (last : left ≡ []) where
      pub all_read : reading c m 0 text ≡ map Ok read
      all_read = r.so_far ∙ ap (λ xs. map Ok read ++ xs) last ∙ append-nil (map Ok read)

      -- no word at all
      pub ends_empty : is_empty ≡ true → IsFaultOf c m text Empty (span 0 (length text))
      ends_empty e = go read all_read is_viable (no_tree_of r.state r.reached e) (sym r.begun ∙ e)
        where
          nil : (xs : List Placed) → is_nil xs ≡ true → xs ≡ []
          nil [] e = refl
          nil (x ∷ xs) e = absurd cc

          no_tree_of : (state : machine.State) → runs.run c m (Some machine.start) (words read) ≡ Some state → is_empty ≡ true → (t : Tree) → Derives c m (words read) t → ⊥
          no_tree_of state reached e t d = let a = complete c m (words read) t d in let b : runs.parsed c m machine.start [] ≡ Some t = subst (λ (xs : List Placed). runs.parsed c m machine.start (words xs) ≡ Some t) (nil read (sym r.begun ∙ e)) a in cc

          go : (xs : List Placed) → reading c m 0 text ≡ map Ok xs → IsViable c m (words xs) → ((t : Tree) → Derives c m (words xs) t → ⊥) → is_nil xs ≡ true → IsFaultOf c m text Empty (span 0 (length text))
          go [] e v none is = at_end [] e v none empty
          go (x ∷ xs) e v none is = absurd cc

      -- a word that something has to follow
      pub ends_short : is_empty ≡ false → is_closing s.last ≡ false → IsFaultOf c m text (Unexpected (terms s.last)) (span (length text) 0)
      ends_short begun e = go read all_read is_viable (no_tree c m (words read) r.state r.reached (not_ended r.state.part r.state.frame r.state.outer s r.shows e)) (sym r.begun ∙ begun) r.last_is
        where
          go : (xs : List Placed) → reading c m 0 text ≡ map Ok xs → IsViable c m (words xs) → ((t : Tree) → Derives c m (words xs) t → ⊥) → is_nil xs ≡ false → s.last ≡ last_of (words xs) → IsFaultOf c m text (Unexpected (terms s.last)) (span (length text) 0)
          go [] reads v none is now = absurd cc
          go (x ∷ xs) reads v none is now = subst (λ last. IsFaultOf c m text (Unexpected (terms last)) (span (length text) 0)) (sym now) (at_end (x ∷ xs) reads v none (short (subst (λ last. is_closing last ≡ false) now e)))

      pub ends_deep : length (reading c m 0 text) ≤ length text → length text < 2 ^ 64 → length s.opened < 2 ^ 64
      ends_deep long lt = omega (arith, depth_fits, ap length all_read, length-map read (λ (q : Placed). let i : Item = Ok q in i), long, lt)

      -- a parenthesis that is left open
      pub ends_open : (o : Span) (more : List Span) → is_closing s.last ≡ true → places_of s ≡ o ∷ more → IsFaultOf c m text UnclosedParens o
      ends_open o more e is =
          let last_place = last_open read more o (subst (Nest read) is r.nest) in
          at_end read all_read is_viable (no_tree c m (words read) r.state r.reached none) (unclosed (subst (λ last. is_closing last ≡ true) r.last_is e) last_place)
        where
          bottom : (t : Tree) (fs : List machine.Frame) → 0 < length fs → machine.at_bottom t fs ≡ None
          bottom t [] lt = absurd (omega arith)
          bottom t (f ∷ fs) lt = refl

          within : (p : machine.Part) (f : machine.Frame) (fs : List machine.Frame) → 0 < length fs → machine.finish p f fs ≡ None
          within machine.Due f fs lt = refl
          within (machine.Fresh x) f fs lt = bottom _ fs lt
          within (machine.Named l) f fs lt = bottom _ fs lt
          within (machine.Joined l) f fs lt = refl
          within (machine.Whole t) f fs lt = bottom _ fs lt

          long : 0 < length r.state.outer
          long = subst (λ n. 0 < n) (places_long ∙ opened_long) (subst (λ (xs : List Span). 0 < length xs) (sym is) (omega arith))

          none : machine.built r.state ≡ None
          none = within r.state.part r.state.frame r.state.outer long

      -- the nodes are those of the tree that the words mean
      pub ends_in_tree : is_closing s.last ≡ true → places_of s ≡ [] → (t : Tree) × IsTheTree c m (words read) t × (bare (all_joined (require s None)) ≡ postfix t)
      ends_in_tree closing none = go r.state.outer refl
        where
          go : (fs : List machine.Frame) → r.state.outer ≡ fs → (t : Tree) × IsTheTree c m (words read) t × (bare (all_joined (require s None)) ≡ postfix t)
          go [] outer =
              let (t, ended, joined) = ends r.state.part r.state.frame s (subst (λ fs. Shows r.state.part r.state.frame fs s) outer r.shows) closing in
              let final : runs.parsed c m machine.start (words read) ≡ Some t = ap runs.built_on r.reached ∙ ap (λ fs. machine.finish r.state.part r.state.frame fs) outer ∙ ended in
              (t, the_tree c m (words read) t final, joined)
          go (f ∷ fs) outer = let zero : length r.state.outer ≡ 0 = sym (places_long ∙ opened_long) ∙ ap length none in let long = ap length outer in absurd (omega arith)

      -- the whole
      pub ends_well : is_well_formed c ≡ true → is_closing s.last ≡ true → places_of s ≡ [] → (nodes : List ExprNode) → map placed_node nodes ≡ all_joined (require s None) → IsParsed c m text nodes
      ends_well well closing none nodes is =
          let (t, meant, joined) = ends_in_tree closing none in
          record {
            read = read;
            tree = t;
            reads = all_read;
            meant = meant;
            nodes_are = sym (bare_nodes nodes) ∙ ap bare is ∙ joined;
            spans_are = sym (places_nodes nodes) ∙ ap places_in is ∙ ended_spans s ∙ r.spans_are;
            rows_are = tree_known c well m (words read) t (words_known c well m text read left r.so_far) meant.derived;
          }
