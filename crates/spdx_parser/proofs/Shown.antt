-- What the parser holds shows what the machine holds, whose frames hold trees, and goes where it goes.
use Rattle.std.proofs.Common.{◌≡◌, ℕ, ◌+◌, ◌≤◌, Bool, true, false, not, ◌&&◌, List, [], ◌∷◌, ◌++◌, length, map, Option, Some, None, option_map, refl, sym, ◌∙◌, ap, subst, arith, replicate, append_assoc, append-nil}
use Rattle.std.specs.Prelude.{if◌then◌else◌}
use Rattle.std.proofs.lemmas.List.{map-append}
use Rattle.spdx_requirement.specs.Rows.{Rows, LicenseRow}
use Rattle.spdx_requirement.specs.Flags.{is_gnu}
use Rattle.spdx_requirement.specs.Endings.{ends_or_later}
use Rattle.spdx_requirement.specs.Items.{LicenseTerm, listed, referred, Addition, excepted, added}
use Rattle.spdx_lexer.specs.declared.token.ParseMode.{ParseMode}
use Rattle.spdx_lexer.specs.Words.{Word, Spdx, LicenseRef, Exception, AdditionRef, Unknown, Plus, OpenParen, CloseParen, With, And, Or, Span}
use Rattle.spdx_parser.specs.declared.node.Operator.{Operator}
use Rattle.spdx_parser.specs.declared.frames.Frame.{Frame}
use Rattle.spdx_parser.specs.Tree.{Tree, Leaf, Op, Req, postfix}
use Rattle.spdx_parser.specs.Nodes.{PlacedNode}
use Rattle.spdx_parser.specs.Grammar.{may_stand, later_row}
use Rattle.spdx_parser.specs.Last.{Last, Due, Listed, Unlisted, Named, Joined, Added, Closed, next_last, is_license, is_closing}
use Rattle.spdx_parser.proofs.Machine as machine
use Rattle.spdx_parser.proofs.Folded.{frame_nodes, outer_nodes, part_nodes, frame_of, flush_ands, flush_ors, bare, places_in, places_on, with_operators, same_places}
use Rattle.spdx_parser.specs.State.{State, start, operators, all_joined, leaf_of, require, name_as, operate, after_license, read_due, marked, read_listed, read_joined, read_behind, step, close}

-- ---- what a state shows

-- what was read last, and the licence of it, are the part of a primary that the machine holds
abbrev Fits : machine.Part → Last → Option LicenseTerm → Type 0
Fits machine.Due Due None = Unit {0}
Fits (machine.Fresh r) (Listed s) (Some l) = (r ≡ s) × (l ≡ listed r false)
Fits (machine.Named k) Unlisted (Some l) = l ≡ k
Fits (machine.Named k) Named (Some l) = l ≡ k
Fits (machine.Joined k) Joined (Some l) = l ≡ k
Fits (machine.Whole t) Added None = Unit {0}
Fits (machine.Whole t) Closed None = Unit {0}
Fits _ _ _ = ⊥

pub record Shows (p : machine.Part) (f : machine.Frame) (fs : List machine.Frame) (s : State) : Type 0 where
  pub fits : Fits p s.last s.license
  pub nodes_are : bare s.nodes ≡ outer_nodes fs ++ (frame_nodes f ++ part_nodes p)
  pub frame_is : s.frame ≡ frame_of f
  pub frames_are : map (λ (o : Span × Frame). o.1) s.opened ≡ map frame_of fs

-- ---- what one more word changes

-- where the licences stand, of which the last may have no node yet
abbrev pub held : Option LicenseTerm → Span → List Span
held None at = []
held (Some l) at = at ∷ []

abbrev pub spans_of : State → List Span
spans_of s = places_in s.nodes ++ held s.license s.place

abbrev pub places_of : State → List Span
places_of s = map (λ (o : Span × Frame). o.0) s.opened

abbrev pub add_span : Bool → List Span → Span → List Span
add_span true spans s = spans ++ s ∷ []
add_span false spans s = spans

abbrev pub but_first : List Span → List Span
but_first [] = []
but_first (s ∷ places) = places

abbrev pub move_places : Word → Span → List Span → List Span
move_places OpenParen s places = s ∷ places
move_places CloseParen s places = but_first places
move_places w s places = places

-- no frame has more left sides than that
abbrev pub FitsIn : ℕ → Frame → Type 0
FitsIn n f = f.ors + f.ands ≤ n

abbrev pub AllFit : ℕ → List (Span × Frame) → Type 0
AllFit n [] = Unit {0}
AllFit n (o ∷ opened) = FitsIn n o.1 × AllFit n opened

abbrev pub FramesFit : ℕ → State → Type 0
FramesFit n s = FitsIn n s.frame × AllFit n s.opened

all_fit_more : (n : ℕ) (opened : List (Span × Frame)) → AllFit n opened → AllFit (n + 1) opened
all_fit_more n [] h = tt
all_fit_more n (o ∷ opened) h = (omega (arith, h.0), all_fit_more n opened h.1)

frames_fit_more : (n : ℕ) (s : State) → FramesFit n s → FramesFit (n + 1) s
frames_fit_more n s h = (omega (arith, h.0), all_fit_more n s.opened h.1)

-- what was read last, where the licences and the open parentheses stand, and how many left sides there are
pub record Follows (s : State) (w : Word) (at : Span) (next : State) : Type 0 where
  pub last_is : next.last ≡ next_last s.last w
  pub spans_are : spans_of next ≡ add_span (is_license s.last w) (spans_of s) at
  pub places_are : places_of next ≡ move_places w at (places_of s)
  pub frames_fit : (n : ℕ) → FramesFit n s → FramesFit (n + 1) next

-- a state of the machine, and what the parser comes to; or neither
abbrev pub Goes : State → Word → Span → Option machine.State → Option State → Type 0
Goes s w at None None = Unit {0}
Goes s w at (Some m) (Some next) = Shows m.part m.frame m.outer next × Follows s w at next
Goes s w at _ _ = ⊥

-- ---- the steps

-- a licence becomes a primary
required : (l : LicenseTerm) (a : Option Addition) (f : machine.Frame) (fs : List machine.Frame) (s : State) → bare s.nodes ≡ outer_nodes fs ++ (frame_nodes f ++ []) → s.frame ≡ frame_of f → map (λ (o : Span × Frame). o.1) s.opened ≡ map frame_of fs → s.license ≡ Some l → Shows (machine.Whole (Leaf (record { license = l; addition = a }))) f fs (require s a)
required l a f fs s nodes frame frames is = record {
  fits = tt;
  nodes_are =
      ap (λ o. bare (s.nodes ++ leaf_of o s.place a)) is
      ∙ map-append (λ (x : PlacedNode). x.0) s.nodes (leaf_of (Some l) s.place a)
      ∙ ap (λ ns. ns ++ Req (record { license = l; addition = a }) ∷ []) nodes
      ∙ simp append_assoc;
  frame_is = frame;
  frames_are = frames;
}

required_spans : (s : State) (a : Option Addition) → spans_of (require s a) ≡ spans_of s
required_spans s a = append-nil (places_in (s.nodes ++ leaf_of s.license s.place a)) ∙ places_on s.nodes (leaf_of s.license s.place a) ∙ ap (λ xs. places_in s.nodes ++ xs) (go s.license)
  where
    go : (o : Option LicenseTerm) → places_in (leaf_of o s.place a) ≡ held o s.place
    go None = refl
    go (Some l) = refl

-- behind a primary; `old` is the same state, but for its licence that had no node
operates : (t : Tree) (f : machine.Frame) (fs : List machine.Frame) (old s : State) (w : Word) (at : Span) → Shows (machine.Whole t) f fs s → spans_of s ≡ spans_of old → s.license ≡ None → s.opened ≡ old.opened → s.frame ≡ old.frame → Goes old w at (machine.operate t f fs w) (operate s w)
operates t f fs old s And at h spans license opened frame = (
  record {
    fits = subst (Fits machine.Due Due) (sym license) tt;
    nodes_are = h.nodes_are ∙ simp (append_assoc, append-nil);
    frame_is = ap (λ (x : Frame). let y : Frame = record { ors = x.ors; ands = x.ands + 1 } in y) h.frame_is ∙ ap (λ (n : ℕ). let y : Frame = record { ors = length f.ors; ands = n } in y) (omega arith);
    frames_are = h.frames_are;
  },
  record {
    last_is = refl;
    spans_are = spans;
    places_are = ap (λ xs. map (λ (o : Span × Frame). o.0) xs) opened;
    frames_fit = λ n k. let more = frames_fit_more n old k in (omega (arith, k.0, ap (λ (x : Frame). x.ors) frame, ap (λ (x : Frame). x.ands) frame), subst (AllFit (n + 1)) (sym opened) more.1);
  },
)
operates t f fs old s Or at h spans license opened frame =
    let ands : s.frame.ands ≡ length f.ands = ap (λ (x : Frame). x.ands) h.frame_is in
    let ors : s.frame.ors ≡ length f.ors = ap (λ (x : Frame). x.ors) h.frame_is in (
      record {
        fits = subst (Fits machine.Due Due) (sym license) tt;
        nodes_are = with_operators s.nodes Operator.And s.frame.ands ∙ ap (λ n. bare s.nodes ++ replicate n (Op Operator.And)) ands ∙ flush_ands t f fs (bare s.nodes) h.nodes_are ∙ simp (append_assoc, append-nil);
        frame_is = ap (λ (n : ℕ). let y : Frame = record { ors = n; ands = 0 } in y) (omega (arith, ors));
        frames_are = h.frames_are;
      },
      record {
        last_is = refl;
        spans_are = ap (λ xs. xs ++ held s.license s.place) (same_places s.nodes Operator.And s.frame.ands) ∙ spans;
        places_are = ap (λ xs. map (λ (o : Span × Frame). o.0) xs) opened;
        frames_fit = λ n k. let more = frames_fit_more n old k in (omega (arith, k.0, ap (λ (x : Frame). x.ors) frame, ap (λ (x : Frame). x.ands) frame), subst (AllFit (n + 1)) (sym opened) more.1);
      },
    )
operates t f fs old s CloseParen at h spans license opened frame = closes fs s.opened refl refl
  where
    joined : (gs : List machine.Frame) → bare s.nodes ≡ outer_nodes gs ++ (frame_nodes f ++ postfix t) → bare (all_joined s) ≡ outer_nodes gs ++ postfix (machine.close_frame f t)
    joined gs e =
        let ands : s.frame.ands ≡ length f.ands = ap (λ (x : Frame). x.ands) h.frame_is in
        let ors : s.frame.ors ≡ length f.ors = ap (λ (x : Frame). x.ors) h.frame_is in
        let first = with_operators s.nodes Operator.And s.frame.ands ∙ ap (λ n. bare s.nodes ++ replicate n (Op Operator.And)) ands ∙ flush_ands t f gs (bare s.nodes) e in
        with_operators (s.nodes ++ operators Operator.And s.frame.ands) Operator.Or s.frame.ors
        ∙ ap (λ n. bare (s.nodes ++ operators Operator.And s.frame.ands) ++ replicate n (Op Operator.Or)) ors
        ∙ flush_ors (machine.fold Operator.And f.ands t) f gs (bare (s.nodes ++ operators Operator.And s.frame.ands)) first

    closes : (gs : List machine.Frame) (os : List (Span × Frame)) → fs ≡ gs → s.opened ≡ os → Goes old CloseParen at (machine.close_one (machine.close_frame f t) gs) (close s os)
    closes [] [] a b = tt
    closes [] (o ∷ os) a b = let bad = ap (λ xs. map (λ (o : Span × Frame). o.1) xs) (sym b) ∙ h.frames_are ∙ ap (map frame_of) a in absurd cc
    closes (g ∷ gs) [] a b = let bad = ap (λ xs. map (λ (o : Span × Frame). o.1) xs) (sym b) ∙ h.frames_are ∙ ap (map frame_of) a in absurd cc
    closes (g ∷ gs) (o ∷ os) a b =
        let same : o.1 ∷ map (λ (o : Span × Frame). o.1) os ≡ frame_of g ∷ map frame_of gs = ap (λ xs. map (λ (o : Span × Frame). o.1) xs) (sym b) ∙ h.frames_are ∙ ap (map frame_of) a in
        let around : o.1 ≡ frame_of g = cc in
        let outer : map (λ (o : Span × Frame). o.1) os ≡ map frame_of gs = cc in
        let was : old.opened ≡ o ∷ os = sym opened ∙ b in (
          record {
            fits = subst (Fits (machine.Whole (machine.close_frame f t)) Closed) (sym license) tt;
            nodes_are = joined (g ∷ gs) (h.nodes_are ∙ ap (λ xs. outer_nodes xs ++ (frame_nodes f ++ postfix t)) a) ∙ append_assoc (outer_nodes gs) (frame_nodes g) (postfix (machine.close_frame f t));
            frame_is = around;
            frames_are = outer;
          },
          record {
            last_is = refl;
            spans_are = ap (λ xs. xs ++ held s.license s.place) (same_places (s.nodes ++ operators Operator.And s.frame.ands) Operator.Or s.frame.ors ∙ same_places s.nodes Operator.And s.frame.ands) ∙ spans;
            places_are = sym (ap (λ xs. but_first (map (λ (o : Span × Frame). o.0) xs)) was);
            frames_fit = λ n k. let all = subst (AllFit n) was k.1 in let more = all_fit_more n (o ∷ os) all in (more.0, more.1);
          },
        )
operates t f fs old s _ at h spans license opened frame = tt

-- behind a licence
after : (l : LicenseTerm) (f : machine.Frame) (fs : List machine.Frame) (s : State) (w : Word) (at : Span) → bare s.nodes ≡ outer_nodes fs ++ (frame_nodes f ++ []) → s.frame ≡ frame_of f → map (λ (o : Span × Frame). o.1) s.opened ≡ map frame_of fs → s.license ≡ Some l → Goes s w at (machine.after_license l f fs w) (after_license s w)
after l f fs s With at nodes frame frames is = (
  record { fits = subst (Fits (machine.Joined l) Joined) (sym is) refl; nodes_are = nodes; frame_is = frame; frames_are = frames },
  record { last_is = refl; spans_are = refl; places_are = refl; frames_fit = λ n k. frames_fit_more n s k },
)
after l f fs s w at nodes frame frames is =
    operates (machine.bare_leaf l) f fs s (require s None) w at (required l None f fs s nodes frame frames is) (required_spans s None) refl refl refl

-- which of them stand for a part

due_is : (last : Last) (l : Option LicenseTerm) → Fits machine.Due last l → (last ≡ Due) × (l ≡ None)
due_is Due None h = (refl, refl)
due_is Due (Some l) h = absurd h
due_is _ l h = absurd h

fresh_is : (r : LicenseRow) (last : Last) (l : Option LicenseTerm) → Fits (machine.Fresh r) last l → (last ≡ Listed r) × (l ≡ Some (listed r false))
fresh_is r (Listed s) (Some l) h = (ap Listed (sym h.0), ap Some h.1)
fresh_is r (Listed s) None h = absurd h
fresh_is r _ l h = absurd h

joined_is : (k : LicenseTerm) (last : Last) (l : Option LicenseTerm) → Fits (machine.Joined k) last l → (last ≡ Joined) × (l ≡ Some k)
joined_is k Joined (Some l) h = (refl, ap Some h)
joined_is k Joined None h = absurd h
joined_is k _ l h = absurd h

module _ (c : Rows) (m : ParseMode) where
  named_behind : (k : LicenseTerm) (last : Last) (l : Option LicenseTerm) (s : State) (w : Word) (at : Span) → Fits (machine.Named k) last l → (read_behind c m last s w at ≡ after_license s w) × (l ≡ Some k)
  named_behind k Unlisted (Some l) s w at h = (refl, ap Some h)
  named_behind k Named (Some l) s w at h = (refl, ap Some h)
  named_behind k Unlisted None s w at h = absurd h
  named_behind k Named None s w at h = absurd h
  named_behind k _ l s w at h = absurd h

  whole_behind : (t : Tree) (last : Last) (l : Option LicenseTerm) (s : State) (w : Word) (at : Span) → Fits (machine.Whole t) last l → (read_behind c m last s w at ≡ operate s w) × (l ≡ None)
  whole_behind t Added None s w at h = (refl, refl)
  whole_behind t Closed None s w at h = (refl, refl)
  whole_behind t Added (Some l) s w at h = absurd h
  whole_behind t Closed (Some l) s w at h = absurd h
  whole_behind t _ l s w at h = absurd h

  -- a licence that was read where one is due
  begins : (p : machine.Part) (last : Last) (l : LicenseTerm) (f : machine.Frame) (fs : List machine.Frame) (s : State) (w : Word) (at : Span) → Shows machine.Due f fs s → s.license ≡ None → Fits p last (Some l) → part_nodes p ≡ [] → last ≡ next_last s.last w → is_license s.last w ≡ true → move_places w at (places_of s) ≡ places_of s → Shows p f fs (name_as s last l at) × Follows s w at (name_as s last l at)
  begins p last l f fs s w at h unheld fits none now license still = (
    record { fits = fits; nodes_are = h.nodes_are ∙ ap (λ ns. outer_nodes fs ++ (frame_nodes f ++ ns)) (sym none); frame_is = h.frame_is; frames_are = h.frames_are },
    record {
      last_is = now;
      spans_are = ap (λ xs. xs ++ at ∷ []) (sym (append-nil (places_in s.nodes)) ∙ ap (λ o. places_in s.nodes ++ held o s.place) (sym unheld)) ∙ ap (λ b. add_span b (spans_of s) at) (sym license);
      places_are = sym still;
      frames_fit = λ n k. frames_fit_more n s k;
    },
  )

  due : (f : machine.Frame) (fs : List machine.Frame) (s : State) (w : Word) (at : Span) → Shows machine.Due f fs s → s.last ≡ Due → s.license ≡ None → Goes s w at (machine.act c m machine.Due f fs w) (read_due m s w at)
  due f fs s (Spdx r) at h last unheld = go (may_stand m r)
    where
      go : (b : Bool) → Goes s (Spdx r) at (machine.if_may b (machine.goes_to (machine.Fresh r) f fs)) (if b then Some (name_as s (Listed r) (listed r false) at) else None)
      go true = begins (machine.Fresh r) (Listed r) (listed r false) f fs s (Spdx r) at h unheld (refl, refl) refl refl refl refl
      go false = tt
  due f fs s (LicenseRef d n) at h last unheld = begins (machine.Named (referred (record { document = d; name = n }))) Named (referred (record { document = d; name = n })) f fs s (LicenseRef d n) at h unheld refl refl refl refl refl
  due f fs s (Unknown n) at h last unheld =
      begins (machine.Named (referred (record { document = None; name = n }))) Unlisted (referred (record { document = None; name = n })) f fs s (Unknown n) at h unheld refl refl
      (ap (λ x. next_last x (Unknown n)) (sym last)) (ap (λ x. is_license x (Unknown n)) last) refl
  due f fs s OpenParen at h last unheld = (
    record {
      fits = subst (Fits machine.Due Due) (sym unheld) tt;
      nodes_are = h.nodes_are ∙ simp (append_assoc, append-nil);
      frame_is = refl;
      frames_are = ap (λ x. x ∷ map (λ (o : Span × Frame). o.1) s.opened) h.frame_is ∙ ap (λ xs. frame_of f ∷ xs) h.frames_are;
    },
    record { last_is = refl; spans_are = refl; places_are = refl; frames_fit = λ n k. (omega arith, frames_fit_more n s k) },
  )
  due f fs s _ at h last unheld = tt

  -- a `+` behind a listed licence
  marks : (r : LicenseRow) (l : LicenseTerm) (f : machine.Frame) (fs : List machine.Frame) (s : State) (at : Span) → Shows (machine.Fresh r) f fs s → s.license ≡ Some (listed r false) → Shows (machine.Named l) f fs (name_as s Named l s.place) × Follows s Plus at (name_as s Named l s.place)
  marks r l f fs s at h is = (
    record { fits = refl; nodes_are = h.nodes_are; frame_is = h.frame_is; frames_are = h.frames_are },
    record { last_is = refl; spans_are = ap (λ o. places_in s.nodes ++ held o s.place) (sym is); places_are = refl; frames_fit = λ n k. frames_fit_more n s k },
  )

  plus : (r : LicenseRow) (f : machine.Frame) (fs : List machine.Frame) (s : State) (at : Span) → Shows (machine.Fresh r) f fs s → s.license ≡ Some (listed r false) → Goes s Plus at (machine.add_plus c m (is_gnu r.flags) r f fs) (option_map (λ l. name_as s Named l s.place) (marked c m r))
  plus r f fs s at h is = go (is_gnu r.flags)
    where
      later : (may ends : Bool) (next : Option LicenseRow) → Goes s Plus at (machine.if_may may (machine.if_bare ends (machine.go_later next f fs))) (option_map (λ l. name_as s Named l s.place) (if may && not ends then option_map (λ (x : LicenseRow). listed x false) next else None))
      later false ends next = tt
      later true true next = tt
      later true false None = tt
      later true false (Some x) = marks r (listed x false) f fs s at h is

      go : (gnu : Bool) → Goes s Plus at (machine.add_plus c m gnu r f fs) (option_map (λ l. name_as s Named l s.place) (if gnu then (if m.allow_postfix_plus_on_gpl && not (ends_or_later r.name) then option_map (λ (x : LicenseRow). listed x false) (later_row c r) else None) else Some (listed r true)))
      go false = marks r (listed r true) f fs s at h is
      go true = later m.allow_postfix_plus_on_gpl (ends_or_later r.name) (later_row c r)

  listed_goes : (r : LicenseRow) (f : machine.Frame) (fs : List machine.Frame) (s : State) (w : Word) (at : Span) → Shows (machine.Fresh r) f fs s → s.license ≡ Some (listed r false) → Goes s w at (machine.act c m (machine.Fresh r) f fs w) (read_listed c m r s w)
  listed_goes r f fs s Plus at h is = plus r f fs s at h is
  listed_goes r f fs s w at h is = after (listed r false) f fs s w at h.nodes_are h.frame_is h.frames_are is

  -- an addition
  adds : (k : LicenseTerm) (a : Addition) (f : machine.Frame) (fs : List machine.Frame) (s : State) (w : Word) (at : Span) → Shows (machine.Joined k) f fs s → s.license ≡ Some k → Added ≡ next_last s.last w → is_license s.last w ≡ false → move_places w at (places_of s) ≡ places_of s → Shows (machine.Whole (machine.joined_leaf k a)) f fs (require s (Some a)) × Follows s w at (require s (Some a))
  adds k a f fs s w at h is now license still = (
    required k (Some a) f fs s h.nodes_are h.frame_is h.frames_are is,
    record { last_is = now; spans_are = required_spans s (Some a) ∙ ap (λ b. add_span b (spans_of s) at) (sym license); places_are = sym still; frames_fit = λ n k. frames_fit_more n s k },
  )

  joined_goes : (k : LicenseTerm) (f : machine.Frame) (fs : List machine.Frame) (s : State) (w : Word) (at : Span) → Shows (machine.Joined k) f fs s → s.last ≡ Joined → s.license ≡ Some k → Goes s w at (machine.act c m (machine.Joined k) f fs w) (read_joined s w)
  joined_goes k f fs s (Exception r) at h last is = adds k (excepted r) f fs s (Exception r) at h is refl refl refl
  joined_goes k f fs s (AdditionRef d n) at h last is = adds k (added (record { document = d; name = n })) f fs s (AdditionRef d n) at h is refl refl refl
  joined_goes k f fs s (Unknown n) at h last is = adds k (added (record { document = None; name = n })) f fs s (Unknown n) at h is (ap (λ x. next_last x (Unknown n)) (sym last)) (ap (λ x. is_license x (Unknown n)) last) refl
  joined_goes k f fs s _ at h last is = tt

  -- the parser goes where the machine goes
  pub goes : (p : machine.Part) (f : machine.Frame) (fs : List machine.Frame) (s : State) (w : Word) (at : Span) → Shows p f fs s → Goes s w at (machine.act c m p f fs w) (step c m s (w, at))
  goes machine.Due f fs s w at h =
      let (last, is) = due_is s.last s.license h.fits in
      subst (λ x. Goes s w at (machine.act c m machine.Due f fs w) (read_behind c m x s w at)) (sym last) (due f fs s w at h last is)
  goes (machine.Fresh r) f fs s w at h =
      let (last, is) = fresh_is r s.last s.license h.fits in
      subst (λ x. Goes s w at (machine.act c m (machine.Fresh r) f fs w) (read_behind c m x s w at)) (sym last) (listed_goes r f fs s w at h is)
  goes (machine.Named k) f fs s w at h =
      let (same, is) = named_behind k s.last s.license s w at h.fits in
      subst (Goes s w at (machine.act c m (machine.Named k) f fs w)) (sym same) (after k f fs s w at h.nodes_are h.frame_is h.frames_are is)
  goes (machine.Joined k) f fs s w at h =
      let (last, is) = joined_is k s.last s.license h.fits in
      subst (λ x. Goes s w at (machine.act c m (machine.Joined k) f fs w) (read_behind c m x s w at)) (sym last) (joined_goes k f fs s w at h last is)
  goes (machine.Whole t) f fs s w at h =
      let (same, is) = whole_behind t s.last s.license s w at h.fits in
      subst (Goes s w at (machine.act c m (machine.Whole t) f fs w)) (sym same) (operates t f fs s s w at h refl is refl refl)

-- ---- the end

pub not_ended : (p : machine.Part) (f : machine.Frame) (fs : List machine.Frame) (s : State) → Shows p f fs s → is_closing s.last ≡ false → machine.finish p f fs ≡ None
not_ended p f fs s h e = go p s.last s.license h.fits e
  where
    go : (p : machine.Part) (last : Last) (l : Option LicenseTerm) → Fits p last l → is_closing last ≡ false → machine.finish p f fs ≡ None
    go machine.Due last l fits e = refl
    go (machine.Joined k) last l fits e = refl
    go (machine.Fresh r) (Listed s) l fits e = absurd cc
    go (machine.Fresh r) _ l fits e = absurd fits
    go (machine.Named k) Unlisted l fits e = absurd cc
    go (machine.Named k) Named l fits e = absurd cc
    go (machine.Named k) _ l fits e = absurd fits
    go (machine.Whole t) Added l fits e = absurd cc
    go (machine.Whole t) Closed l fits e = absurd cc
    go (machine.Whole t) _ l fits e = absurd fits

-- where an expression can end, a primary was read, and the nodes with the operators that wait are its tree's
pub ends : (p : machine.Part) (f : machine.Frame) (s : State) → Shows p f [] s → is_closing s.last ≡ true → (t : Tree) × (machine.finish p f [] ≡ Some t) × (bare (all_joined (require s None)) ≡ postfix t)
ends p f s h closing = go p h.fits h
  where
    flush : (t : Tree) (s : State) → bare s.nodes ≡ [] ++ (frame_nodes f ++ postfix t) → s.frame ≡ frame_of f → bare (all_joined s) ≡ postfix (machine.close_frame f t)
    flush t s e frame =
        let ands : s.frame.ands ≡ length f.ands = ap (λ (x : Frame). x.ands) frame in
        let ors : s.frame.ors ≡ length f.ors = ap (λ (x : Frame). x.ors) frame in
        let first = with_operators s.nodes Operator.And s.frame.ands ∙ ap (λ n. bare s.nodes ++ replicate n (Op Operator.And)) ands ∙ flush_ands t f [] (bare s.nodes) e in
        with_operators (s.nodes ++ operators Operator.And s.frame.ands) Operator.Or s.frame.ors
        ∙ ap (λ n. bare (s.nodes ++ operators Operator.And s.frame.ands) ++ replicate n (Op Operator.Or)) ors
        ∙ flush_ors (machine.fold Operator.And f.ands t) f [] (bare (s.nodes ++ operators Operator.And s.frame.ands)) first

    of_license : (l : LicenseTerm) → Shows machine.Due f [] (record s { last = Due; license = None }) → s.license ≡ Some l → (t : Tree) × (machine.at_bottom (machine.close_frame f (machine.bare_leaf l)) [] ≡ Some t) × (bare (all_joined (require s None)) ≡ postfix t)
    of_license l k is =
        let leaf = required l None f [] s k.nodes_are k.frame_is k.frames_are is in
        (machine.close_frame f (machine.bare_leaf l), refl, flush (machine.bare_leaf l) (require s None) leaf.nodes_are leaf.frame_is)

    unheld : (l : Option LicenseTerm) → l ≡ None → s.nodes ++ leaf_of l s.place None ≡ s.nodes
    unheld l e = ap (λ o. s.nodes ++ leaf_of o s.place None) e ∙ append-nil s.nodes

    go : (p : machine.Part) → Fits p s.last s.license → Shows p f [] s → (t : Tree) × (machine.finish p f [] ≡ Some t) × (bare (all_joined (require s None)) ≡ postfix t)
    go machine.Due fits k = let (last, is) = due_is s.last s.license fits in let bad : is_closing Due ≡ true = subst (λ x. is_closing x ≡ true) last closing in absurd cc
    go (machine.Joined l) fits k = let (last, is) = joined_is l s.last s.license fits in let bad : is_closing Joined ≡ true = subst (λ x. is_closing x ≡ true) last closing in absurd cc
    go (machine.Fresh r) fits k = let (last, is) = fresh_is r s.last s.license fits in of_license (listed r false) (record { fits = tt; nodes_are = k.nodes_are; frame_is = k.frame_is; frames_are = k.frames_are }) is
    go (machine.Named l) fits k = of_license l (record { fits = tt; nodes_are = k.nodes_are; frame_is = k.frame_is; frames_are = k.frames_are }) (named_license s.last s.license fits)
      where
        named_license : (last : Last) (o : Option LicenseTerm) → Fits (machine.Named l) last o → o ≡ Some l
        named_license Unlisted (Some x) h = ap Some h
        named_license Named (Some x) h = ap Some h
        named_license Unlisted None h = absurd h
        named_license Named None h = absurd h
        named_license _ o h = absurd h
    go (machine.Whole t) fits k =
        let same = unheld s.license (whole_license s.last s.license fits) in
        (machine.close_frame f t, refl, flush t (require s None) (ap bare same ∙ k.nodes_are) k.frame_is)
      where
        whole_license : (last : Last) (o : Option LicenseTerm) → Fits (machine.Whole t) last o → o ≡ None
        whole_license Added None h = refl
        whole_license Closed None h = refl
        whole_license Added (Some x) h = absurd h
        whole_license Closed (Some x) h = absurd h
        whole_license _ o h = absurd h

-- the licences stand where they stood
pub ended_spans : (s : State) → places_in (all_joined (require s None)) ≡ spans_of s
ended_spans s =
    same_places ((require s None).nodes ++ operators Operator.And s.frame.ands) Operator.Or s.frame.ors
    ∙ same_places (require s None).nodes Operator.And s.frame.ands
    ∙ sym (append-nil (places_in (require s None).nodes)) ∙ required_spans s None

pub starts : Shows machine.Due machine.empty_frame [] start
starts = record { fits = tt; nodes_are = refl; frame_is = refl; frames_are = refl }
