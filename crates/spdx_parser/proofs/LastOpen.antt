-- The search for the last parenthesis that is left open.
use Rattle.std.proofs.Common.{◌≡◌, ℕ, zero, suc, ◌+◌, ◌<◌, ◌≤◌, Bool, true, List, [], ◌∷◌, ◌++◌, length, map, Some, Ok, Err, refl, sym, ◌∙◌, ap, subst, arith, append_assoc, append-nil, length-append}
use Rattle.std.proofs.lemmas.List.{map-append, length-map}
use Rattle.spdx_lexer.specs.Words.{Word, OpenParen, CloseParen, Fault, UnclosedParens, Span, Item, Placed, words}
use Rattle.spdx_requirement.specs.Rows.{Rows}
use Rattle.spdx_lexer.specs.declared.token.ParseMode.{ParseMode}
use Rattle.spdx_parser.specs.declared.frames.Frame.{Frame}
use Rattle.spdx_parser.specs.Last.{is_closing}
use Rattle.spdx_parser.specs.Faults.{IsLastOpen, IsFaultOf}
use Rattle.spdx_parser.specs.Open.{LeavesOpen}
use Rattle.spdx_parser.proofs.Shown.{but_first, move_places, places_of}
use Rattle.spdx_parser.proofs.Seen.{Nest, whole, inside, nest_more, nest_count, opens_bound, last_open, depth, depth_on, depth_front, depth_count, deeper, opens_on, closes_on, words_on}
use Rattle.spdx_parser.specs.State.{State}
use Rattle.spdx_parser.proofs.Loop.{goes_on, no_fault_in, same_words, Reads, ends_open}
use Rattle.spdx_parser.proofs.OneFault.{one_open}

-- ---- how many are left open

lifted : (ws : List Word) (n : ℕ) → depth 0 ws ≡ Some 0 → depth n ws ≡ Some n
lifted ws zero e = e
lifted ws (suc n) e = deeper ws n n (lifted ws n e)

nest_depth : (read : List Placed) (places : List Span) → Nest read places → depth 0 (words read) ≡ Some (length places)
nest_depth read places (whole e) = e
nest_depth read all (inside before behind s places n e cut last) =
    ap (depth 0) (ap words cut ∙ words_on before ((OpenParen, s) ∷ behind))
    ∙ depth_on (words before) (OpenParen ∷ words behind) 0 (length places) (nest_depth before places n)
    ∙ lifted (words behind) (suc (length places)) e
    ∙ ap (λ (xs : List Span). Some (length xs)) (sym last)

pub leaves_open : (read : List Placed) (places : List Span) → Nest read places → LeavesOpen (words read) (length places)
leaves_open read places n = record {
  left = nest_count read places n;
  paired = λ front more cut. let at = depth_front front more 0 (length places) (sym (ap (depth 0) cut) ∙ nest_depth read places n) in let count = depth_count front 0 at.0 at.1 in omega arith;
}

-- ---- the search

-- the count-th from the outermost stands there
pub record Marks (places : List Span) (count : ℕ) (place : Span) : Type 0 where
  pub inner : List Span
  pub outer : List Span
  pub cut : places ≡ inner ++ place ∷ outer
  pub count_is : length outer + 1 ≡ count

-- of the words, those that were seen, what is left of the items, and how many are open now
pub record Seeks (read : List Placed) (count : ℕ) (seen : List Placed) (left : List Item) (now : ℕ) (place : Span) : Type 0 where
  pub so_far : ◌≡◌ {A = List Item} (map Ok read) (map Ok seen ++ left)
  pub places : List Span
  pub nest : Nest seen places
  pub now_is : length places ≡ now
  pub marks : count ≤ now → Marks places count place

pub nothing_seen : (read : List Placed) (count : ℕ) (left : List Item) (place : Span) → 0 < count → left ≡ map Ok read → Seeks read count [] left 0 place
nothing_seen read count left place some is = record { so_far = sym is; places = []; nest = whole refl; now_is = refl; marks = λ le. absurd (omega arith) }

module _ (read : List Placed) (count : ℕ) (seen : List Placed) (left : List Item) (now : ℕ) (place : Span) (r : Seeks read count seen left now place) where
  goes_so_far : (w : Word) (at : Span) (more : List Item) → left ≡ Ok (w, at) ∷ more → ◌≡◌ {A = List Item} (map Ok read) (map Ok (seen ++ (w, at) ∷ []) ++ more)
  goes_so_far w at more is = r.so_far ∙ ap (λ xs. map Ok seen ++ xs) is ∙ sym (append_assoc (map Ok seen) (Ok (w, at) ∷ []) more) ∙ ap (λ xs. xs ++ more) (sym (map-append Ok seen ((w, at) ∷ [])))

  -- a `(` that is the count-th
  pub opens_at : (at : Span) (more : List Item) → left ≡ Ok (OpenParen, at) ∷ more → now + 1 ≡ count → Seeks read count (seen ++ (OpenParen, at) ∷ []) more (now + 1) at
  opens_at at more is same = record {
    so_far = goes_so_far OpenParen at more is;
    places = at ∷ r.places;
    nest = inside seen [] at r.places r.nest refl refl refl;
    now_is = omega (arith, r.now_is);
    marks = λ le. record { inner = []; outer = r.places; cut = refl; count_is = omega (arith, r.now_is) };
  }

  -- another
  pub opens_more : (at : Span) (more : List Item) → left ≡ Ok (OpenParen, at) ∷ more → (now + 1 ≡ count → ⊥) → Seeks read count (seen ++ (OpenParen, at) ∷ []) more (now + 1) place
  opens_more at more is other = record {
    so_far = goes_so_far OpenParen at more is;
    places = at ∷ r.places;
    nest = inside seen [] at r.places r.nest refl refl refl;
    now_is = omega (arith, r.now_is);
    marks = λ le. let m = r.marks (omega (arith, other)) in record { inner = at ∷ m.inner; outer = m.outer; cut = ap (λ xs. at ∷ xs) m.cut; count_is = m.count_is };
  }

  -- there is one to close
  pub one_to_close : (at : Span) (more : List Item) → left ≡ Ok (CloseParen, at) ∷ more → LeavesOpen (words read) count → 0 < now
  one_to_close at more is leaves =
      let rest = goes_on read seen (CloseParen, at) more (r.so_far ∙ ap (λ xs. map Ok seen ++ xs) is) in
      let pairs = leaves.paired (words seen ++ CloseParen ∷ []) rest.0 rest.1 in
      omega (arith, pairs, closes_on (words seen) (CloseParen ∷ []), opens_on (words seen) (CloseParen ∷ []), nest_count seen r.places r.nest, r.now_is)

  -- a `)`
  pub closes_one : (at : Span) (more : List Item) (next : ℕ) → left ≡ Ok (CloseParen, at) ∷ more → next + 1 ≡ now → Seeks read count (seen ++ (CloseParen, at) ∷ []) more next place
  closes_one at more next is e = record {
    so_far = goes_so_far CloseParen at more is;
    places = but_first r.places;
    nest = nest_more seen r.places CloseParen at r.nest (λ same. omega (arith, r.now_is));
    now_is = shorter r.places (r.now_is ∙ sym e);
    marks = λ le. let m = r.marks (omega arith) in inner_left m m.inner m.cut le;
  }
    where
      shorter : (places : List Span) → length places ≡ next + 1 → length (but_first places) ≡ next
      shorter [] h = absurd (omega arith)
      shorter (p ∷ places) h = omega arith

      inner_left : (m : Marks r.places count place) (inner : List Span) → r.places ≡ inner ++ place ∷ m.outer → count ≤ next → Marks (but_first r.places) count place
      inner_left m [] cut le = let long = ap length cut in absurd (omega (arith, m.count_is, r.now_is))
      inner_left m (p ∷ inner) cut le = record { inner = inner; outer = m.outer; cut = ap but_first cut; count_is = m.count_is }

  -- any other word
  pub reads_on : (w : Word) (at : Span) (more : List Item) → left ≡ Ok (w, at) ∷ more → depth 0 (w ∷ []) ≡ Some 0 → move_places w at r.places ≡ r.places → Seeks read count (seen ++ (w, at) ∷ []) more now place
  reads_on w at more is even still = record {
    so_far = goes_so_far w at more is;
    places = r.places;
    nest = subst (Nest (seen ++ (w, at) ∷ [])) still (nest_more seen r.places w at r.nest (λ same. let bad : depth 0 (CloseParen ∷ []) ≡ Some 0 = subst (λ x. depth 0 (x ∷ []) ≡ Some 0) same even in absurd cc));
    now_is = r.now_is;
    marks = r.marks;
  }

  -- as many words as are open were seen
  pub room : (p : Placed) (more : List Item) (n : ℕ) → left ≡ Ok p ∷ more → length read ≤ n → now + 1 ≤ n
  room p more n is le =
      let all = ap length (r.so_far ∙ ap (λ xs. map Ok seen ++ xs) is) ∙ length-append (map Ok seen) (Ok p ∷ more) in
      omega (
        arith,
        all,
        le,
        length-map read (λ (q : Placed). let i : Item = Ok q in i),
        length-map seen (λ (q : Placed). let i : Item = Ok q in i),
        length-map seen (λ (q : Placed). q.0),
        opens_bound (words seen),
        nest_count seen r.places r.nest,
        r.now_is,
      )

  -- each item is a word
  pub no_fault : (x : Fault × Span) (more : List Item) → left ≡ Err x ∷ more → ⊥
  no_fault x more is = no_fault_in read seen x more (r.so_far ∙ ap (λ xs. map Ok seen ++ xs) is)

  pub found : left ≡ [] → 0 < count → LeavesOpen (words read) count → IsLastOpen read place
  found is some leaves =
      let all : read ≡ seen = same_words read seen (r.so_far ∙ ap (λ xs. map Ok seen ++ xs) is ∙ append-nil (map Ok seen)) in
      let nest = subst (λ xs. Nest xs r.places) (sym all) r.nest in
      let same : now ≡ count = omega (arith, leaves.left, nest_count read r.places nest, r.now_is) in
      let m = r.marks (omega arith) in
      first m m.inner m.cut nest same
    where
      first : (m : Marks r.places count place) (inner : List Span) → r.places ≡ inner ++ place ∷ m.outer → Nest read r.places → now ≡ count → IsLastOpen read place
      first m [] cut nest same = last_open read m.outer place (subst (Nest read) cut nest)
      first m (p ∷ inner) cut nest same =
          let long = ap length cut ∙ length-append (p ∷ inner) (place ∷ m.outer) in absurd (omega (arith, m.count_is, r.now_is))

-- ---- the end of a text

module _ (c : Rows) (m : ParseMode) (text : List ℕ) (read : List Placed) (left : List Item) (is_empty : Bool) (s : State) (r : Reads c m text read left is_empty s) (end : left ≡ []) where
  pub ends_unclosed : (place : Span) → is_closing s.last ≡ true → 0 < length s.opened → IsLastOpen read place → IsFaultOf c m text UnclosedParens place
  ends_unclosed place closing lt found = go (places_of s) refl
    where
      go : (places : List Span) → places_of s ≡ places → IsFaultOf c m text UnclosedParens place
      go [] is = let none = length-map s.opened (λ (o : Span × Frame). o.0) in let zero = ap length is in absurd (omega arith)
      go (o ∷ more) is =
          let same = one_open read o place (last_open read more o (subst (Nest read) is r.nest)) found in
          subst (λ (x : Span). IsFaultOf c m text UnclosedParens x) same (ends_open c m text read left is_empty s r end o more closing is)

  pub leaves_frames : (frames : List Frame) → length frames ≡ length s.opened → (n : ℕ) → n ≡ length frames → LeavesOpen (words read) n
  leaves_frames frames many n is =
      subst (LeavesOpen (words read)) (length-map s.opened (λ (o : Span × Frame). o.0) ∙ sym many ∙ sym is) (leaves_open read (places_of s) r.nest)
