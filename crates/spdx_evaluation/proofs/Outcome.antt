-- What `outcome` finds is what the grammar and the table of faults say, and nothing else.
use Rattle.std.proofs.Common.{◌≡◌, ℕ, Bool, true, false, List, [], ◌∷◌, ◌++◌, map, length, Option, Some, None, Ok, Err, refl, sym, ◌∙◌, ap, subst}
use Rattle.std.specs.Prelude.{◌==◌, if◌then◌else◌}
use Rattle.spdx_requirement.specs.Rows.{Rows}
use Rattle.spdx_lexer.specs.declared.token.ParseMode.{ParseMode}
use Rattle.spdx_lexer.specs.Words.{Fault, Unexpected, Span, span, Item, Placed, words}
use Rattle.spdx_lexer.specs.Reading.{reading}
use Rattle.spdx_parser.specs.Tree.{Tree}
use Rattle.spdx_parser.specs.Last.{is_closing, terms}
use Rattle.spdx_parser.specs.Grammar.{Derives, IsTheTree}
use Rattle.spdx_parser.specs.Faults.{fault_behind, IsFaultOf}
use Rattle.spdx_parser.specs.State.{State, start, step}
use Rattle.spdx_parser.proofs.Shown.{places_of}
use Rattle.spdx_parser.proofs.Loop.{Reads, nothing_read, takes, stops, lexes_no_more, all_read, ends_empty, ends_short, ends_open, ends_in_tree, same_words, fault_no_tree}
use Rattle.spdx_parser.proofs.OneFault.{one_fault}
use Rattle.spdx_evaluation.specs.Postfix.{tree_of}
use Rattle.spdx_evaluation.specs.PostfixLaws.{tree_of_postfix}
use Rattle.spdx_evaluation.specs.Outcome.{Outcome, ended, at_end, behind_word, outcome_behind, outcome_of, outcome}

module _ (c : Rows) (m : ParseMode) (text : List ℕ) where
  abbrev pub Means : Outcome → Type 0
  Means (Ok t) = (read : List Placed) × (reading c m 0 text ≡ map Ok read) × IsTheTree c m (words read) t
  Means (Err fault) = IsFaultOf c m text fault.0 fault.1

  -- ---- what is found is so

  end_means : (read : List Placed) (s : State) → Reads c m text read [] false s → Means (at_end (length text) s)
  end_means read s r = at (is_closing s.last) refl
    where
      ended_means : is_closing s.last ≡ true → (places : List Span) → places_of s ≡ places → Means (ended s places)
      ended_means closing [] none =
          let (t, meant, nodes) = ends_in_tree c m text read [] false s r refl closing none in
          subst Means (ap (λ (u : Tree). let o : Outcome = Ok u in o) (sym (ap tree_of nodes ∙ tree_of_postfix t))) (read, all_read c m text read [] false s r refl, meant)
      ended_means closing (place ∷ outer) is = ends_open c m text read [] false s r refl place outer closing is

      at : (b : Bool) → is_closing s.last ≡ b → Means (if b then ended s (places_of s) else Err (Unexpected (terms s.last), span (length text) 0))
      at true closing = ended_means closing (places_of s) refl
      at false closing = ends_short c m text read [] false s r refl refl closing

  -- of these items behind any words
  abbrev Goes : List Item → Type 0
  Goes items = (read : List Placed) (s : State) → Reads c m text read items false s → Means (outcome_behind c m (length text) items s)

  word_means : (p : Placed) (items : List Item) → Goes items → (read : List Placed) (is_empty : Bool) (s : State) → Reads c m text read (Ok p ∷ items) is_empty s →
      (o : Option State) → step c m s p ≡ o → Means (behind_word (fault_behind m s.last (length s.opened == 0) p.0, p.1) o (λ next. outcome_behind c m (length text) items next))
  word_means p items go read is_empty s r None n = stops c m text read (Ok p ∷ items) is_empty s r p.0 p.1 items s (length s.opened == 0) _ refl n refl refl
  word_means p items go read is_empty s r (Some next) n = go (read ++ p ∷ []) next (takes c m text read (Ok p ∷ items) is_empty s r p.0 p.1 items next refl n)

  behind_means : (items : List Item) → Goes items
  behind_means [] read s r = end_means read s r
  behind_means (Err fault ∷ items) read s r = lexes_no_more c m text read (Err fault ∷ items) false s r fault.0 fault.1 items refl
  behind_means (Ok p ∷ items) read s r = word_means p items (behind_means items) read false s r (step c m s p) refl

  all_means : (items : List Item) → Reads c m text [] items true start → Means (outcome_of c m (length text) items)
  all_means [] r = ends_empty c m text [] [] true start r refl refl
  all_means (Err fault ∷ items) r = lexes_no_more c m text [] (Err fault ∷ items) true start r fault.0 fault.1 items refl
  all_means (Ok p ∷ items) r = word_means p items (behind_means items) [] true start r (step c m start p) refl

  pub outcome_means : Means (outcome c m text)
  unfolding outcome
  outcome_means = all_means (reading c m 0 text) (nothing_read c m text (reading c m 0 text) refl)

  -- ---- what is so is found

  pub tree_found : (read : List Placed) (t : Tree) → reading c m 0 text ≡ map Ok read → Derives c m (words read) t → outcome c m text ≡ Ok t
  tree_found read t r d = go (outcome c m text) outcome_means
    where
      go : (o : Outcome) → Means o → o ≡ Ok t
      go (Ok u) (all, e, meant) =
          let derived = subst (λ (xs : List Placed). Derives c m (words xs) t) (same_words read all (sym r ∙ e)) d in
          ap (λ (x : Tree). let o : Outcome = Ok x in o) (sym (meant.only t derived))
      go (Err fault) h = absurd (fault_no_tree c m text fault.0 fault.1 h read t r d)

  pub fault_found : (f : Fault) (s : Span) → IsFaultOf c m text f s → outcome c m text ≡ Err (f, s)
  fault_found f s h = go (outcome c m text) outcome_means
    where
      go : (o : Outcome) → Means o → o ≡ Err (f, s)
      go (Ok t) (read, e, meant) = absurd (fault_no_tree c m text f s h read t e meant.derived)
      go (Err fault) k = ap (λ (x : Fault × Span). let o : Outcome = Err x in o) (one_fault c m text fault.0 f fault.1 s k h)
