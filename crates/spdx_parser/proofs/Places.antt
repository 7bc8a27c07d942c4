-- Where the fault of a text and the licences of an expression stand: on boundaries of the text's characters.
use Rattle.std.proofs.Common.{◌≡◌, ℕ, Bool, true, false, List, [], ◌∷◌, length, map, Ok, Err, sym, ◌∙◌, ap, subst, arith, add-zero, zero-add, IsUtf8}
use Rattle.std.specs.Prelude.{if◌then◌else◌}
use Rattle.std.specs.List.{All}
use Rattle.std.proofs.lemmas.List.{map-append}
use Rattle.std.proofs.lemmas.List.Elements.{All-nil, All-cons, All-head, All-tail}
use Rattle.std.proofs.lemmas.Str.{IsCharBoundary-end, IsCharBoundary-start}
use Rattle.spdx_requirement.specs.Rows.{Rows}
use Rattle.spdx_lexer.specs.declared.token.ParseMode.{ParseMode}
use Rattle.spdx_lexer.specs.Words.{OpenParen, Fault, Span, Item, Placed}
use Rattle.spdx_lexer.specs.Reading.{reading}
use Rattle.spdx_lexer.specs.Layout.{IsPlace, place_of}
use Rattle.spdx_lexer.proofs.Laid.{place_among}
use Rattle.spdx_parser.specs.declared.node.ExprNode.{ExprNode}
use Rattle.spdx_parser.specs.Last.{Last, Due, next_last, is_license}
use Rattle.spdx_parser.specs.Spans.{license_spans, requirement_spans}
use Rattle.spdx_parser.specs.Meaning.{IsParsed}
use Rattle.spdx_parser.specs.Faults.{IsEndFault, empty, short, unclosed, IsFaultOf, at_word, at_place, at_end}

module _ (text : List ℕ) (utf8 : IsUtf8 text) where
  end_place : (items : List Item) → All (λ i. IsPlace text (place_of i)) items → (read : List Placed) (f : Fault) (s : Span) → items ≡ map Ok read → IsEndFault (length text) read f s → IsPlace text s
  end_place items all read f s r empty = (omega arith, (IsCharBoundary-start text utf8, rw zero-add (IsCharBoundary-end text)))
  end_place items all read f s r (short n) = (omega arith, (IsCharBoundary-end text, rw add-zero (IsCharBoundary-end text)))
  end_place items all read f s r (unclosed n last) = place_among text last.before (Ok (OpenParen, s)) (map Ok last.behind)
      (subst (All (λ i. IsPlace text (place_of i))) (r ∙ ap (map Ok) last.cut ∙ map-append Ok last.before ((OpenParen, s) ∷ last.behind)) all)

  pub fault_place : (c : Rows) (m : ParseMode) → All (λ i. IsPlace text (place_of i)) (reading c m 0 text) → (f : Fault) (s : Span) → IsFaultOf c m text f s → IsPlace text s
  fault_place c m all f s (at_word read w {s = t} more r b nb) = place_among text read (Ok (w, t)) more (subst (All (λ i. IsPlace text (place_of i))) r all)
  fault_place c m all f s (at_place read {f = g} {s = t} more r b) = place_among text read (Err (g, t)) more (subst (All (λ i. IsPlace text (place_of i))) r all)
  fault_place c m all f s (at_end read {f = g} {s = t} r b n e) = end_place (reading c m 0 text) all read g t r e

-- the licences stand among the words
license_places : (text : List ℕ) (last : Last) (read : List Placed) → All (λ i. IsPlace text (place_of i)) (map Ok read) → All (IsPlace text) (license_spans last read)
license_places text last [] all = All-nil (IsPlace text)
license_places text last (p ∷ read) all =
    pick (is_license last p.0)
    (All-head (λ (i : Item). IsPlace text (place_of i)) (Ok p) (map Ok read) all)
    (license_places text (next_last last p.0) read (All-tail (λ (i : Item). IsPlace text (place_of i)) (Ok p) (map Ok read) all))
  where
    pick : (b : Bool) → IsPlace text p.1 → All (IsPlace text) (license_spans (next_last last p.0) read)
        → All (IsPlace text) (if b then p.1 ∷ license_spans (next_last last p.0) read else license_spans (next_last last p.0) read)
    pick true here rest = All-cons (IsPlace text) p.1 (license_spans (next_last last p.0) read) here rest
    pick false here rest = rest

pub node_places : (c : Rows) (m : ParseMode) (text : List ℕ) → All (λ i. IsPlace text (place_of i)) (reading c m 0 text) → (nodes : List ExprNode) → IsParsed c m text nodes → All (IsPlace text) (requirement_spans nodes)
node_places c m text all nodes p =
    subst (All (IsPlace text)) (sym p.spans_are) (license_places text Due p.read (subst (All (λ i. IsPlace text (place_of i))) p.reads all))
