-- What comes of what a walk comes to, one after the other.
use Rattle.std.proofs.Common.{◌≡◌, Bool, List, [], ◌∷◌, ◌++◌, Some, None, subst, sym, append_assoc}
use Rattle.std.proofs.lemmas.List.{append-nil}
use Rattle.shelves.specs.Shelf.{Shelved}
use Rattle.source_trees.specs.declared.stops.Stop.{Stop}
use Rattle.source_trees.specs.declared.reading.Taken.{Taken}
use Rattle.source_trees.specs.declared.walk.Seen.{Seen}
use Rattle.source_trees.specs.Walks.{AreTaken, IsNext, nothing_taken, then_taken}
use Rattle.source_trees.proofs.AllBelow.{finished}
use Rattle.spdx_requirement.specs.Rows.{Rows}
use Rattle.fix_program.specs.declared.ends.FileEnd.{FileEnd}
use Rattle.fix_program.specs.Trees as tree
use Rattle.fix_program.specs.Trees.{AddsEnds, AreEnds, AreEndsOf, AreSoFar, AreWalkEnds}

module _ (s : Shelved) (c : Rows) (w : Bool) (t : Taken) where
  behind : {all : List Seen} {ends : List FileEnd} (x : Seen) (own : List FileEnd) → AreEnds s c w t all ends → AreEndsOf s c w t x own → AreEnds s c w t (all ++ x ∷ []) (ends ++ own)
  behind x own tree.none h = subst (λ (es : List FileEnd). AreEnds s c w t (x ∷ []) es) (append-nil own) (tree.next x own h tree.none)
  behind x own (tree.next {all = all} {ends = ends} y first k rest) h =
      subst (λ (es : List FileEnd). AreEnds s c w t (y ∷ (all ++ x ∷ [])) es) (sym (append_assoc first ends own)) (tree.next y first k (behind x own rest h))

  -- a walk is at its beginning
  pub begun : (stops now : List Stop) (ends : List FileEnd) → now ≡ stops → ends ≡ [] → AreSoFar s c w t stops now ends
  begun stops now ends same none_yet = record {
    all = [];
    came = subst (λ (ss : List Stop). AreTaken s stops [] ss) (sym same) nothing_taken;
    are = subst (λ (es : List FileEnd). AreEnds s c w t [] es) (sym none_yet) tree.none;
  }

  -- it came to one thing more
  pub further : (stops now after : List Stop) (x : Seen) (ends new : List FileEnd) → AreSoFar s c w t stops now ends → IsNext s now (Some x) after → AddsEnds s c w t x ends new → AreSoFar s c w t stops after new
  further stops now after x ends new far is adds = record {
    all = far.all ++ x ∷ [];
    came = then_taken x far.came is;
    are = subst (λ (es : List FileEnd). AreEnds s c w t (far.all ++ x ∷ []) es) (sym adds.2) (behind x adds.0 far.are adds.1);
  }

  -- it is at its end
  pub ended : (stops now after : List Stop) (ends : List FileEnd) → AreSoFar s c w t stops now ends → IsNext s now None after → AreWalkEnds s c w t stops ends
  ended stops now after ends far is = (
    far.all,
    finished s stops now far.all far.came is,
    far.are,
  )
