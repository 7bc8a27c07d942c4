use Rattle.std.proofs.Common.{◌≡◌, ℕ, List, ◌++◌, ◌∷◌, [], ◌∙◌, sym, ap, append_assoc}
use Rattle.spdx_parser.specs.declared.node.ExprNode.{ExprNode}
use Rattle.spdx_canonical.specs.declared.piece.Piece.{Piece}
use Rattle.spdx_canonical.specs.Plan.{piece_text, pieces_text}
use Rattle.spdx_canonical.proofs.Walk.{pieces_more}
use Rattle.spdx_canonical.proofs.normal.normal_text.Goals as goal

-- a piece goes from the pieces to the text
moved : (ns : List ExprNode) (old new all : List ℕ) (pieces rest : List Piece) (p : Piece) → old ++ pieces_text ns pieces ≡ all → pieces ≡ rest ++ p ∷ [] → new ≡ old ++ piece_text ns p → new ++ pieces_text ns rest ≡ all
moved ns old new all pieces rest p e d n =
    ap (λ (x : List ℕ). x ++ pieces_text ns rest) n ∙ append_assoc old (piece_text ns p) (pieces_text ns rest) ∙ ap (λ (x : List ℕ). old ++ x) (sym (pieces_more ns rest p)) ∙ ap (λ (x : List Piece). old ++ pieces_text ns x) (sym d) ∙ e

pub loop-piece-preserved : goal.loop-piece-preserved
loop-piece-preserved c t e = moved c.args.nodes.now _ _ _ _ _ c.in-Some.piece (c.loop-piece.invariant t e) c.in-Some.ensures.items c.in_ok-put_piece.ensures
