-- What is an entry, and what is none.
use Rattle.std.proofs.Common.{◌≡◌, ℕ, ◌<◌, List, [], ◌∷◌, ◌++◌, Option, Some, None, Result, Ok, Err, length, sym, ap, subst, ◌∙◌, arith}
use Rattle.std.specs.Prelude.{IfOk, IfSome, IfNone}
use Rattle.std.specs.declared.alloc.AllocError.{AllocError}
use Rattle.std.proofs.lemmas.List.{length-append}
use Rattle.spdx_requirement.specs.Rows.{Rows}
use Rattle.spdx_requirement.specs.declared.requirement.LicenseReq.{LicenseReq}
use Rattle.spdx_requirement.specs.Items.{Requirement, requirement_of}
use Rattle.spdx_lexer.specs.Words.{Placed, words}
use Rattle.spdx_parser.specs.declared.node.ExprNode.{ExprNode}
use Rattle.spdx_parser.specs.Tree.{Tree, Leaf, Join, Node, Op, Req, postfix}
use Rattle.spdx_parser.specs.Grammar.{Derives, IsTheTree}
use Rattle.spdx_parser.specs.Meaning.{IsParsed}
use Rattle.spdx_licensee.specs.LicenseeText.{NamesNone}
use Rattle.spdx_licensee.proofs.Unique.{oks_once}
use Rattle.spdx_policy.specs.Meant.{entry_mode, IsOldEntry, licensee, old}
use Rattle.spdx_policy.specs.Old.{IsOneUnmarked}
use Rattle.spdx_policy.specs.Blame.{IsNoEntry}

postfix_some : (t : Tree) → 0 < length (postfix t)
postfix_some (Leaf r) = omega arith
postfix_some (Join o l r) = omega (arith, length-append (postfix l) (postfix r ++ Op o ∷ []), length-append (postfix r) (Op o ∷ []), postfix_some l)

req_once : (r q : Requirement) → (let ns : List Node = Req r ∷ [] in ns) ≡ Req q ∷ [] → r ≡ q
req_once r q e = cc

-- a tree whose postfix list is one requirement is that requirement
one_leaf : (t : Tree) (q : Requirement) → postfix t ≡ Req q ∷ [] → t ≡ Leaf q
one_leaf (Leaf r) q e = ap Leaf (req_once r q e)
one_leaf (Join o l r) q e =
    let many : length (postfix (Join o l r)) ≡ 1 = ap (λ (ns : List Node). length ns) e in
    absurd (omega (arith, many, length-append (postfix l) (postfix r ++ Op o ∷ []), length-append (postfix r) (Op o ∷ []), postfix_some l, postfix_some r))

one_old : (c : Rows) (text : List ℕ) (nodes : List ExprNode) (q : Requirement) → IsParsed c entry_mode text nodes → IsOneUnmarked nodes q → IsOldEntry c text q
one_old c text nodes q v one = record {
  read = v.read;
  reads = v.reads;
  means = subst (λ (t : Tree). IsTheTree c entry_mode (words v.read) t) (one_leaf v.tree q (sym v.nodes_are ∙ one.nodes_are)) v.meant;
  unmarked = one.unmarked;
}

old_one : (c : Rows) (text : List ℕ) (nodes : List ExprNode) (q : Requirement) → IsParsed c entry_mode text nodes → IsOldEntry c text q → IsOneUnmarked nodes q
old_one c text nodes q v h =
    let read : h.read ≡ v.read = oks_once h.read v.read (sym h.reads ∙ v.reads) in
    let leaf : Leaf q ≡ v.tree = v.meant.only (Leaf q) (subst (λ (z : List Placed). Derives c entry_mode (words z) (Leaf q)) read h.means.derived) in
    record { nodes_are = v.nodes_are ∙ ap postfix (sym leaf); unmarked = h.unmarked }

pub old_some : (c : Rows) (text : List ℕ) (nodes : List ExprNode) (r : Result (Option LicenseReq) AllocError) → IsParsed c entry_mode text nodes
    → IfOk r (λ f. IfSome f (λ q. IsOneUnmarked nodes (requirement_of q))) → IfOk r (λ f. IfSome f (λ q. IsOldEntry c text (requirement_of q)))
old_some c text nodes (Ok (Some q)) v h = one_old c text nodes (requirement_of q) v h
old_some c text nodes (Ok None) v h = tt
old_some c text nodes (Err e) v h = tt

pub old_none : (c : Rows) (text : List ℕ) (nodes : List ExprNode) (r : Result (Option LicenseReq) AllocError) → IsParsed c entry_mode text nodes
    → IfOk r (λ f. IfNone f ((q : Requirement) → IsOneUnmarked nodes q → ⊥)) → IfOk r (λ f. IfNone f ((q : Requirement) → IsOldEntry c text q → ⊥))
old_none c text nodes (Ok None) v h = λ q k. h q (old_one c text nodes q v k)
old_none c text nodes (Ok (Some q)) v h = tt
old_none c text nodes (Err e) v h = tt

-- a text that names no licensee, nor anything under a deprecated name, is no entry
pub none_at_all : (c : Rows) (text : List ℕ) → NamesNone c text → ((r : Requirement) → IsOldEntry c text r → ⊥) → IsNoEntry c text
none_at_all c text none none_old r (licensee h) = none r h
none_at_all c text none none_old r (old also h) = none_old r h

-- what an answer says that is none
pub of_none : {A : Type 0} (P : Type 0) (o : Option A) → o ≡ None → IfNone o P → P
of_none P None e h = h
of_none P (Some x) e h = absurd (cc)
