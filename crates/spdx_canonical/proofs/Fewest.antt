-- No words that mean the tree have fewer parentheses than its normal words.
use Rattle.std.proofs.Common.{◌≡◌, ◌+◌, ◌≤◌, true, List, [], ◌∷◌, ◌++◌, Some, arith}
use Rattle.spdx_requirement.specs.Rows.{Rows}
use Rattle.spdx_requirement.specs.Items.{LicenseTerm, Addition, Requirement}
use Rattle.spdx_lexer.specs.declared.token.ParseMode.{ParseMode}
use Rattle.spdx_lexer.specs.Words as Words
use Rattle.spdx_lexer.specs.Words.{Word, CloseParen, With}
use Rattle.spdx_parser.specs.declared.node.Operator.TheVariants.{And, Or}
use Rattle.spdx_parser.specs.Tree.{Tree, Leaf, Join}
use Rattle.spdx_parser.specs.Grammar.{Derives}
use Rattle.spdx_parser.proofs.Threaded.{LicenseOf, plain, marked, later, named, unknown, AdditionOf, exception, named_addition, unknown_addition, LeafOf, alone, joined, PrimaryOf, leaf, group, AndOf, one_primary, and_more, OrOf, one_and, or_more, threaded}
use Rattle.spdx_canonical.specs.Normal.{root, left_in_parens, right_in_parens}
use Rattle.spdx_canonical.specs.NormalLaw.{parens}
use Rattle.spdx_canonical.proofs.Leaves.{license_words, addition_words, requirement_words}
use Rattle.spdx_canonical.proofs.Words.{group_if, normal_words}

parens-append : (xs ys : List Word) → parens (xs ++ ys) ≡ parens xs + parens ys
parens-append [] ys = omega arith
parens-append (x ∷ xs) ys = omega (arith, parens-append xs ys)

abbrev at_primary : Tree → List Word
at_primary t = group_if (left_in_parens And (root t)) (normal_words t)

abbrev at_and : Tree → List Word
at_and t = group_if (right_in_parens And (root t)) (normal_words t)

grouped : (ws : List Word) → parens (group_if true ws) ≡ 2 + parens ws
grouped ws = omega (arith, parens-append ws (CloseParen ∷ []))

-- what a place adds is at most a pair
and_primary : (t : Tree) → parens (at_and t) ≤ parens (at_primary t)
and_primary (Leaf r) = omega arith
and_primary (Join And l r) = omega (arith, grouped (normal_words (Join And l r)))
and_primary (Join Or l r) = omega arith

or_and : (t : Tree) → parens (normal_words t) ≤ parens (at_and t)
or_and (Leaf r) = omega arith
or_and (Join And l r) = omega arith
or_and (Join Or l r) = omega (arith, grouped (normal_words (Join Or l r)))

primary_grouped : (t : Tree) → parens (at_primary t) ≤ 2 + parens (normal_words t)
primary_grouped (Leaf r) = omega arith
primary_grouped (Join And l r) = omega (arith, grouped (normal_words (Join And l r)))
primary_grouped (Join Or l r) = omega (arith, grouped (normal_words (Join Or l r)))

module _ (c : Rows) (m : ParseMode) where
  license_few : {ws rest : List Word} {l : LicenseTerm} → LicenseOf c m ws l rest → parens (license_words l) + parens rest ≤ parens ws
  license_few (plain {rest = rest} p) = omega arith
  license_few (marked {rest = rest} p e) = omega arith
  license_few (later {rest = rest} p e q s k) = omega arith
  license_few (named {rest = rest}) = omega arith
  license_few (unknown {rest = rest}) = omega arith

  addition_few : {ws rest : List Word} {a : Addition} → AdditionOf ws a rest → parens (addition_words (Some a)) + parens rest ≤ parens ws
  addition_few (exception {rest = rest}) = omega arith
  addition_few (named_addition {rest = rest}) = omega arith
  addition_few (unknown_addition {rest = rest}) = omega arith

  leaf_few : {ws rest : List Word} {r : Requirement} → LeafOf c m ws r rest → parens (requirement_words r) + parens rest ≤ parens ws
  leaf_few (alone {ws = ws} {rest = rest} {l = l} d) = omega (arith, license_few d, parens-append (license_words l) [])
  leaf_few (joined {ws = ws} {mid = mid} {rest = rest} {l = l} {a = a} d e) = omega (arith, license_few d, addition_few e, parens-append (license_words l) (addition_words (Some a)))

  mutual
    primary_few : {ws rest : List Word} {t : Tree} → PrimaryOf c m ws t rest → parens (at_primary t) + parens rest ≤ parens ws
    primary_few (leaf d) = leaf_few d
    primary_few (group {ws = ws} {rest = rest} {t = t} d) = omega (arith, or_few d, primary_grouped t)

    and_few : {ws rest : List Word} {t : Tree} → AndOf c m ws t rest → parens (at_and t) + parens rest ≤ parens ws
    and_few (one_primary {ws = ws} {rest = rest} {t = t} d) = omega (arith, primary_few d, and_primary t)
    and_few (and_more {ws = ws} {mid = mid} {rest = rest} {t = t} {u = u} d e) = omega (arith, primary_few d, and_few e, parens-append (at_primary t) (Words.And ∷ at_and u))

    or_few : {ws rest : List Word} {t : Tree} → OrOf c m ws t rest → parens (normal_words t) + parens rest ≤ parens ws
    or_few (one_and {ws = ws} {rest = rest} {t = t} d) = omega (arith, and_few d, or_and t)
    or_few (or_more {ws = ws} {mid = mid} {rest = rest} {t = t} {u = u} d e) = omega (arith, and_few d, or_few e, parens-append (at_and t) (Words.Or ∷ normal_words u))

  pub fewest : (t : Tree) (ws : List Word) → Derives c m ws t → parens (normal_words t) ≤ parens ws
  fewest t ws d = omega (arith, or_few (threaded c m d))
