-- Which words are an expression, and which tree they mean, by the rules
--   Or      : And | And OR Or
--   And     : Primary | Primary AND And
--   Primary : Leaf | ( Or )
--   Leaf    : Licence [ WITH Addition ]
-- So AND binds tighter than OR, and chains of one operator lean right.
use Rattle.std.specs.Prelude.{◌≡◌, ℕ, Bool, true, false, not, ◌||◌, List, [], ◌∷◌, ◌++◌, Option, Some, None}
use Rattle.spdx_requirement.specs.Rows.{Rows, LicenseRow, ExceptionRow}
use Rattle.spdx_requirement.specs.Flags.{is_gnu, is_deprecated}
use Rattle.spdx_requirement.specs.Endings.{or_later, ends_or_later, without_only}
use Rattle.spdx_catalogue.specs.LookUps as LookUps
use Rattle.spdx_requirement.specs.Items.{LicenseTerm, listed, referred, Addition, excepted, added, Requirement}
use Rattle.spdx_lexer.specs.declared.token.ParseMode.{ParseMode}
use Rattle.spdx_lexer.specs.Words.{Word, Spdx, LicenseRef, Exception, AdditionRef, Unknown, Plus, OpenParen, CloseParen, With, And, Or}
use Rattle.spdx_parser.specs.declared.node.Operator.{Operator}
use Rattle.spdx_parser.specs.Tree.{Tree, Leaf, Join}

-- a deprecated licence needs the mode's leave
abbrev pub may_stand : ParseMode → LicenseRow → Bool
may_stand m r = not (is_deprecated r.flags) || m.allow_deprecated

-- the listed licence of that name, a final `-only` taken off, with `-or-later` behind it
abbrev pub later_row : Rows → LicenseRow → Option LicenseRow
later_row c r = LookUps.listed c.licenses (without_only r.name ++ or_later)

-- A listed licence; a `+` directly behind it marks it, but for a GNU licence, which it turns into
-- the one that is listed with `-or-later` in place of `-only`: the mode must allow that, the name
-- must not end in `-or-later`, and the licence that comes of it may be deprecated. Or a reference;
-- an unknown word is one.
pub data LicenseIs (c : Rows) (m : ParseMode) : List Word → LicenseTerm → Type 0 where
  plain : {r : LicenseRow} → may_stand m r ≡ true → LicenseIs c m (Spdx r ∷ []) (listed r false)
  marked : {r : LicenseRow} → may_stand m r ≡ true → is_gnu r.flags ≡ false →
      LicenseIs c m (Spdx r ∷ Plus ∷ []) (listed r true)
  later : {r next : LicenseRow} → may_stand m r ≡ true → is_gnu r.flags ≡ true →
      m.allow_postfix_plus_on_gpl ≡ true → ends_or_later r.name ≡ false →
      later_row c r ≡ Some next → LicenseIs c m (Spdx r ∷ Plus ∷ []) (listed next false)
  named : {d : Option (List ℕ)} {n : List ℕ} →
      LicenseIs c m (LicenseRef d n ∷ []) (referred (record { document = d; name = n }))
  unknown : {n : List ℕ} →
      LicenseIs c m (Unknown n ∷ []) (referred (record { document = None; name = n }))

-- an exception, deprecated or not, or a reference; an unknown word is one
pub data AdditionIs : Word → Addition → Type 0 where
  exception : {r : ExceptionRow} → AdditionIs (Exception r) (excepted r)
  named_addition : {d : Option (List ℕ)} {n : List ℕ} →
      AdditionIs (AdditionRef d n) (added (record { document = d; name = n }))
  unknown_addition : {n : List ℕ} →
      AdditionIs (Unknown n) (added (record { document = None; name = n }))

-- a licence, perhaps with an addition
pub data LeafIs (c : Rows) (m : ParseMode) : List Word → Requirement → Type 0 where
  alone : {xs : List Word} {l : LicenseTerm} → LicenseIs c m xs l →
      LeafIs c m xs (record { license = l; addition = None })
  joined : {xs : List Word} {x : Word} {l : LicenseTerm} {a : Addition} → LicenseIs c m xs l →
      AdditionIs x a → LeafIs c m (xs ++ With ∷ x ∷ []) (record { license = l; addition = Some a })

mutual
  -- a leaf, or an expression in parentheses
  pub data PrimaryIs (c : Rows) (m : ParseMode) : List Word → Tree → Type 0 where
    leaf : {xs : List Word} {r : Requirement} → LeafIs c m xs r → PrimaryIs c m xs (Leaf r)
    group : {xs : List Word} {t : Tree} → Derives c m xs t →
        PrimaryIs c m (OpenParen ∷ (xs ++ CloseParen ∷ [])) t

  -- a chain of AND
  pub data AndIs (c : Rows) (m : ParseMode) : List Word → Tree → Type 0 where
    one_primary : {xs : List Word} {t : Tree} → PrimaryIs c m xs t → AndIs c m xs t
    and_more : {xs ys : List Word} {t u : Tree} → PrimaryIs c m xs t → AndIs c m ys u →
        AndIs c m (xs ++ And ∷ ys) (Join Operator.And t u)

  -- a chain of OR: so the words, all of them, are an expression that means the tree
  pub data Derives (c : Rows) (m : ParseMode) : List Word → Tree → Type 0 where
    one_and : {xs : List Word} {t : Tree} → AndIs c m xs t → Derives c m xs t
    or_more : {xs ys : List Word} {t u : Tree} → AndIs c m xs t → Derives c m ys u →
        Derives c m (xs ++ Or ∷ ys) (Join Operator.Or t u)

-- the words are a beginning of some expression
abbrev pub IsViable : Rows → ParseMode → List Word → Type 0
IsViable c m ws = (more : List Word) × (t : Tree) × Derives c m (ws ++ more) t

-- the words mean t, and no other tree
pub record IsTheTree (c : Rows) (m : ParseMode) (ws : List Word) (t : Tree) : Type 0 where
  pub derived : Derives c m ws t
  pub only : (other : Tree) → Derives c m ws other → other ≡ t
