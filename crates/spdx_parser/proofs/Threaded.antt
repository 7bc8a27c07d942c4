-- The grammar with what follows carried along: `OrOf c m ws t rest` says that a front of ws means the tree t, and
-- that rest is what follows it. So a machine that reads word by word can be compared with it.
use Rattle.std.proofs.Common.{◌≡◌, ℕ, true, false, List, [], ◌∷◌, ◌++◌, Option, Some, None, refl, sym, ◌∙◌, ap, subst, append_assoc, append-nil}
use Rattle.spdx_requirement.specs.Rows.{Rows, LicenseRow, ExceptionRow}
use Rattle.spdx_requirement.specs.Flags.{is_gnu}
use Rattle.spdx_requirement.specs.Endings.{ends_or_later}
use Rattle.spdx_requirement.specs.Items.{LicenseTerm, listed, referred, Addition, excepted, added, Requirement}
use Rattle.spdx_lexer.specs.declared.token.ParseMode.{ParseMode}
use Rattle.spdx_lexer.specs.Words.{Word, Spdx, LicenseRef, Exception, AdditionRef, Unknown, Plus, OpenParen, CloseParen, With, And, Or}
use Rattle.spdx_parser.specs.declared.node.Operator.{Operator}
use Rattle.spdx_parser.specs.Tree.{Tree, Leaf, Join}
use Rattle.spdx_parser.specs.Grammar.{may_stand, later_row}
use Rattle.spdx_parser.specs.Grammar as Grammar

-- a licence
pub data LicenseOf (c : Rows) (m : ParseMode) : List Word → LicenseTerm → List Word → Type 0 where
  plain : {r : LicenseRow} {rest : List Word} → may_stand m r ≡ true → LicenseOf c m (Spdx r ∷ rest) (listed r false) rest
  marked : {r : LicenseRow} {rest : List Word} → may_stand m r ≡ true → is_gnu r.flags ≡ false → LicenseOf c m (Spdx r ∷ Plus ∷ rest) (listed r true) rest
  later : {r next : LicenseRow} {rest : List Word} → may_stand m r ≡ true → is_gnu r.flags ≡ true → m.allow_postfix_plus_on_gpl ≡ true → ends_or_later r.name ≡ false → later_row c r ≡ Some next → LicenseOf c m (Spdx r ∷ Plus ∷ rest) (listed next false) rest
  named : {d : Option (List ℕ)} {n : List ℕ} {rest : List Word} → LicenseOf c m (LicenseRef d n ∷ rest) (referred (record { document = d; name = n })) rest
  unknown : {n : List ℕ} {rest : List Word} → LicenseOf c m (Unknown n ∷ rest) (referred (record { document = None; name = n })) rest

-- an addition
pub data AdditionOf : List Word → Addition → List Word → Type 0 where
  exception : {r : ExceptionRow} {rest : List Word} → AdditionOf (Exception r ∷ rest) (excepted r) rest
  named_addition : {d : Option (List ℕ)} {n : List ℕ} {rest : List Word} → AdditionOf (AdditionRef d n ∷ rest) (added (record { document = d; name = n })) rest
  unknown_addition : {n : List ℕ} {rest : List Word} → AdditionOf (Unknown n ∷ rest) (added (record { document = None; name = n })) rest

-- a licence, perhaps with an addition
pub data LeafOf (c : Rows) (m : ParseMode) : List Word → Requirement → List Word → Type 0 where
  alone : {ws rest : List Word} {l : LicenseTerm} → LicenseOf c m ws l rest → LeafOf c m ws (record { license = l; addition = None }) rest
  joined : {ws mid rest : List Word} {l : LicenseTerm} {a : Addition} → LicenseOf c m ws l (With ∷ mid) → AdditionOf mid a rest → LeafOf c m ws (record { license = l; addition = Some a }) rest

mutual
  -- a leaf, or an expression in parentheses
  pub data PrimaryOf (c : Rows) (m : ParseMode) : List Word → Tree → List Word → Type 0 where
    leaf : {ws rest : List Word} {r : Requirement} → LeafOf c m ws r rest → PrimaryOf c m ws (Leaf r) rest
    group : {ws rest : List Word} {t : Tree} → OrOf c m ws t (CloseParen ∷ rest) → PrimaryOf c m (OpenParen ∷ ws) t rest

  -- a chain of AND
  pub data AndOf (c : Rows) (m : ParseMode) : List Word → Tree → List Word → Type 0 where
    one_primary : {ws rest : List Word} {t : Tree} → PrimaryOf c m ws t rest → AndOf c m ws t rest
    and_more : {ws mid rest : List Word} {t u : Tree} → PrimaryOf c m ws t (And ∷ mid) → AndOf c m mid u rest → AndOf c m ws (Join Operator.And t u) rest

  -- a chain of OR
  pub data OrOf (c : Rows) (m : ParseMode) : List Word → Tree → List Word → Type 0 where
    one_and : {ws rest : List Word} {t : Tree} → AndOf c m ws t rest → OrOf c m ws t rest
    or_more : {ws mid rest : List Word} {t u : Tree} → AndOf c m ws t (Or ∷ mid) → OrOf c m mid u rest → OrOf c m ws (Join Operator.Or t u) rest

-- ---- one meaning by both

module _ (c : Rows) (m : ParseMode) where
  license_to : {xs : List Word} {l : LicenseTerm} → Grammar.LicenseIs c m xs l → (rest : List Word) → LicenseOf c m (xs ++ rest) l rest
  license_to (Grammar.plain may) rest = plain may
  license_to (Grammar.marked may other) rest = marked may other
  license_to (Grammar.later may gnu allowed bare is) rest = later may gnu allowed bare is
  license_to Grammar.named rest = named
  license_to Grammar.unknown rest = unknown

  addition_to : {x : Word} {a : Addition} → Grammar.AdditionIs x a → (rest : List Word) → AdditionOf (x ∷ rest) a rest
  addition_to Grammar.exception rest = exception
  addition_to Grammar.named_addition rest = named_addition
  addition_to Grammar.unknown_addition rest = unknown_addition

  leaf_to : {xs : List Word} {r : Requirement} → Grammar.LeafIs c m xs r → (rest : List Word) → LeafOf c m (xs ++ rest) r rest
  leaf_to (Grammar.alone d) rest = alone (license_to d rest)
  leaf_to (Grammar.joined {xs = xs} {x = x} {l = l} {a = a} d e) rest = subst (λ ws. LeafOf c m ws (record { license = l; addition = Some a }) rest) (sym (append_assoc xs (With ∷ x ∷ []) rest)) (joined (license_to d (With ∷ x ∷ rest)) (addition_to e rest))

  mutual
    primary_to : {xs : List Word} {t : Tree} → Grammar.PrimaryIs c m xs t → (rest : List Word) → PrimaryOf c m (xs ++ rest) t rest
    primary_to (Grammar.leaf d) rest = leaf (leaf_to d rest)
    primary_to (Grammar.group {xs = xs} {t = t} d) rest = subst (λ ws. PrimaryOf c m (OpenParen ∷ ws) t rest) (sym (append_assoc xs (CloseParen ∷ []) rest)) (group (or_to d (CloseParen ∷ rest)))

    and_to : {xs : List Word} {t : Tree} → Grammar.AndIs c m xs t → (rest : List Word) → AndOf c m (xs ++ rest) t rest
    and_to (Grammar.one_primary d) rest = one_primary (primary_to d rest)
    and_to (Grammar.and_more {xs = xs} {ys = ys} {t = t} {u = u} d e) rest = subst (λ ws. AndOf c m ws (Join Operator.And t u) rest) (sym (append_assoc xs (And ∷ ys) rest)) (and_more (primary_to d (And ∷ (ys ++ rest))) (and_to e rest))

    or_to : {xs : List Word} {t : Tree} → Grammar.Derives c m xs t → (rest : List Word) → OrOf c m (xs ++ rest) t rest
    or_to (Grammar.one_and d) rest = one_and (and_to d rest)
    or_to (Grammar.or_more {xs = xs} {ys = ys} {t = t} {u = u} d e) rest = subst (λ ws. OrOf c m ws (Join Operator.Or t u) rest) (sym (append_assoc xs (Or ∷ ys) rest)) (or_more (and_to d (Or ∷ (ys ++ rest))) (or_to e rest))

  -- a front of the words, with what the written grammar says of it
  record Front (Says : List Word → Type 0) (ws rest : List Word) : Type 0 where
    xs : List Word
    cut : ws ≡ xs ++ rest
    says : Says xs

  license_back : {ws rest : List Word} {l : LicenseTerm} → LicenseOf c m ws l rest → Front (λ xs. Grammar.LicenseIs c m xs l) ws rest
  license_back (plain may) = record { xs = _; cut = refl; says = Grammar.plain may }
  license_back (marked may other) = record { xs = _; cut = refl; says = Grammar.marked may other }
  license_back (later may gnu allowed bare is) = record { xs = _; cut = refl; says = Grammar.later may gnu allowed bare is }
  license_back named = record { xs = _; cut = refl; says = Grammar.named }
  license_back unknown = record { xs = _; cut = refl; says = Grammar.unknown }

  addition_back : {ws rest : List Word} {a : Addition} → AdditionOf ws a rest → (x : Word) × (ws ≡ x ∷ rest) × Grammar.AdditionIs x a
  addition_back exception = (_, refl, Grammar.exception)
  addition_back named_addition = (_, refl, Grammar.named_addition)
  addition_back unknown_addition = (_, refl, Grammar.unknown_addition)

  leaf_back : {ws rest : List Word} {r : Requirement} → LeafOf c m ws r rest → Front (λ xs. Grammar.LeafIs c m xs r) ws rest
  leaf_back (alone d) = let f = license_back d in record { xs = f.xs; cut = f.cut; says = Grammar.alone f.says }
  leaf_back (joined {rest = rest} d e) =
      let f = license_back d in
      let (x, at, is) = addition_back e in
      record { xs = f.xs ++ With ∷ x ∷ []; cut = f.cut ∙ ap (λ ws. f.xs ++ With ∷ ws) at ∙ sym (append_assoc f.xs (With ∷ x ∷ []) rest); says = Grammar.joined f.says is }

  mutual
    primary_back : {ws rest : List Word} {t : Tree} → PrimaryOf c m ws t rest → Front (λ xs. Grammar.PrimaryIs c m xs t) ws rest
    primary_back (leaf d) = let f = leaf_back d in record { xs = f.xs; cut = f.cut; says = Grammar.leaf f.says }
    primary_back (group {rest = rest} d) =
        let f = or_back d in
        record { xs = OpenParen ∷ (f.xs ++ CloseParen ∷ []); cut = ap (λ ws. OpenParen ∷ ws) (f.cut ∙ sym (append_assoc f.xs (CloseParen ∷ []) rest)); says = Grammar.group f.says }

    and_back : {ws rest : List Word} {t : Tree} → AndOf c m ws t rest → Front (λ xs. Grammar.AndIs c m xs t) ws rest
    and_back (one_primary d) = let f = primary_back d in record { xs = f.xs; cut = f.cut; says = Grammar.one_primary f.says }
    and_back (and_more {rest = rest} d e) =
        let f = primary_back d in
        let g = and_back e in
        record { xs = f.xs ++ And ∷ g.xs; cut = f.cut ∙ ap (λ ws. f.xs ++ And ∷ ws) g.cut ∙ sym (append_assoc f.xs (And ∷ g.xs) rest); says = Grammar.and_more f.says g.says }

    or_back : {ws rest : List Word} {t : Tree} → OrOf c m ws t rest → Front (λ xs. Grammar.Derives c m xs t) ws rest
    or_back (one_and d) = let f = and_back d in record { xs = f.xs; cut = f.cut; says = Grammar.one_and f.says }
    or_back (or_more {rest = rest} d e) =
        let f = and_back d in
        let g = or_back e in
        record { xs = f.xs ++ Or ∷ g.xs; cut = f.cut ∙ ap (λ ws. f.xs ++ Or ∷ ws) g.cut ∙ sym (append_assoc f.xs (Or ∷ g.xs) rest); says = Grammar.or_more f.says g.says }

  -- the words of an expression, with nothing behind them
  pub threaded : {ws : List Word} {t : Tree} → Grammar.Derives c m ws t → OrOf c m ws t []
  threaded {ws = ws} {t = t} d = subst (λ xs. OrOf c m xs t []) (append-nil ws) (or_to d [])

  pub derives : {ws : List Word} {t : Tree} → OrOf c m ws t [] → Grammar.Derives c m ws t
  derives {t = t} d = let f = or_back d in subst (λ xs. Grammar.Derives c m xs t) (sym (f.cut ∙ append-nil f.xs)) f.says
