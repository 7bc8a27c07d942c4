-- Which words stand side by side in an expression, and what a reading says of each.
use Rattle.std.proofs.Common.{◌≡◌, ℕ, Bool, true, false, not, List, [], ◌∷◌, Option, Some, None, refl, ◌∙◌, ap, IfSome}
use Rattle.std.specs.Prelude.{codes}
use Rattle.std.specs.List.{list_all}
use Rattle.spdx_requirement.specs.Rows.{Rows}
use Rattle.spdx_requirement.specs.Flags.{is_gnu}
use Rattle.spdx_catalogue.specs.Names.{is_name_byte}
use Rattle.spdx_catalogue.specs.LookUps as LookUps
use Rattle.spdx_requirement.specs.Items.{LicenseTerm, Addition, Requirement}
use Rattle.spdx_lexer.specs.declared.token.ParseMode.{ParseMode}
use Rattle.spdx_lexer.specs.Words.{Word, Spdx, LicenseRef, Exception, AdditionRef, Unknown, Plus, OpenParen, CloseParen, With, And, Or}
use Rattle.spdx_requirement.specs.Texts.{reference_text}
use Rattle.spdx_parser.specs.Tree.{Tree}
use Rattle.spdx_parser.specs.Grammar.{may_stand, Derives}
use Rattle.spdx_parser.proofs.Threaded.{LicenseOf, plain, marked, later, named, unknown, AdditionOf, exception, named_addition, unknown_addition, LeafOf, alone, joined, PrimaryOf, leaf, group, AndOf, one_primary, and_more, OrOf, one_and, or_more, threaded}
use Rattle.spdx_canonical.proofs.Parts.{is_spdx}

-- whether a name may not stand next
abbrev pub ends_term : Word → Bool
ends_term (Spdx r) = true
ends_term (LicenseRef d y) = true
ends_term (Exception r) = true
ends_term (AdditionRef d y) = true
ends_term (Unknown x) = true
ends_term Plus = true
ends_term _ = false

abbrev pub is_operator_word : Word → Bool
is_operator_word With = true
is_operator_word And = true
is_operator_word Or = true
is_operator_word _ = false

abbrev pub is_with : Word → Bool
is_with With = true
is_with _ = false

-- whether a licence may stand next
abbrev pub takes_license : Word → Bool
takes_license OpenParen = true
takes_license And = true
takes_license Or = true
takes_license _ = false

-- A `+` follows a listed licence, a licence no name and no `WITH`, an addition `WITH`, an operator no operator.
abbrev pub may_follow : Word → Word → Bool
may_follow last Plus = is_spdx last
may_follow last With = not (is_operator_word last)
may_follow last And = not (is_operator_word last)
may_follow last Or = not (is_operator_word last)
may_follow last OpenParen = true
may_follow last CloseParen = true
may_follow last (Spdx r) = takes_license last
may_follow last (LicenseRef d y) = takes_license last
may_follow last (Exception r) = is_with last
may_follow last (AdditionRef d y) = is_with last
may_follow last (Unknown x) = not (ends_term last)

abbrev pub AreApart : Word → List Word → Type 0
AreApart last [] = Unit {0}
AreApart last (w ∷ ws) = (may_follow last w ≡ true) × AreApart w ws

-- a reference of names, which no row has
pub record IsReference (c : Rows) (prefix : List ℕ) (d : Option (List ℕ)) (y : List ℕ) : Type 0 where
  pub name : list_all is_name_byte y ≡ true
  pub document : IfSome d (λ x. list_all is_name_byte x ≡ true)
  pub no_license : LookUps.listed c.licenses (reference_text prefix d y) ≡ None
  pub no_exception : LookUps.listed_exception c.exceptions (reference_text prefix d y) ≡ None

-- what a reading gives of each word
abbrev pub IsRead : Rows → Word → Type 0
IsRead c (Spdx r) = LookUps.listed c.licenses r.name ≡ Some r
IsRead c (Exception r) = (LookUps.listed c.licenses r.name ≡ None) × (LookUps.listed_exception c.exceptions r.name ≡ Some r)
IsRead c (LicenseRef d y) = IsReference c (codes "LicenseRef-") d y
IsRead c (AdditionRef d y) = IsReference c (codes "AdditionRef-") d y
IsRead c (Unknown x) = ⊥
IsRead c _ = Unit {0}

abbrev pub AreRead : Rows → List Word → Type 0
AreRead c [] = Unit {0}
AreRead c (w ∷ ws) = IsRead c w × AreRead c ws

abbrev pub is_gnu_word : Word → Bool
is_gnu_word (Spdx r) = is_gnu r.flags
is_gnu_word _ = false

-- each licence may stand in this mode
abbrev pub MayStand : ParseMode → List Word → Type 0
MayStand m [] = Unit {0}
MayStand m (Spdx r ∷ ws) = (may_stand m r ≡ true) × MayStand m ws
MayStand m (_ ∷ ws) = MayStand m ws

-- ---- the words of a derivation

-- what follows fits behind any word but an operator
abbrev Follows : List Word → Type 0
Follows rest = (last : Word) → is_operator_word last ≡ false → AreApart last rest

module _ (c : Rows) (m : ParseMode) where
  operator_follows : (w : Word) (mid : List Word) → ((last : Word) → may_follow last w ≡ not (is_operator_word last)) → AreApart w mid → Follows (w ∷ mid)
  operator_follows w mid f a last n = (f last ∙ ap not n, a)

  -- a word that takes a licence ends no term
  takes_no_end : (last : Word) → takes_license last ≡ true → not (ends_term last) ≡ true
  takes_no_end OpenParen h = refl
  takes_no_end And h = refl
  takes_no_end Or h = refl
  takes_no_end _ h = absurd cc

  license_apart : {ws rest : List Word} {l : LicenseTerm} → LicenseOf c m ws l rest → Follows rest → (last : Word) → takes_license last ≡ true → AreApart last ws
  license_apart (plain {r = r} p) f last n = (n, f (Spdx r) refl)
  license_apart (marked {r = r} p e) f last n = (n, (refl, f Plus refl))
  license_apart (later {r = r} p e q s l) f last n = (n, (refl, f Plus refl))
  license_apart (named {d = d} {n = y}) f last n = (n, f (LicenseRef d y) refl)
  license_apart (unknown {n = y}) f last n = (takes_no_end last n, f (Unknown y) refl)

  addition_apart : {ws rest : List Word} {a : Addition} → AdditionOf ws a rest → Follows rest → AreApart With ws
  addition_apart (exception {r = r}) f = (refl, f (Exception r) refl)
  addition_apart (named_addition {d = d} {n = y}) f = (refl, f (AdditionRef d y) refl)
  addition_apart (unknown_addition {n = y}) f = (refl, f (Unknown y) refl)

  leaf_apart : {ws rest : List Word} {r : Requirement} → LeafOf c m ws r rest → Follows rest → (last : Word) → takes_license last ≡ true → AreApart last ws
  leaf_apart (alone d) f last n = license_apart d f last n
  leaf_apart (joined {mid = mid} d e) f last n = license_apart d (operator_follows With mid (λ _. refl) (addition_apart e f)) last n

  mutual
    primary_apart : {ws rest : List Word} {t : Tree} → PrimaryOf c m ws t rest → Follows rest → (last : Word) → takes_license last ≡ true → AreApart last ws
    primary_apart (leaf d) f last n = leaf_apart d f last n
    primary_apart (group d) f last n = (refl, or_apart d (λ last n. (refl, f CloseParen refl)) OpenParen refl)

    and_apart : {ws rest : List Word} {t : Tree} → AndOf c m ws t rest → Follows rest → (last : Word) → takes_license last ≡ true → AreApart last ws
    and_apart (one_primary d) f last n = primary_apart d f last n
    and_apart (and_more {mid = mid} d e) f last n = primary_apart d (operator_follows And mid (λ _. refl) (and_apart e f And refl)) last n

    or_apart : {ws rest : List Word} {t : Tree} → OrOf c m ws t rest → Follows rest → (last : Word) → takes_license last ≡ true → AreApart last ws
    or_apart (one_and d) f last n = and_apart d f last n
    or_apart (or_more {mid = mid} d e) f last n = and_apart d (operator_follows Or mid (λ _. refl) (or_apart e f Or refl)) last n

  pub apart : (ws : List Word) (t : Tree) → Derives c m ws t → AreApart OpenParen ws
  apart ws t d = or_apart (threaded c m d) (λ _ _. tt) OpenParen refl

  -- ---- and each of its licences may stand

  license_stands : {ws rest : List Word} {l : LicenseTerm} → LicenseOf c m ws l rest → MayStand m rest → MayStand m ws
  license_stands (plain p) f = (p, f)
  license_stands (marked p e) f = (p, f)
  license_stands (later p e q s l) f = (p, f)
  license_stands named f = f
  license_stands unknown f = f

  addition_stands : {ws rest : List Word} {a : Addition} → AdditionOf ws a rest → MayStand m rest → MayStand m ws
  addition_stands exception f = f
  addition_stands named_addition f = f
  addition_stands unknown_addition f = f

  leaf_stands : {ws rest : List Word} {r : Requirement} → LeafOf c m ws r rest → MayStand m rest → MayStand m ws
  leaf_stands (alone d) f = license_stands d f
  leaf_stands (joined d e) f = license_stands d (addition_stands e f)

  mutual
    primary_stands : {ws rest : List Word} {t : Tree} → PrimaryOf c m ws t rest → MayStand m rest → MayStand m ws
    primary_stands (leaf d) f = leaf_stands d f
    primary_stands (group d) f = or_stands d f

    and_stands : {ws rest : List Word} {t : Tree} → AndOf c m ws t rest → MayStand m rest → MayStand m ws
    and_stands (one_primary d) f = primary_stands d f
    and_stands (and_more d e) f = primary_stands d (and_stands e f)

    or_stands : {ws rest : List Word} {t : Tree} → OrOf c m ws t rest → MayStand m rest → MayStand m ws
    or_stands (one_and d) f = and_stands d f
    or_stands (or_more d e) f = and_stands d (or_stands e f)

  pub stand : (ws : List Word) (t : Tree) → Derives c m ws t → MayStand m ws
  stand ws t d = or_stands (threaded c m d) tt
