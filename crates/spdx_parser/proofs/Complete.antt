-- What the grammar derives, the machine builds.
use Rattle.std.proofs.Common.{◌≡◌, true, false, List, [], ◌∷◌, Option, Some, refl, ◌∙◌, ap}
use Rattle.spdx_requirement.specs.Rows.{Rows, LicenseRow}
use Rattle.spdx_requirement.specs.Endings.{ends_or_later}
use Rattle.spdx_requirement.specs.Items.{Requirement, LicenseTerm, listed, Addition}
use Rattle.spdx_lexer.specs.declared.token.ParseMode.{ParseMode}
use Rattle.spdx_lexer.specs.Words.{Word, Plus, CloseParen, With, And, Or}
use Rattle.spdx_parser.specs.declared.node.Operator.{Operator}
use Rattle.spdx_parser.specs.Tree.{Tree, Leaf, Join}
use Rattle.spdx_parser.specs.Grammar.{may_stand, later_row, Derives, IsTheTree}
use Rattle.spdx_parser.proofs.Machine
use Rattle.spdx_parser.proofs.Runs
use Rattle.spdx_parser.proofs.Threaded.{LicenseOf, plain, marked, later, named, unknown, AdditionOf, exception, named_addition, unknown_addition, LeafOf, alone, joined, PrimaryOf, leaf, group, AndOf, one_primary, and_more, OrOf, one_and, or_more, threaded}

-- what may follow a chain of OR, a chain of AND, a primary and a licence
abbrev pub AfterOr : List Word → Type 0
AfterOr [] = Unit {0}
AfterOr (CloseParen ∷ ws) = Unit {0}
AfterOr (_ ∷ ws) = ⊥

abbrev pub AfterAnd : List Word → Type 0
AfterAnd (Or ∷ ws) = Unit {0}
AfterAnd ws = AfterOr ws

abbrev pub AfterPrimary : List Word → Type 0
AfterPrimary (And ∷ ws) = Unit {0}
AfterPrimary ws = AfterAnd ws

abbrev pub AfterLicense : List Word → Type 0
AfterLicense (With ∷ ws) = Unit {0}
AfterLicense ws = AfterPrimary ws

abbrev pub in_state : Machine.Part → Machine.Frame → List Machine.Frame → Machine.State
in_state p f fs = record { part = p; frame = f; outer = fs }

module _ (c : Rows) (m : ParseMode) where
  -- what the machine makes of the rest, from a state given by its parts
  abbrev from : Machine.Part → Machine.Frame → List Machine.Frame → List Word → Option Tree
  from p f fs ws = Runs.parsed c m (in_state p f fs) ws

  -- a fresh licence is one where no plus follows
  fresh_named : (r : LicenseRow) (f : Machine.Frame) (fs : List Machine.Frame) (ws : List Word) → AfterLicense ws → from (Machine.Fresh r) f fs ws ≡ from (Machine.Named (listed r false)) f fs ws
  fresh_named r f fs [] h = refl
  fresh_named r f fs (Plus ∷ ws) h = absurd h
  fresh_named r f fs (_ ∷ ws) h = refl

  -- from a licence that may stand
  stands : (r : LicenseRow) (s : Option Machine.State) (ws : List Word) → may_stand m r ≡ true → Runs.built_on (Runs.run c m (Machine.if_may (may_stand m r) s) ws) ≡ Runs.built_on (Runs.run c m s ws)
  stands r s ws h = ap (λ b. Runs.built_on (Runs.run c m (Machine.if_may b s) ws)) h

  license_runs : {ws rest : List Word} {l : LicenseTerm} → LicenseOf c m ws l rest → AfterLicense rest → (f : Machine.Frame) (fs : List Machine.Frame) → from Machine.Due f fs ws ≡ from (Machine.Named l) f fs rest
  license_runs (plain {r = r} {rest = rest} may) h f fs = stands r _ rest may ∙ fresh_named r f fs rest h
  license_runs (marked {r = r} {rest = rest} may other) h f fs =
      stands r _ (Plus ∷ rest) may
      ∙ ap (λ g. Runs.built_on (Runs.run c m (Machine.add_plus c m g r f fs) rest)) other
  license_runs (later {r = r} {next = next} {rest = rest} may gnu allowed bare is) h f fs =
      stands r _ (Plus ∷ rest) may
      ∙ ap (λ g. Runs.built_on (Runs.run c m (Machine.add_plus c m g r f fs) rest)) gnu
      ∙ ap (λ b. Runs.built_on (Runs.run c m (Machine.if_may b (Machine.if_bare (ends_or_later r.name) (Machine.go_later (later_row c r) f fs))) rest)) allowed
      ∙ ap (λ b. Runs.built_on (Runs.run c m (Machine.if_bare b (Machine.go_later (later_row c r) f fs)) rest)) bare
      ∙ ap (λ o. Runs.built_on (Runs.run c m (Machine.go_later o f fs) rest)) is
  license_runs named h f fs = refl
  license_runs unknown h f fs = refl

  addition_runs : {ws rest : List Word} {a : Addition} → AdditionOf ws a rest → (l : LicenseTerm) (f : Machine.Frame) (fs : List Machine.Frame) → from (Machine.Joined l) f fs ws ≡ from (Machine.Whole (Machine.joined_leaf l a)) f fs rest
  addition_runs exception l f fs = refl
  addition_runs named_addition l f fs = refl
  addition_runs unknown_addition l f fs = refl

  -- a licence is a primary where no WITH follows
  named_whole : (l : LicenseTerm) (f : Machine.Frame) (fs : List Machine.Frame) (ws : List Word) → AfterPrimary ws → from (Machine.Named l) f fs ws ≡ from (Machine.Whole (Machine.bare_leaf l)) f fs ws
  named_whole l f fs [] h = refl
  named_whole l f fs (With ∷ ws) h = absurd h
  named_whole l f fs (_ ∷ ws) h = refl

  primary_license : (ws : List Word) → AfterPrimary ws → AfterLicense ws
  primary_license [] h = h
  primary_license (With ∷ ws) h = absurd h
  primary_license (_ ∷ ws) h = h

  and_primary : (ws : List Word) → AfterAnd ws → AfterPrimary ws
  and_primary [] h = h
  and_primary (And ∷ ws) h = absurd h
  and_primary (_ ∷ ws) h = h

  or_and : (ws : List Word) → AfterOr ws → AfterAnd ws
  or_and [] h = h
  or_and (Or ∷ ws) h = absurd h
  or_and (_ ∷ ws) h = h

  -- the right end of a chain takes its left side
  take_and : (t u : Tree) (f : Machine.Frame) (fs : List Machine.Frame) (ws : List Word) → AfterAnd ws → from (Machine.Whole u) (record { ors = f.ors; ands = t ∷ f.ands }) fs ws ≡ from (Machine.Whole (Join Operator.And t u)) f fs ws
  take_and t u f fs [] h = refl
  take_and t u f fs (Or ∷ ws) h = refl
  take_and t u f fs (CloseParen ∷ ws) h = refl
  take_and t u f fs (_ ∷ ws) h = absurd h

  take_or : (t u : Tree) (ors : List Tree) (fs : List Machine.Frame) (ws : List Word) → AfterOr ws → from (Machine.Whole u) (record { ors = t ∷ ors; ands = [] }) fs ws ≡ from (Machine.Whole (Join Operator.Or t u)) (record { ors = ors; ands = [] }) fs ws
  take_or t u ors fs [] h = refl
  take_or t u ors fs (CloseParen ∷ ws) h = refl
  take_or t u ors fs (_ ∷ ws) h = absurd h

  leaf_runs : {ws rest : List Word} {r : Requirement} → LeafOf c m ws r rest → AfterPrimary rest → (f : Machine.Frame) (fs : List Machine.Frame) → from Machine.Due f fs ws ≡ from (Machine.Whole (Leaf r)) f fs rest
  leaf_runs (alone {rest = rest} {l = l} d) h f fs = license_runs d (primary_license rest h) f fs ∙ named_whole l f fs rest h
  leaf_runs (joined {l = l} d e) h f fs = license_runs d tt f fs ∙ addition_runs e l f fs

  mutual
    primary_runs : {ws rest : List Word} {t : Tree} → PrimaryOf c m ws t rest → AfterPrimary rest → (f : Machine.Frame) (fs : List Machine.Frame) → from Machine.Due f fs ws ≡ from (Machine.Whole t) f fs rest
    primary_runs (leaf d) h f fs = leaf_runs d h f fs
    primary_runs (group d) h f fs = or_runs d tt [] (f ∷ fs)

    and_runs : {ws rest : List Word} {t : Tree} → AndOf c m ws t rest → AfterAnd rest → (f : Machine.Frame) (fs : List Machine.Frame) → from Machine.Due f fs ws ≡ from (Machine.Whole t) f fs rest
    and_runs (one_primary {rest = rest} d) h f fs = primary_runs d (and_primary rest h) f fs
    and_runs (and_more {rest = rest} {t = t} {u = u} d e) h f fs = primary_runs d tt f fs ∙ and_runs e h (record { ors = f.ors; ands = t ∷ f.ands }) fs ∙ take_and t u f fs rest h

    or_runs : {ws rest : List Word} {t : Tree} → OrOf c m ws t rest → AfterOr rest → (ors : List Tree) (fs : List Machine.Frame) → from Machine.Due (record { ors = ors; ands = [] }) fs ws ≡ from (Machine.Whole t) (record { ors = ors; ands = [] }) fs rest
    or_runs (one_and {rest = rest} d) h ors fs = and_runs d (or_and rest h) (record { ors = ors; ands = [] }) fs
    or_runs (or_more {rest = rest} {t = t} {u = u} d e) h ors fs = and_runs d tt (record { ors = ors; ands = [] }) fs ∙ or_runs e h (t ∷ ors) fs ∙ take_or t u ors fs rest h

  -- what the grammar derives is what the machine builds
  pub complete : (ws : List Word) (t : Tree) → Derives c m ws t → Runs.parsed c m Machine.start ws ≡ Some t
  complete ws t d = or_runs (threaded c m d) tt [] []

  -- words mean one tree at most
  pub unique : (ws : List Word) (t u : Tree) → Derives c m ws t → Derives c m ws u → t ≡ u
  unique ws t u d e =
      let a = complete ws t d in
      let b = complete ws u e in cc

  -- and so a tree that they mean is the one
  pub the_only : (ws : List Word) (t : Tree) → Derives c m ws t → IsTheTree c m ws t
  the_only ws t d = record { derived = d; only = λ other e. unique ws other t e d }
