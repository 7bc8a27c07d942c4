-- What the machine builds, the grammar derives.
use Rattle.std.proofs.Common.{◌≡◌, Bool, true, false, List, [], ◌∷◌, Option, Some, None, refl, subst}
use Rattle.spdx_requirement.specs.Rows.{Rows, LicenseRow}
use Rattle.spdx_requirement.specs.Flags.{is_gnu}
use Rattle.spdx_requirement.specs.Endings.{ends_or_later}
use Rattle.spdx_requirement.specs.Items.{LicenseTerm, listed, Addition, excepted, added}
use Rattle.spdx_lexer.specs.declared.token.ParseMode.{ParseMode}
use Rattle.spdx_lexer.specs.Words.{Word, Spdx, LicenseRef, Exception, AdditionRef, Unknown, Plus, OpenParen, CloseParen, With, And, Or}
use Rattle.spdx_parser.specs.declared.node.Operator.{Operator}
use Rattle.spdx_parser.specs.Tree.{Tree, Join}
use Rattle.spdx_parser.specs.Grammar.{may_stand, later_row, Derives}
use Rattle.spdx_parser.proofs.Machine
use Rattle.spdx_parser.proofs.Runs
use Rattle.spdx_parser.proofs.Machine.{Frame, State, Part, fold}
use Rattle.spdx_parser.proofs.Threaded.{LicenseOf, plain, marked, later, named, unknown, AdditionOf, exception, named_addition, unknown_addition, alone, joined, PrimaryOf, leaf, group, AndOf, one_primary, and_more, OrOf, one_and, or_more, derives}

module _ (c : Rows) (m : ParseMode) where
  -- what may follow a primary with the tree t in its chain of AND, which then has the tree u
  data AndTail : Tree → List Word → Tree → List Word → Type 0 where
    and_end : {t : Tree} {ws : List Word} → AndTail t ws t ws
    and_on : {t u : Tree} {ws rest : List Word} → AndOf c m ws u rest → AndTail t (And ∷ ws) (Join Operator.And t u) rest

  data OrTail : Tree → List Word → Tree → List Word → Type 0 where
    or_end : {t : Tree} {ws : List Word} → OrTail t ws t ws
    or_on : {t u : Tree} {ws rest : List Word} → OrOf c m ws u rest → OrTail t (Or ∷ ws) (Join Operator.Or t u) rest

  -- what may follow a licence in its primary
  data LicenseTail : LicenseTerm → List Word → Tree → List Word → Type 0 where
    license_end : {l : LicenseTerm} {ws : List Word} → LicenseTail l ws (Machine.bare_leaf l) ws
    license_on : {l : LicenseTerm} {a : Addition} {ws rest : List Word} → AdditionOf ws a rest → LicenseTail l (With ∷ ws) (Machine.joined_leaf l a) rest

  -- what may follow a listed licence
  data PlusTail : LicenseRow → List Word → LicenseTerm → List Word → Type 0 where
    plus_end : {r : LicenseRow} {ws : List Word} → PlusTail r ws (listed r false) ws
    plus_marked : {r : LicenseRow} {ws : List Word} → is_gnu r.flags ≡ false → PlusTail r (Plus ∷ ws) (listed r true) ws
    plus_later : {r next : LicenseRow} {ws : List Word} → is_gnu r.flags ≡ true → m.allow_postfix_plus_on_gpl ≡ true → ends_or_later r.name ≡ false → later_row c r ≡ Some next → PlusTail r (Plus ∷ ws) (listed next false) ws

  -- a primary with the tree t is read in the frame f, and the chains that it stands in end where `next` goes on
  record Chains (f : Frame) (next : Tree → List Word → Type 0) (t : Tree) (ws : List Word) : Type 0 where
    all : Tree
    middle : List Word
    ands : AndTail t ws all middle
    whole : Tree
    rest : List Word
    ors : OrTail (fold Operator.And f.ands all) middle whole rest
    goes_on : next (fold Operator.Or f.ors whole) rest

  -- the expression in the innermost frame has the tree t; the frames fs are around it, and `final` is the whole
  abbrev Closes : Tree → List Frame → Tree → List Word → Type 0
  Closes final [] t ws = (ws ≡ []) × (t ≡ final)
  Closes final (f ∷ fs) t ws = (rest : List Word) × (ws ≡ CloseParen ∷ rest) × Chains f (Closes final fs) t rest

  -- the grammar derives `final` from what was read, which led to this state, and ws
  abbrev Completes : Tree → Part → Frame → List Frame → List Word → Type 0
  Completes final Machine.Due f fs ws = (t : Tree) × (rest : List Word) × PrimaryOf c m ws t rest × Chains f (Closes final fs) t rest
  Completes final (Machine.Fresh r) f fs ws = (l : LicenseTerm) × (mid : List Word) × (t : Tree) × (rest : List Word) × PlusTail r ws l mid × LicenseTail l mid t rest × Chains f (Closes final fs) t rest
  Completes final (Machine.Named l) f fs ws = (t : Tree) × (rest : List Word) × LicenseTail l ws t rest × Chains f (Closes final fs) t rest
  Completes final (Machine.Joined l) f fs ws = (a : Addition) × (rest : List Word) × AdditionOf ws a rest × Chains f (Closes final fs) (Machine.joined_leaf l a) rest
  Completes final (Machine.Whole t) f fs ws = Chains f (Closes final fs) t ws

  and_of : {ws mid rest : List Word} {t u : Tree} → PrimaryOf c m ws t mid → AndTail t mid u rest → AndOf c m ws u rest
  and_of p and_end = one_primary p
  and_of p (and_on d) = and_more p d

  or_of : {ws mid rest : List Word} {t u : Tree} → AndOf c m ws t mid → OrTail t mid u rest → OrOf c m ws u rest
  or_of p or_end = one_and p
  or_of p (or_on d) = or_more p d

  primary_of : {ws mid rest : List Word} {l : LicenseTerm} {t : Tree} → LicenseOf c m ws l mid → LicenseTail l mid t rest → PrimaryOf c m ws t rest
  primary_of p license_end = leaf (alone p)
  primary_of p (license_on d) = leaf (joined p d)

  license_of : {r : LicenseRow} {ws rest : List Word} {l : LicenseTerm} → may_stand m r ≡ true → PlusTail r ws l rest → LicenseOf c m (Spdx r ∷ ws) l rest
  license_of may plus_end = plain may
  license_of may (plus_marked other) = marked may other
  license_of may (plus_later gnu allowed bare is) = later may gnu allowed bare is

  pub run_none : (ws : List Word) → Runs.run c m None ws ≡ None
  run_none [] = refl
  run_none (w ∷ ws) = run_none ws

  module _ (final : Tree) where
    -- a word that the machine took leaves what follows it to complete the expression
    abbrev After : Option State → List Word → Type 0
    After None ws = ⊥
    After (Some s) ws = Completes final s.part s.frame s.outer ws

    -- the chains end before this word
    ends_here : (f : Frame) (fs : List Frame) (t : Tree) (ws : List Word) → Closes final fs (Machine.close_frame f t) ws → Chains f (Closes final fs) t ws
    ends_here f fs t ws h = record { all = t; middle = ws; ands = and_end; whole = fold Operator.And f.ands t; rest = ws; ors = or_end; goes_on = h }

    close_law : (t : Tree) (fs : List Frame) (ws : List Word) → After (Machine.close_one t fs) ws → Closes final fs t (CloseParen ∷ ws)
    close_law t [] ws h = absurd h
    close_law t (f ∷ fs) ws h = (ws, refl, h)

    operate_law : (t : Tree) (f : Frame) (fs : List Frame) (w : Word) (ws : List Word) → After (Machine.operate t f fs w) ws → Chains f (Closes final fs) t (w ∷ ws)
    operate_law t f fs And ws h = let k = h.3 in record { all = Join Operator.And t k.all; middle = k.middle; ands = and_on (and_of h.2 k.ands); whole = k.whole; rest = k.rest; ors = k.ors; goes_on = k.goes_on }
    operate_law t f fs Or ws h = let k = h.3 in record { all = t; middle = Or ∷ ws; ands = and_end; whole = Join Operator.Or (fold Operator.And f.ands t) k.whole; rest = k.rest; ors = or_on (or_of (and_of h.2 k.ands) k.ors); goes_on = k.goes_on }
    operate_law t f fs CloseParen ws h = ends_here f fs t (CloseParen ∷ ws) (close_law (Machine.close_frame f t) fs ws h)
    operate_law t f fs _ ws h = absurd h

    license_law : (l : LicenseTerm) (f : Frame) (fs : List Frame) (w : Word) (ws : List Word) → After (Machine.after_license l f fs w) ws → Completes final (Machine.Named l) f fs (w ∷ ws)
    license_law l f fs With ws h = (Machine.joined_leaf l h.0, h.1, license_on h.2, h.3)
    license_law l f fs And ws h = (Machine.bare_leaf l, And ∷ ws, license_end, operate_law (Machine.bare_leaf l) f fs And ws h)
    license_law l f fs Or ws h = (Machine.bare_leaf l, Or ∷ ws, license_end, operate_law (Machine.bare_leaf l) f fs Or ws h)
    license_law l f fs CloseParen ws h = (Machine.bare_leaf l, CloseParen ∷ ws, license_end, operate_law (Machine.bare_leaf l) f fs CloseParen ws h)
    license_law l f fs _ ws h = absurd h

    -- a licence that is not followed by a plus
    fresh_law : (r : LicenseRow) (f : Frame) (fs : List Frame) (ws : List Word) → Completes final (Machine.Named (listed r false)) f fs ws → Completes final (Machine.Fresh r) f fs ws
    fresh_law r f fs ws h = (listed r false, ws, h.0, h.1, plus_end, h.2, h.3)

    row_law : (r : LicenseRow) (f : Frame) (fs : List Frame) (o : Option LicenseRow) (ws : List Word) → is_gnu r.flags ≡ true → m.allow_postfix_plus_on_gpl ≡ true → ends_or_later r.name ≡ false → later_row c r ≡ o → After (Machine.go_later o f fs) ws → Completes final (Machine.Fresh r) f fs (Plus ∷ ws)
    row_law r f fs None ws g a b e h = absurd h
    row_law r f fs (Some next) ws g a b e h = (listed next false, ws, h.0, h.1, plus_later g a b e, h.2, h.3)

    bare_law : (r : LicenseRow) (f : Frame) (fs : List Frame) (b : Bool) (ws : List Word) → is_gnu r.flags ≡ true → m.allow_postfix_plus_on_gpl ≡ true → ends_or_later r.name ≡ b → After (Machine.if_bare b (Machine.go_later (later_row c r) f fs)) ws → Completes final (Machine.Fresh r) f fs (Plus ∷ ws)
    bare_law r f fs false ws g a b h = row_law r f fs (later_row c r) ws g a b refl h
    bare_law r f fs true ws g a b h = absurd h

    gnu_law : (r : LicenseRow) (f : Frame) (fs : List Frame) (b : Bool) (ws : List Word) → is_gnu r.flags ≡ true → m.allow_postfix_plus_on_gpl ≡ b → After (Machine.if_may b (Machine.if_bare (ends_or_later r.name) (Machine.go_later (later_row c r) f fs))) ws → Completes final (Machine.Fresh r) f fs (Plus ∷ ws)
    gnu_law r f fs true ws g a h = bare_law r f fs (ends_or_later r.name) ws g a refl h
    gnu_law r f fs false ws g a h = absurd h

    plus_law : (r : LicenseRow) (gnu : Bool) (f : Frame) (fs : List Frame) (ws : List Word) → is_gnu r.flags ≡ gnu → After (Machine.add_plus c m gnu r f fs) ws → Completes final (Machine.Fresh r) f fs (Plus ∷ ws)
    plus_law r true f fs ws g h = gnu_law r f fs m.allow_postfix_plus_on_gpl ws g refl h
    plus_law r false f fs ws g h = (listed r true, ws, h.0, h.1, plus_marked g, h.2, h.3)

    may_law : (b : Bool) (s : State) (ws : List Word) → After (Machine.if_may b (Some s)) ws → (b ≡ true) × After (Some s) ws
    may_law true s ws h = (refl, h)
    may_law false s ws h = absurd h

    due_law : (r : LicenseRow) (f : Frame) (fs : List Frame) (ws : List Word) → may_stand m r ≡ true → Completes final (Machine.Fresh r) f fs ws → Completes final Machine.Due f fs (Spdx r ∷ ws)
    due_law r f fs ws may h = (h.2, h.3, primary_of (license_of may h.4) h.5, h.6)

    group_law : (f : Frame) (fs : List Frame) (ws : List Word) → Completes final Machine.Due Machine.empty_frame (f ∷ fs) ws → Completes final Machine.Due f fs (OpenParen ∷ ws)
    group_law f fs ws h =
        let k = h.3 in
        let g = k.goes_on in
        (k.whole, g.0, group (subst (λ rest. OrOf c m ws k.whole rest) g.1 (or_of (and_of h.2 k.ands) k.ors)), g.2)

    law : (p : Part) (f : Frame) (fs : List Frame) (w : Word) (ws : List Word) → After (Machine.act c m p f fs w) ws → Completes final p f fs (w ∷ ws)
    law Machine.Due f fs (Spdx r) ws h =
        let may = may_law (may_stand m r) (record { part = Machine.Fresh r; frame = f; outer = fs }) ws h in due_law r f fs ws may.0 may.1
    law Machine.Due f fs (LicenseRef d n) ws h = (h.0, h.1, primary_of named h.2, h.3)
    law Machine.Due f fs (Unknown n) ws h = (h.0, h.1, primary_of unknown h.2, h.3)
    law Machine.Due f fs OpenParen ws h = group_law f fs ws h
    law Machine.Due f fs _ ws h = absurd h
    law (Machine.Fresh r) f fs Plus ws h = plus_law r (is_gnu r.flags) f fs ws refl h
    law (Machine.Fresh r) f fs w ws h = fresh_law r f fs (w ∷ ws) (license_law (listed r false) f fs w ws h)
    law (Machine.Named l) f fs w ws h = license_law l f fs w ws h
    law (Machine.Joined l) f fs (Exception r) ws h = (excepted r, ws, exception, h)
    law (Machine.Joined l) f fs (AdditionRef d n) ws h = (added (record { document = d; name = n }), ws, named_addition, h)
    law (Machine.Joined l) f fs (Unknown n) ws h = (added (record { document = None; name = n }), ws, unknown_addition, h)
    law (Machine.Joined l) f fs _ ws h = absurd h
    law (Machine.Whole t) f fs w ws h = operate_law t f fs w ws h

    -- an end that the machine takes
    bottom_law : (t : Tree) (fs : List Frame) → Machine.at_bottom t fs ≡ Some final → Closes final fs t []
    bottom_law t [] e = (refl, cc)
    bottom_law t (f ∷ fs) e = absurd cc

    end_law : (p : Part) (f : Frame) (fs : List Frame) → Machine.finish p f fs ≡ Some final → Completes final p f fs []
    end_law Machine.Due f fs e = absurd cc
    end_law (Machine.Fresh r) f fs e = let l = listed r false in let t = Machine.bare_leaf l in (l, [], t, [], plus_end, license_end, ends_here f fs t [] (bottom_law _ fs e))
    end_law (Machine.Named l) f fs e = let t = Machine.bare_leaf l in (t, [], license_end, ends_here f fs t [] (bottom_law _ fs e))
    end_law (Machine.Joined l) f fs e = absurd cc
    end_law (Machine.Whole t) f fs e = ends_here f fs t [] (bottom_law _ fs e)

    runs_law : (o : Option State) (ws : List Word) → Runs.built_on (Runs.run c m o ws) ≡ Some final → After o ws
    runs_law None ws e = absurd (let n = run_none ws in let p : Runs.built_on None ≡ Some final = subst (λ o. Runs.built_on o ≡ Some final) n e in cc)
    runs_law (Some s) [] e = end_law s.part s.frame s.outer e
    runs_law (Some s) (w ∷ ws) e = law s.part s.frame s.outer w ws (runs_law (Machine.step c m s w) ws e)

    -- what the machine builds is what the grammar derives
    pub sound : (ws : List Word) → Runs.parsed c m Machine.start ws ≡ Some final → Derives c m ws final
    sound ws e =
        let h = runs_law (Some Machine.start) ws e in
        let k = h.3 in
        let g = k.goes_on in
        derives c m (subst (λ t. OrOf c m ws t []) g.1 (subst (λ rest. OrOf c m ws k.whole rest) g.0 (or_of (and_of h.2 k.ands) k.ors)))
