-- A device of the proofs: a machine whose frames hold trees, of which the grammar is proved, both ways (`Sound`, `Complete`).
-- What the parser holds, nodes and how many operators wait, goes where this machine goes (`Shown`).
use Rattle.std.specs.Prelude.{Bool, true, false, List, [], ◌∷◌, Option, Some, None}
use Rattle.spdx_requirement.specs.Rows.{Rows, LicenseRow}
use Rattle.spdx_requirement.specs.Flags.{is_gnu}
use Rattle.spdx_requirement.specs.Endings.{ends_or_later}
use Rattle.spdx_requirement.specs.Items.{LicenseTerm, listed, referred, Addition, excepted, added}
use Rattle.spdx_lexer.specs.declared.token.ParseMode.{ParseMode}
use Rattle.spdx_lexer.specs.Words.{Word, Spdx, LicenseRef, Exception, AdditionRef, Unknown, Plus, OpenParen, CloseParen, With, And, Or}
use Rattle.spdx_parser.specs.declared.node.Operator.{Operator}
use Rattle.spdx_parser.specs.Tree.{Tree, Leaf, Join}
use Rattle.spdx_parser.specs.Grammar.{may_stand, later_row}

-- what waits for its right side: the left sides of OR, and above them those of AND, the newest first
pub record Frame : Type 0 where
  pub ors : List Tree
  pub ands : List Tree

abbrev pub empty_frame : Frame
empty_frame = record { ors = []; ands = [] }

-- the tree of a chain, whose left sides are the newest first, and whose last operand is t
abbrev pub fold : Operator → List Tree → Tree → Tree
fold o [] t = t
fold o (l ∷ ls) t = fold o ls (Join o l t)

abbrev pub close_frame : Frame → Tree → Tree
close_frame f t = fold Operator.Or f.ors (fold Operator.And f.ands t)

-- how much of a primary was read
pub data Part : Type 0 where
  -- a licence or a parenthesis is due
  Due : Part
  -- a listed licence, which a plus may follow
  Fresh : LicenseRow → Part
  -- a licence
  Named : LicenseTerm → Part
  -- a licence and WITH
  Joined : LicenseTerm → Part
  -- a primary
  Whole : Tree → Part

-- the part of a primary, the innermost frame, and the frames around it
pub record State : Type 0 where
  pub part : Part
  pub frame : Frame
  pub outer : List Frame

abbrev pub start : State
start = record { part = Due; frame = empty_frame; outer = [] }

abbrev pub goes_to : Part → Frame → List Frame → Option State
goes_to p f fs = Some (record { part = p; frame = f; outer = fs })

abbrev pub if_may : Bool → Option State → Option State
if_may true s = s
if_may false s = None

abbrev pub close_one : Tree → List Frame → Option State
close_one t [] = None
close_one t (f ∷ fs) = goes_to (Whole t) f fs

-- after a primary
abbrev pub operate : Tree → Frame → List Frame → Word → Option State
operate t f fs And = goes_to Due (record { ors = f.ors; ands = t ∷ f.ands }) fs
operate t f fs Or = goes_to Due (record { ors = fold Operator.And f.ands t ∷ f.ors; ands = [] }) fs
operate t f fs CloseParen = close_one (close_frame f t) fs
operate t f fs _ = None

abbrev pub bare_leaf : LicenseTerm → Tree
bare_leaf l = Leaf (record { license = l; addition = None })

abbrev pub joined_leaf : LicenseTerm → Addition → Tree
joined_leaf l a = Leaf (record { license = l; addition = Some a })

abbrev pub after_license : LicenseTerm → Frame → List Frame → Word → Option State
after_license l f fs With = goes_to (Joined l) f fs
after_license l f fs w = operate (bare_leaf l) f fs w

abbrev pub go_later : Option LicenseRow → Frame → List Frame → Option State
go_later None f fs = None
go_later (Some next) f fs = goes_to (Named (listed next false)) f fs

-- a GNU licence whose name has no `-or-later` yet
abbrev pub if_bare : Bool → Option State → Option State
if_bare false s = s
if_bare true s = None

-- a plus, behind a licence that is a GNU one or not
abbrev pub add_plus : Rows → ParseMode → Bool → LicenseRow → Frame → List Frame → Option State
add_plus c m false r f fs = goes_to (Named (listed r true)) f fs
add_plus c m true r f fs = if_may m.allow_postfix_plus_on_gpl (if_bare (ends_or_later r.name) (go_later (later_row c r) f fs))

abbrev pub act : Rows → ParseMode → Part → Frame → List Frame → Word → Option State
act c m Due f fs (Spdx r) = if_may (may_stand m r) (goes_to (Fresh r) f fs)
act c m Due f fs (LicenseRef d n) = goes_to (Named (referred (record { document = d; name = n }))) f fs
act c m Due f fs (Unknown n) = goes_to (Named (referred (record { document = None; name = n }))) f fs
act c m Due f fs OpenParen = goes_to Due empty_frame (f ∷ fs)
act c m Due f fs _ = None
act c m (Fresh r) f fs Plus = add_plus c m (is_gnu r.flags) r f fs
act c m (Fresh r) f fs w = after_license (listed r false) f fs w
act c m (Named l) f fs w = after_license l f fs w
act c m (Joined l) f fs (Exception r) = goes_to (Whole (joined_leaf l (excepted r))) f fs
act c m (Joined l) f fs (AdditionRef d n) = goes_to (Whole (joined_leaf l (added (record { document = d; name = n })))) f fs
act c m (Joined l) f fs (Unknown n) = goes_to (Whole (joined_leaf l (added (record { document = None; name = n })))) f fs
act c m (Joined l) f fs _ = None
act c m (Whole t) f fs w = operate t f fs w

abbrev pub step : Rows → ParseMode → State → Word → Option State
step c m s w = act c m s.part s.frame s.outer w

-- the tree, where the words may end
abbrev pub at_bottom : Tree → List Frame → Option Tree
at_bottom t [] = Some t
at_bottom t (f ∷ fs) = None

abbrev pub finish : Part → Frame → List Frame → Option Tree
finish Due f fs = None
finish (Fresh r) f fs = at_bottom (close_frame f (bare_leaf (listed r false))) fs
finish (Named l) f fs = at_bottom (close_frame f (bare_leaf l)) fs
finish (Joined l) f fs = None
finish (Whole t) f fs = at_bottom (close_frame f t) fs

abbrev pub built : State → Option Tree
built s = finish s.part s.frame s.outer
