-- What the parser holds behind some words, and what one more makes of it. The grammar says what
-- that has to come to.
use Rattle.std.specs.Prelude.{ℕ, ◌+◌, Bool, true, false, not, ◌&&◌, List, [], ◌∷◌, ◌++◌, replicate, Option, Some, None, option_map, if◌then◌else◌}
use Rattle.spdx_requirement.specs.Rows.{Rows, LicenseRow}
use Rattle.spdx_requirement.specs.Flags.{is_gnu}
use Rattle.spdx_requirement.specs.Endings.{ends_or_later}
use Rattle.spdx_requirement.specs.Items.{LicenseTerm, listed, referred, Addition, excepted, added}
use Rattle.spdx_lexer.specs.declared.token.ParseMode.{ParseMode}
use Rattle.spdx_lexer.specs.Words.{Word, Spdx, LicenseRef, Exception, AdditionRef, Unknown, Plus, OpenParen, CloseParen, With, And, Or, Span, span, Placed}
use Rattle.spdx_parser.specs.declared.node.Operator.{Operator}
use Rattle.spdx_parser.specs.declared.frames.Frame.{Frame}
use Rattle.spdx_parser.specs.Frames.{empty_frame}
use Rattle.spdx_parser.specs.Tree.{Op, Req}
use Rattle.spdx_parser.specs.Nodes.{PlacedNode}
use Rattle.spdx_parser.specs.Grammar.{may_stand, later_row}
use Rattle.spdx_parser.specs.Last.{Last, Due, Listed, Unlisted, Named, Joined, Added, Closed}

-- what is held behind some words
pub record State : Type 0 where
  -- what was read last
  pub last : Last
  -- the licence that is no requirement yet
  pub license : Option LicenseTerm
  -- where the last licence stands
  pub place : Span
  -- the nodes
  pub nodes : List PlacedNode
  -- how many left sides wait for their right side
  pub frame : Frame
  -- the parentheses that are open, the innermost first, each with its place and the frame that it
  -- stands in
  pub opened : List (Span × Frame)

-- behind no word
abbrev pub start : State
start =
    record {
      last = Due;
      license = None;
      place = span 0 0;
      nodes = [];
      frame = empty_frame;
      opened = [];
    }

-- an operator, so many times
abbrev pub operators : Operator → ℕ → List PlacedNode
operators o n = replicate n (Op o, None)

-- a licence, which stands there, is what was read last
abbrev pub name_as : State → Last → LicenseTerm → Span → State
name_as s last l at = record s { last = last; license = Some l; place = at }

-- the nodes with the operators that wait
abbrev pub all_joined : State → List PlacedNode
all_joined s = (s.nodes ++ operators Operator.And s.frame.ands) ++ operators Operator.Or s.frame.ors

-- the requirement of a licence at a place, and its addition
abbrev pub leaf_of : Option LicenseTerm → Span → Option Addition → List PlacedNode
leaf_of None at a = []
leaf_of (Some l) at a = (Req (record { license = l; addition = a }), Some at) ∷ []

-- the licence becomes a requirement, with this addition; what may follow is what may follow an
-- addition
abbrev pub require : State → Option Addition → State
require s a =
    record s { last = Added; license = None; nodes = s.nodes ++ leaf_of s.license s.place a }

-- a `)` closes the innermost parenthesis
abbrev pub close : State → List (Span × Frame) → Option State
close s [] = None
close s (o ∷ outer) =
    Some (record s { last = Closed; nodes = all_joined s; frame = o.1; opened = outer })

-- behind a requirement or `)`
abbrev pub operate : State → Word → Option State
operate s And =
    Some (record s { last = Due; frame = record { ors = s.frame.ors; ands = s.frame.ands + 1 } })
operate s Or =
    Some (record s {
      last = Due;
      nodes = s.nodes ++ operators Operator.And s.frame.ands;
      frame = record { ors = s.frame.ors + 1; ands = 0 };
    })
operate s CloseParen = close s s.opened
operate s w = None

-- behind a licence
abbrev pub after_license : State → Word → Option State
after_license s With = Some (record s { last = Joined })
after_license s w = operate (require s None) w

-- where a licence or `(` is due
abbrev pub read_due : ParseMode → State → Word → Span → Option State
read_due m s (Spdx r) at =
    if may_stand m r then Some (name_as s (Listed r) (listed r false) at) else None
read_due m s (LicenseRef d n) at =
    Some (name_as s Named (referred (record { document = d; name = n })) at)
read_due m s (Unknown n) at =
    Some (name_as s Unlisted (referred (record { document = None; name = n })) at)
read_due m s OpenParen at =
    Some (record s { last = Due; frame = empty_frame; opened = (at, s.frame) ∷ s.opened })
read_due m s w at = None

-- a listed licence with its `+`
abbrev pub marked : Rows → ParseMode → LicenseRow → Option LicenseTerm
marked c m r =
    if is_gnu r.flags then (if m.allow_postfix_plus_on_gpl && not (ends_or_later r.name)
    then option_map (λ (next : LicenseRow). listed next false) (later_row c r) else None)
    else Some (listed r true)

-- behind a listed licence
abbrev pub read_listed : Rows → ParseMode → LicenseRow → State → Word → Option State
read_listed c m r s Plus = option_map (λ l. name_as s Named l s.place) (marked c m r)
read_listed c m r s w = after_license s w

-- behind WITH
abbrev pub read_joined : State → Word → Option State
read_joined s (Exception r) = Some (require s (Some (excepted r)))
read_joined s (AdditionRef d n) =
    Some (require s (Some (added (record { document = d; name = n }))))
read_joined s (Unknown n) = Some (require s (Some (added (record { document = None; name = n }))))
read_joined s w = None

-- behind such a one
abbrev pub read_behind : Rows → ParseMode → Last → State → Word → Span → Option State
read_behind c m Due s w at = read_due m s w at
read_behind c m (Listed r) s w at = read_listed c m r s w
read_behind c m Joined s w at = read_joined s w
read_behind c m Added s w at = operate s w
read_behind c m Closed s w at = operate s w
read_behind c m last s w at = after_license s w

-- one more word
abbrev pub step : Rows → ParseMode → State → Placed → Option State
step c m s p = read_behind c m s.last s p.0 p.1

-- what a call answers: the state, where the word was taken
abbrev pub if_taken : Bool → State → Option State
if_taken true s = Some s
if_taken false s = None
