-- A state goes on as one that keeps no place of a parenthesis.
use Rattle.std.proofs.Common.{◌≡◌, Bool, true, false, List, [], ◌∷◌, length, map, Option, Some, None, option_map, refl, sym, ◌∙◌, ap}
use Rattle.std.specs.Prelude.{if◌then◌else◌}
use Rattle.std.proofs.lemmas.List.{length-map}
use Rattle.spdx_requirement.specs.Rows.{Rows, LicenseRow}
use Rattle.spdx_requirement.specs.Items.{LicenseTerm, listed}
use Rattle.spdx_lexer.specs.declared.token.ParseMode.{ParseMode}
use Rattle.spdx_lexer.specs.Words.{Word, Spdx, LicenseRef, Exception, AdditionRef, Unknown, Plus, OpenParen, CloseParen, With, And, Or, Span}
use Rattle.spdx_parser.specs.declared.frames.Frame.{Frame}
use Rattle.spdx_parser.specs.Last.{Last, Due, Listed, Named, Joined, Added, Closed}
use Rattle.spdx_parser.specs.Grammar.{may_stand}
use Rattle.spdx_parser.specs.Kept.{at_no_place, kept_place}
use Rattle.spdx_parser.specs.State.{State, name_as, require, operate, after_license, read_due, marked, read_listed, read_joined, read_behind, step, close, if_taken}

-- the same, but for the places of parentheses
abbrev pub unplaced : State → State
unplaced s = record s { opened = map (λ (o : Span × Frame). at_no_place o.1) s.opened }

closes : (s : State) (os : List (Span × Frame)) → close (unplaced s) (map (λ (o : Span × Frame). at_no_place o.1) os) ≡ option_map unplaced (close s os)
closes s [] = refl
closes s (o ∷ os) = refl

operates : (s : State) (w : Word) → operate (unplaced s) w ≡ option_map unplaced (operate s w)
operates s And = refl
operates s Or = refl
operates s CloseParen = closes s s.opened
operates s _ = refl

after : (s : State) (w : Word) → after_license (unplaced s) w ≡ option_map unplaced (after_license s w)
after s With = refl
after s w = operates (require s None) w

due : (m : ParseMode) (s : State) (w : Word) (at : Span) → read_due m (unplaced s) w (kept_place w at) ≡ option_map unplaced (read_due m s w at)
due m s (Spdx r) at = go (may_stand m r)
  where
    go : (b : Bool) → (if b then Some (name_as (unplaced s) (Listed r) (listed r false) at) else None) ≡ option_map unplaced (if b then Some (name_as s (Listed r) (listed r false) at) else None)
    go true = refl
    go false = refl
due m s (LicenseRef d n) at = refl
due m s (Unknown n) at = refl
due m s OpenParen at = refl
due m s _ at = refl

behind_listed : (c : Rows) (m : ParseMode) (r : LicenseRow) (s : State) (w : Word) → read_listed c m r (unplaced s) w ≡ option_map unplaced (read_listed c m r s w)
behind_listed c m r s Plus = go (marked c m r)
  where
    go : (o : Option LicenseTerm) → option_map (λ l. name_as (unplaced s) Named l s.place) o ≡ option_map unplaced (option_map (λ l. name_as s Named l s.place) o)
    go None = refl
    go (Some l) = refl
behind_listed c m r s w = after s w

behind_joined : (s : State) (w : Word) → read_joined (unplaced s) w ≡ option_map unplaced (read_joined s w)
behind_joined s (Exception r) = refl
behind_joined s (AdditionRef d n) = refl
behind_joined s (Unknown n) = refl
behind_joined s _ = refl

behind : (c : Rows) (m : ParseMode) (last : Last) (s : State) (w : Word) (at : Span) → read_behind c m last (unplaced s) w (kept_place w at) ≡ option_map unplaced (read_behind c m last s w at)
behind c m Due s w at = due m s w at
behind c m (Listed r) s w at = behind_listed c m r s w
behind c m Joined s w at = behind_joined s w
behind c m Added s w at = operates s w
behind c m Closed s w at = operates s w
behind c m _ s w at = after s w

module _ (c : Rows) (m : ParseMode) (s kept next : State) (w : Word) (at : Span) (shows : unplaced s ≡ kept) where
  steps : step c m kept (w, kept_place w at) ≡ option_map unplaced (step c m s (w, at))
  steps = ap (λ (k : State). step c m k (w, kept_place w at)) (sym shows) ∙ behind c m s.last s w at

  -- where the one goes on, so does the other
  pub taken : step c m kept (w, kept_place w at) ≡ if_taken true next → (k : State) × (step c m s (w, at) ≡ if_taken true k) × (unplaced k ≡ next)
  taken is = go (step c m s (w, at)) refl (sym steps ∙ is)
    where
      go : (o : Option State) → step c m s (w, at) ≡ o → option_map unplaced o ≡ Some next → (k : State) × (step c m s (w, at) ≡ Some k) × (unplaced k ≡ next)
      go None e h = absurd cc
      go (Some k) e h = let same : unplaced k ≡ next = cc in (k, e, same)

  pub kept_refused : step c m kept (w, kept_place w at) ≡ if_taken false next → step c m s (w, at) ≡ None
  kept_refused is = go (step c m s (w, at)) refl (sym steps ∙ is)
    where
      go : (o : Option State) → step c m s (w, at) ≡ o → option_map unplaced o ≡ None → step c m s (w, at) ≡ None
      go None e h = e
      go (Some k) e h = absurd cc

-- as many are open
pub as_long : (s : State) → length (unplaced s).opened ≡ length s.opened
as_long s = length-map s.opened (λ (o : Span × Frame). at_no_place o.1)

pub as_many : (s kept : State) (frames : List Frame) → unplaced s ≡ kept → map at_no_place frames ≡ kept.opened → length frames ≡ length s.opened
as_many s kept frames shows is =
    sym (length-map frames at_no_place) ∙ ap length is ∙ sym (ap (λ (k : State). length k.opened) shows) ∙ as_long s
