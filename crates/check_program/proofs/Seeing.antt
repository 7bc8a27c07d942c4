-- Troubles that are told, one after the other.
use Rattle.std.proofs.Common.{◌≡◌, ◌∙◌, refl, sym, subst, ap, ℕ, Bool, false, ◌||◌, List, [], ◌∷◌, ◌++◌, String, map}
use Rattle.std.specs.declared.alloc.Global.{Global}
use Rattle.std.specs.List.{list_any}
use Rattle.std.proofs.lemmas.List.{map-append}
use Rattle.std.proofs.lemmas.List.Folds.{list_any-append}
use Rattle.line_engine.specs.Device.{Told}
use Rattle.check_files.specs.Told.{Account, Does, Hears}
use Rattle.check_files.specs.declared.trouble.CheckTrouble.{CheckTrouble}
use Rattle.check_files.specs.Passing.{PassesOver, is_of_memory}
use Rattle.check_files.specs.Tally.{Tally, passed_over}
use Rattle.check_files.proofs.Doing.{hears_nil, hears_trans, nothing}
use Rattle.check_program.specs.Ends.{left_trouble}
use Rattle.check_program.specs.Steps.{ArePassed, PassesAll, passed_by}

neither : (b c : Bool) → b ≡ false → c ≡ false → (b || c) ≡ false
neither b c p q = subst (λ (x : Bool). (x || c) ≡ false) (sym p) q

one_has_memory : (t : CheckTrouble) → is_of_memory t ≡ false → list_any is_of_memory (t ∷ []) ≡ false
one_has_memory t h = neither (is_of_memory t) false h refl

-- one trouble is told
pub passed : (t : CheckTrouble) (heard heard' : Account CheckTrouble) (old new : Tally) → PassesOver t heard heard' old new → ArePassed (t ∷ []) old [] (t ∷ []) new
passed t heard heard' old new p = record { text_is = refl; told_is = refl; new_is = p.counts; have_memory = one_has_memory t p.has_memory }

-- none is told yet
pub none_passed : (heard : Account CheckTrouble) (old : Tally) → PassesAll [] heard heard old old
none_passed heard old = record { tells = hears_nil heard; counts = refl; have_memory = refl }

passed_behind : (ts : List CheckTrouble) (t : CheckTrouble) (old : Tally) → passed_over (passed_by ts old) ≡ passed_by (ts ++ t ∷ []) old
passed_behind [] t old = refl
passed_behind (u ∷ ts) t old = refl

-- one more is told
pub one_more_passed : (ts : List CheckTrouble) (t : CheckTrouble) (h k l : Account CheckTrouble) (old between new : Tally) → PassesAll ts h k old between → PassesOver t k l between new → PassesAll (ts ++ t ∷ []) h l old new
one_more_passed ts t h k l old between new p q = record {
  tells = hears_trans h k l ts (t ∷ []) p.tells q.tells;
  counts = q.counts ∙ (ap passed_over p.counts ∙ passed_behind ts t old);
  have_memory = list_any-append is_of_memory ts (t ∷ []) ∙ neither (list_any is_of_memory ts) (list_any is_of_memory (t ∷ [])) p.have_memory (one_has_memory t q.has_memory);
}

-- nothing is written nor told
pub unheard : (out : Told) (heard : Account CheckTrouble) (Is : List ℕ → List CheckTrouble → Type 0) → Is [] [] → Does out out heard heard Is
unheard out heard Is h = nothing out heard Is h

-- one more is told that was left behind
pub none_left : (heard : Account CheckTrouble) → Hears heard heard (map left_trouble [])
none_left heard = hears_nil heard

pub one_more_left : (h k l : Account CheckTrouble) (paths : List (String Global)) (path : String Global) → Hears h k (map left_trouble paths) → Hears k l (left_trouble path ∷ [])
    → Hears h l (map left_trouble (paths ++ path ∷ []))
one_more_left h k l paths path p q =
    subst (λ (ts : List CheckTrouble). Hears h l ts) (sym (map-append left_trouble paths (path ∷ []))) (hears_trans h k l (map left_trouble paths) (left_trouble path ∷ []) p q)
