-- What is put on standard error.
use Rattle.std.proofs.Common.{◌≡◌, ◌∙◌, refl, sym, ap, subst, inl, inr, ◌⊎◌, ℕ, Bool, true, false, List, [], ◌∷◌, ◌++◌, Result, Ok, Err, append-nil}
use Rattle.std.proofs.lemmas.Bool.{true≢false}
use Rattle.std.specs.Prelude.{OnErr, OnOk, not, string_bytes}
use Rattle.std.specs.Io.KnownBytes.{Appends}
use Rattle.std.proofs.KnownBytes.{Appends-nil, Appends-trans}
use Rattle.check_files.specs.Told.{Account, AreMarks, AreTexts, Hears, IsBetween, Puts, Writes, before, clear, cleared, none, shown, shown_count, texts}
use Rattle.check_files.proofs.Doing.{none_between}
use Rattle.check_files.specs.declared.trouble.CheckTrouble.{CheckTrouble}
use Rattle.line_engine.specs.Device.{Told}
use Rattle.spdx_program.specs.Ends.{World}
use Rattle.spdx_program.specs.Requests.{IsPerformed}
use Rattle.spdx_program.specs.Served.{IsServed, Outcome, outcome, side_of}
use Rattle.spdx_program.specs.Telling.{IsEndTold, IsLineBehind, check_line, heard_in, noted_in}
use Rattle.spdx_program.specs.declared.ended.Ended.{Ended}
use Rattle.spdx_program.specs.declared.outputs.Screen.{Screen}
use Rattle.spdx_words.specs.declared.request.Request.{Request}
use Rattle.spdx_troubles.specs.Causes.{check_trouble}
use Rattle.spdx_troubles.specs.Lines.{IsLineOf, line_with}
use Rattle.spdx_troubles.specs.declared.trouble.Trouble.{Trouble}

-- ---- bytes

-- what has failed stays so, and nothing is said of what stands there
pub stays_failed : (out : Told) (Is : List ℕ → Type 0) → out.has_failed ≡ true → Puts out out Is
stays_failed out Is failed = record { stays = λ h. h; writes = inl failed }

pub no_text : (out : Told) → Puts out out (λ text. text ≡ [])
no_text out = record { stays = λ h. h; writes = inr ([], Appends-nil out.bytes, refl) }

all_put : {A E : Type 0} (out out' : Told) (bytes : List ℕ) (r : Result A E) → OnOk r (Appends out.bytes out'.bytes bytes) → OnErr r (out'.has_failed ≡ true)
    → (out'.has_failed ≡ true) ⊎ Writes out out' (λ text. text ≡ bytes)
all_put out out' bytes (Ok x) all failed = inr (bytes, all, refl)
all_put out out' bytes (Err e) all failed = inl failed

pub is_put : {A E : Type 0} (out out' : Told) (bytes : List ℕ) (r : Result A E) → out.has_failed ≡ false
    → OnOk r (Appends out.bytes out'.bytes bytes) → OnErr r (out'.has_failed ≡ true) → Puts out out' (λ text. text ≡ bytes)
is_put out out' bytes r works all failed = record {
  stays = λ h. absurd (let bad : true ≡ false = sym h ∙ works in cc);
  writes = all_put out out' bytes r all failed;
}

-- ---- texts

module _ (out out' : Told) where
  put_known : (Was Is : List ℕ → Type 0) → ((text : List ℕ) → Was text → Is text) → (out'.has_failed ≡ true) ⊎ Writes out out' Was → (out'.has_failed ≡ true) ⊎ Writes out out' Is
  put_known Was Is so (inl failed) = inl failed
  put_known Was Is so (inr w) = inr (w.0, w.1, so w.0 w.2)

  pub puts_known : (Was Is : List ℕ → Type 0) → ((text : List ℕ) → Was text → Is text) → Puts out out' Was → Puts out out' Is
  puts_known Was Is so h = record { stays = h.stays; writes = put_known Was Is so h.writes }

-- one text is put behind another
put_then : (a b c : Told) (x y : List ℕ) → (b.has_failed ≡ true) ⊎ Writes a b (λ text. text ≡ x) → (c.has_failed ≡ true) ⊎ Writes b c (λ text. text ≡ y)
    → (b.has_failed ≡ true → c.has_failed ≡ true) → (c.has_failed ≡ true) ⊎ Writes a c (λ text. text ≡ x ++ y)
put_then a b c x y (inl failed) q stays = inl (stays failed)
put_then a b c x y (inr w) (inl failed) stays = inl failed
put_then a b c x y (inr w) (inr v) stays =
    inr (w.0 ++ v.0, Appends-trans a.bytes b.bytes c.bytes w.0 v.0 w.1 v.1, ap (λ (l : List ℕ). l ++ v.0) w.2 ∙ ap (λ (l : List ℕ). x ++ l) v.2)

pub one_behind : (a b c : Told) (x y : List ℕ) → Puts a b (λ text. text ≡ x) → Puts b c (λ text. text ≡ y) → Puts a c (λ text. text ≡ x ++ y)
one_behind a b c x y p q = record { stays = λ failed. q.stays (p.stays failed); writes = put_then a b c x y p.writes q.writes q.stays }

-- ---- on a terminal

pub is_clear : (on : Bool) (out out' : Told) → on ≡ true → Puts out out' (λ text. text ≡ clear) → Puts out out' (λ text. text ≡ before on)
is_clear on out out' e h = subst (λ (b : Bool). Puts out out' (λ text. text ≡ before b)) (sym e) h

pub no_clear : (on : Bool) (out : Told) → on ≡ false → Puts out out (λ text. text ≡ before on)
no_clear on out e = subst (λ (b : Bool). Puts out out (λ text. text ≡ before b)) (sym e) (no_text out)

-- a cleared line is a mark, and so is a count
before_between : (on : Bool) (text : List ℕ) → text ≡ before on → IsBetween on text
before_between false text e = e
before_between true text e = subst AreMarks (append-nil clear ∙ sym e) (cleared [] none)

pub count_shown : (on : Bool) (files : ℕ) (bytes : List ℕ) (out out' : Told) → not on ≡ false → bytes ≡ shown_count files → Puts out out' (λ text. text ≡ bytes) → Puts out out' (IsBetween on)
count_shown false files bytes out out' e is h = absurd (true≢false e)
count_shown true files bytes out out' e is h =
    puts_known out out' (λ text. text ≡ bytes) AreMarks (λ text same. subst AreMarks (append-nil (shown_count files) ∙ sym is ∙ sym same) (shown files [] none)) h

pub none_shown : (on : Bool) (out : Told) → Puts out out (IsBetween on)
none_shown on out = record { stays = λ failed. failed; writes = inr ([], Appends-nil out.bytes, none_between on) }

-- ---- what is told

-- the text of a trouble is its line
pub line_put : (on : Bool) (out out' : Told) (t : Trouble) (line bytes : List ℕ) → IsLineOf t line → bytes ≡ line → Puts out out' (λ text. text ≡ before on ++ bytes)
    → Puts out out' (IsLineBehind on t)
line_put on out out' t line bytes is same h =
    puts_known out out' (λ text. text ≡ before on ++ bytes) (IsLineBehind on t) (λ text e. (line, is, e ∙ ap (λ (l : List ℕ). before on ++ l) same)) h

module _ {A : Type 0} (on : Bool) (f : List ℕ → A → List ℕ) (out out' : Told) where
  -- how far a walk is is no trouble
  pub none_told : Puts out out' (IsBetween on) → Hears (texts on f out) (texts on f out') []
  none_told h = (refl, refl, puts_known out out' (IsBetween on) (AreTexts on f []) (λ text is. is) h)

  pub all_cleared : Puts out out' (λ text. text ≡ before on) → Hears (texts on f out) (texts on f out') []
  all_cleared h = none_told (puts_known out out' (λ text. text ≡ before on) (IsBetween on) (before_between on) h)

  pub one_told : (x : A) → Puts out out' (λ text. (said : List ℕ) × (text ≡ before on ++ f said x)) → Hears (texts on f out) (texts on f out') (x ∷ [])
  one_told x h = (
    refl,
    refl,
    puts_known out out' (λ text. (said : List ℕ) × (text ≡ before on ++ f said x)) (AreTexts on f (x ∷ []))
        (λ text is. ([], is.0, [], none_between on, is.1 ∙ ap (λ (l : List ℕ). before on ++ l) (sym (append-nil (f is.0 x))), none_between on)) h,
  )

line_known : (on : Bool) (t : Trouble) (text : List ℕ) → IsLineBehind on t text → (said : List ℕ) × (text ≡ before on ++ line_with said t)
line_known on t text h = (h.1.0, h.2 ∙ ap (λ (l : List ℕ). before on ++ l) h.1.1)

pub heard : {A E : Type 0} (t : Trouble) (on : Bool) (out out' : Told) (r : Result A E) → OnOk r (Puts out out' (IsLineBehind on t))
    → OnOk r (Hears (heard_in on out) (heard_in on out') (t ∷ []))
heard t on out out' (Err e) h = tt
heard t on out out' (Ok x) h =
    one_told on line_with out out' t
    (puts_known out out' (IsLineBehind on t) (λ text. (said : List ℕ) × (text ≡ before on ++ line_with said t)) (line_known on t) h)

pub noted : {A E : Type 0} (c : CheckTrouble) (t : Trouble) (on : Bool) (out out' : Told) (r : Result A E) → t ≡ check_trouble c → OnOk r (Puts out out' (IsLineBehind on t))
    → OnOk r (Hears (noted_in on out) (noted_in on out') (c ∷ []))
noted c t on out out' (Err e) is h = tt
noted c t on out out' (Ok x) is h =
    one_told on check_line out out' c
    (puts_known out out' (IsLineBehind on (check_trouble c)) (λ text. (said : List ℕ) × (text ≡ before on ++ check_line said c)) (line_known on (check_trouble c))
    (subst (λ (u : Trouble). Puts out out' (IsLineBehind on u)) is h))

-- ---- a whole run

pub served : (w : World) (screen : Screen) (r : Request) (x y : Outcome) (answer : Result Ended Trouble) (faults : Told) (is_shown : Bool) (status : ℕ)
    → IsPerformed w screen.colours r (side_of screen.progress x) (side_of is_shown (outcome y.output faults y.tried)) answer
    → IsEndTold is_shown answer faults y.faults status → IsServed w screen r x y status
served w screen r x y answer faults is_shown status does told = record { answer = answer; faults = faults; is_shown = is_shown; performs = does; ends = told }
