-- The front of a text.
use Rattle.std.proofs.Common.{◌≡◌, ℕ, zero, suc, ◌+◌, ◌-◌, ◌<◌, ◌≤◌, Bool, true, false, cond, List, [], ◌∷◌, length, take, drop, get_or, Option, Some, None, refl, sym, ◌∙◌, ap, subst, arith, MatchOption, if◌then◌else◌, IsUtf8, IsCharBoundary}
use Rattle.std.specs.Borrow.{Bor}
use Rattle.std.specs.List.{prefix_len, list_all}
use Rattle.spdx_catalogue.specs.Names.{is_plus, without_plus}
use Rattle.std.specs.Prelude.{take_while, ◌&&◌, ◌||◌, ◌==◌}
use Rattle.std.specs.Option.{option_copied}
use Rattle.std.specs.Str.Pattern.{FindsTextPrefix, StripsPrefix}
use Rattle.std.proofs.lemmas.List.Folds.{length-prefix_len}
use Rattle.std.proofs.lemmas.List.Sums.{prefix_len-le-length, prefix_len_passes}
use Rattle.std.proofs.lemmas.Str.{IsCharBoundary-after_ascii, IsCharBoundary-start}
use Rattle.std.proofs.lemmas.Str.Pattern.{starts_text}
use Rattle.std.proofs.lemmas.Bool.{eqb-true}
use Rattle.std.proofs.lemmas.Bool.Decides.{nat_tests}
use Rattle.std.proofs.Math.Numerals.{one-add}
use Rattle.spdx_lexer.specs.Text.{strip, run_at, is_run_byte, IsRun, IsRunLeft}
use Rattle.spdx_catalogue.specs.Names.{is_name_byte}

pub ruleset fronts = (length-prefix_len)

pub name_ascii : (b : ℕ) → is_name_byte b ≡ true → b < 128
name_ascii b h = grind (arith, nat_tests)

pub run_ascii : (b : ℕ) → is_run_byte b ≡ true → b < 128
run_ascii b h = grind (arith, nat_tests)

-- a text may be cut behind a front of ASCII bytes
boundary_at : (bs : List ℕ) (n : ℕ) → IsUtf8 bs → n ≤ length bs → ((k : ℕ) → k < n → get_or bs k 0 < 128) → IsCharBoundary bs n
boundary_at bs zero u l h = IsCharBoundary-start bs u
boundary_at bs (suc n) u l h =
    let lt : n < length bs = omega arith in
    let one : n + 1 ≡ suc n = omega arith in
    subst (IsCharBoundary bs) one (IsCharBoundary-after_ascii bs n u lt (h n (omega arith)))

pub front_boundary : (p : ℕ → Bool) → ((b : ℕ) → p b ≡ true → b < 128) → (bs : List ℕ) → IsUtf8 bs → IsCharBoundary bs (prefix_len p bs)
front_boundary p ascii bs u = boundary_at bs (prefix_len p bs) u (prefix_len-le-length p bs) (λ k h. ascii (get_or bs k 0) (prefix_len_passes p bs k 0 h))

-- a text may be cut within its run
pub run_cut : (bs : List ℕ) (n : ℕ) → IsUtf8 bs → n ≤ length (run_at bs) → IsCharBoundary bs n
run_cut bs n u l =
    let same = length-prefix_len is_run_byte bs in
    let low = prefix_len-le-length is_run_byte bs in
    boundary_at bs n u (omega arith) (λ k h. run_ascii (get_or bs k 0) (prefix_len_passes is_run_byte bs k 0 (omega arith)))

pub first_cut : (bs : List ℕ) → IsUtf8 bs → 0 < length bs → get_or bs 0 0 < 128 → IsCharBoundary bs 1
first_cut bs u l h = IsCharBoundary-after_ascii bs 0 u l h

-- `strip_prefix` at a text
pub strips : (n s : List ℕ) (r : Option (Bor (List ℕ))) → MatchOption r (FindsTextPrefix n s None) (λ x. StripsPrefix (FindsTextPrefix n) s x.now) → option_copied r ≡ strip n s
strips n s None h = let e = starts_text false n s h in rw (← e) refl
strips n s (Some x) (k, f, e, l) =
    let t = starts_text true n s (k, f, subst (IsCharBoundary s) (sym f.0) f.2) in
    let same : x.now ≡ drop (length n) s = e ∙ ap (λ i. drop i s) f.0 in
    rw (← t) (ap (λ (y : List ℕ). Some y) same)

-- the front of a list that passes a test
pub front_passes : (p : ℕ → Bool) (bs : List ℕ) → list_all p (take_while p bs) ≡ true
front_passes p [] = refl
front_passes p (b ∷ bs) = pick (p b) refl (front_passes p bs)
  where
    pick : (t : Bool) → p b ≡ t → list_all p (take_while p bs) ≡ true → list_all p (take (cond t (1 + prefix_len p bs) 0) (b ∷ bs)) ≡ true
    pick true e h = rw (one-add (prefix_len p bs)) (ap (λ t. t && list_all p (take_while p bs)) e ∙ h)
    pick false e h = refl

pub run_is : (bs : List ℕ) → IsRun (run_at bs)
run_is bs = front_passes is_run_byte bs

-- no byte of a run is a `+`
not_plus : (b : ℕ) → is_run_byte b ≡ true → is_plus b ≡ false
not_plus b h = grind (arith, nat_tests)

pub and_both : (a b : Bool) → a && b ≡ true → (a ≡ true) × (b ≡ true)
and_both true b h = (refl, h)
and_both false b h = absurd cc

pub no_plus : (run : List ℕ) → IsRun run → without_plus run ≡ run
no_plus [] h = refl
no_plus (b ∷ run) h =
    let both = and_both (is_run_byte b) (list_all is_run_byte run) h in
    ap (λ t. if t && list_all is_plus run then [] else b ∷ without_plus run) (not_plus b both.0) ∙ ap (λ (bs : List ℕ). b ∷ bs) (no_plus run both.1)

-- what is left of a run that was read
pub left_is : (known : ℕ) (text : List ℕ) → IsRunLeft known text → 0 < known → known ≡ length (run_at text)
left_is known text h l = pick (known == 0) refl h
  where
    pick : (t : Bool) → (known == 0) ≡ t → t || known == length (run_at text) ≡ true → known ≡ length (run_at text)
    pick true e g = absurd (omega (arith, l, eqb-true known 0 e))
    pick false e g = eqb-true known (length (run_at text)) g

pub left_cut : (known : ℕ) (text : List ℕ) → IsUtf8 text → IsRunLeft known text → 0 < known → IsCharBoundary text known
left_cut known text u h l = let e = left_is known text h l in run_cut text known u (omega arith)

pub left_run : (known : ℕ) (text : List ℕ) → IsRunLeft known text → 0 < known → take known text ≡ run_at text
left_run known text h l = ap (λ n. take n text) (left_is known text h l ∙ length-prefix_len is_run_byte text)

prefix_drop : (p : ℕ → Bool) (bs : List ℕ) (n : ℕ) → n ≤ prefix_len p bs → prefix_len p (drop n bs) ≡ prefix_len p bs - n
prefix_drop p bs zero h = omega arith
prefix_drop p [] (suc n) h = absurd (omega arith)
prefix_drop p (b ∷ bs) (suc n) h = pick (p b) h (prefix_drop p bs n)
  where
    pick : (t : Bool) → suc n ≤ cond t (1 + prefix_len p bs) 0 → (n ≤ prefix_len p bs → prefix_len p (drop n bs) ≡ prefix_len p bs - n) → prefix_len p (drop n bs) ≡ cond t (1 + prefix_len p bs) 0 - suc n
    pick true g more = omega (arith, more (omega arith))
    pick false g more = absurd (omega arith)

not_zero : (k : ℕ) → (k == 0) ≡ false → 0 < k
not_zero zero g = absurd cc
not_zero (suc k) g = omega arith

equal_test : (a b : ℕ) → a ≡ b → (a == b) ≡ true
equal_test a b g = grind (arith, nat_tests)

-- the run behind a word that took so many bytes
pub left_behind : (bs : List ℕ) (n left : ℕ) → left ≡ length (run_at bs) - n → IsRunLeft left (drop n bs)
left_behind bs n left e = pick (left == 0) refl
  where
    pick : (t : Bool) → (left == 0) ≡ t → t || left == length (run_at (drop n bs)) ≡ true
    pick true h = refl
    pick false h =
        let some = not_zero left h in
        let same = length-prefix_len is_run_byte bs in
        let after = length-prefix_len is_run_byte (drop n bs) in
        let behind = prefix_drop is_run_byte bs n (omega (arith, e, same, some)) in
        equal_test left (length (run_at (drop n bs))) (omega (arith, behind, e, same, after))
