-- Lines of bytes, and the licensees that they name, one after another.
use Rattle.std.proofs.Common.{◌≡◌, ◌≢◌, ℕ, suc, nat_eq, false, List, [], ◌∷◌, ◌++◌, length, refl, sym, ap, ◌∙◌, arith, append_assoc, subst, Result, Ok, Err, IfErr, ◌<◌}
use Rattle.std.specs.Result.{IsErrAnd}
use Rattle.std.proofs.lemmas.List.Elements.{All-head, All-tail}
use Rattle.line_engine.specs.Lines.{Cut, cut, last_line, lines_of, HasNoNewline}
use Rattle.line_engine.proofs.Byte.{before_cut}
use Rattle.line_engine.proofs.Cutting.{cut-plain}
use Rattle.spdx_requirement.specs.Rows.{Rows}
use Rattle.spdx_requirement.specs.Items.{Requirement}
use Rattle.spdx_licensee.specs.LicenseeText.{Names}
use Rattle.spdx_calls.specs.declared.fault.CallFault.{CallFault}
use Rattle.spdx_calls.specs.declared.fault.CallFault.TheVariants.{NotText, Refused, OtherNotText, OtherRefused, LicenseeNotText, Licensee, Unmet, TooMany, BitCount, TooManySets, Memory}
use Rattle.spdx_calls.specs.Licensees.{AreNamed}
use Rattle.spdx_calls.specs.Faults.{IsFaultOfLine, IsFirstFault, IsLicenseesFault}

-- ---- lines

is_other : (x : ℕ) → x ≢ 10 → nat_eq x 10 ≡ false
is_other x n = grind arith

cut-line : (line behind : List ℕ) → HasNoNewline line → cut (line ++ 10 ∷ behind) ≡ record { whole = line ∷ (cut behind).whole; rest = (cut behind).rest }
cut-line [] behind n = refl
cut-line (x ∷ line) behind n =
    let f : nat_eq x 10 ≡ false = is_other x (All-head (λ b. b ≢ 10) x line n) in
    ap (before_cut x) (cut-line line behind (All-tail (λ b. b ≢ 10) x line n)) ∙ rw f refl

pub lines_of-line : (line behind : List ℕ) → HasNoNewline line → lines_of (line ++ 10 ∷ behind) ≡ line ∷ lines_of behind
lines_of-line line behind n = ap (λ (c : Cut). c.whole ++ last_line c.rest) (cut-line line behind n)

pub lines_of-last : (rest : List ℕ) → HasNoNewline rest → 0 < length rest → lines_of rest ≡ rest ∷ []
lines_of-last [] n l = absurd (omega arith)
lines_of-last (x ∷ rest) n l = ap (λ (c : Cut). c.whole ++ last_line c.rest) (cut-plain [] (x ∷ rest) n)

-- the first of some lines is done
pub one_more : (all done : List (List ℕ)) (bytes line behind : List ℕ) → all ≡ done ++ lines_of bytes → bytes ≡ line ++ 10 ∷ behind → HasNoNewline line
    → (all ≡ done ++ line ∷ lines_of behind) × (all ≡ (done ++ line ∷ []) ++ lines_of behind)
one_more all done bytes line behind is cut n =
    let first : all ≡ done ++ line ∷ lines_of behind = is ∙ ap (λ (ls : List (List ℕ)). done ++ ls) (ap lines_of cut ∙ lines_of-line line behind n) in
    (first, first ∙ sym (append_assoc done (line ∷ []) (lines_of behind)))

-- ---- licensees

pub named-length : (c : Rows) (texts : List (List ℕ)) (licensees : List Requirement) → AreNamed c texts licensees → length texts ≡ length licensees
named-length c [] [] h = refl
named-length c (text ∷ texts) (licensee ∷ licensees) h = ap suc (named-length c texts licensees h.1)
named-length c [] (licensee ∷ licensees) h = absurd h
named-length c (text ∷ texts) [] h = absurd h

pub named-more : (c : Rows) (texts : List (List ℕ)) (licensees : List Requirement) (text : List ℕ) (licensee : Requirement)
    → AreNamed c texts licensees → Names c text licensee → AreNamed c (texts ++ text ∷ []) (licensees ++ licensee ∷ [])
named-more c [] [] text licensee h n = (n, tt)
named-more c (t ∷ texts) (l ∷ licensees) text licensee h n = (h.0, named-more c texts licensees text licensee h.1 n)
named-more c [] (l ∷ licensees) text licensee h n = absurd h
named-more c (t ∷ texts) [] text licensee h n = absurd h

by_fault : (c : Rows) (lines : List (List ℕ)) (fault : CallFault) → IsFirstFault c lines fault → IsLicenseesFault c lines fault
by_fault c lines Memory h = tt
by_fault c lines NotText h = h
by_fault c lines (Refused r) h = h
by_fault c lines OtherNotText h = h
by_fault c lines (OtherRefused r) h = h
by_fault c lines (LicenseeNotText n) h = h
by_fault c lines (Licensee n r) h = h
by_fault c lines Unmet h = h
by_fault c lines (TooMany n) h = h
by_fault c lines (BitCount n) h = h
by_fault c lines (TooManySets n) h = h

-- an answer that hands on a fault
pub handed_on : {T : Type 0} (P : CallFault → Type 0) (fault : CallFault) → P fault → (r : Result T CallFault) → IsErrAnd r (λ e. e ≡ fault) → IfErr r P
handed_on P fault h (Ok x) is = tt
handed_on P fault h (Err e) is = subst P (sym is) h

-- the fault of a line is that of the list
pub first_fault : (c : Rows) (lines before : List (List ℕ)) (line : List ℕ) (behind : List (List ℕ)) (licensees : List Requirement) (fault : CallFault)
    → lines ≡ before ++ line ∷ behind → AreNamed c before licensees → IsFaultOfLine c line (length licensees) fault → IsLicenseesFault c lines fault
first_fault c lines before line behind licensees fault cut named is =
    by_fault c lines fault (record {
      before = before;
      line = line;
      behind = behind;
      cut = cut;
      named = (licensees, named);
      fault_is = subst (λ (n : ℕ). IsFaultOfLine c line n fault) (sym (named-length c before licensees named)) is;
    })
