-- The answer that is found item by item is the licensee that the text names, or the fault of the text.
use Rattle.std.proofs.Common.{◌≡◌, arith, add-zero, zero-add, map, ℕ, Bool, true, false, List, [], ◌∷◌, length, Option, Some, None, Result, Ok, Err, IfOk, IfErr, refl, sym, ap, subst, ◌∙◌, ok_or, option_and_then, option_map, codes, if◌then◌else◌}
use Rattle.std.proofs.lemmas.Bool.{false≢true}
use Rattle.spdx_requirement.specs.Rows.{Rows}
use Rattle.spdx_requirement.specs.Items.{LicenseTerm, Addition, added, Requirement, requirement_of}
use Rattle.spdx_lexer.specs.Words.{Word, LicenseRef, AdditionRef, With, Fault, Unexpected, Span, Item, Placed, words}
use Rattle.spdx_lexer.specs.Modes.{strict}
use Rattle.spdx_lexer.specs.Reading.{reading}
use Rattle.spdx_lexer.specs.Layout.{IsPlace, place_of}
use Rattle.spdx_lexer.proofs.Laid.{place_among}
use Rattle.std.specs.List.{All}
use Rattle.std.specs.Str.{IsCharBoundary}
use Rattle.spdx_requirement.specs.declared.requirement.LicenseReq.{LicenseReq}
use Rattle.spdx_requirement.specs.declared.failure.Failure.{Failure}
use Rattle.spdx_requirement.specs.declared.failure.Failure.TheVariants.{Refused, Memory}
use Rattle.spdx_lexer.specs.declared.error.ParseError.{ParseError}
use Rattle.spdx_lexer.specs.Faults.{fault_of}
use Rattle.spdx_lexer.specs.Code.{span_of}
use Rattle.spdx_licensee.specs.LicenseeText.{license_named, addition_named, licensee_named, Begins, licensee_word_fault, licensee_end_fault, Names, NamesNone, IsLicenseeFault, at_word, at_place, at_end}
use Rattle.spdx_requirement.specs.Failures.{IfRefused}
use Rattle.spdx_licensee.specs.Answers.{Gives, and_then, is_with, behind_addition, behind_with, behind_license, licensee_at}

-- ---- what begins a licensee

begins_nothing : Begins []
begins_nothing = (LicenseRef None [] ∷ [], _, refl)

begins_license : (w : Word) (l : LicenseTerm) → license_named w ≡ Some l → Begins (w ∷ [])
begins_license w l n = ([], record { license = l; addition = None }, rw n refl)

begins_with : (w : Word) (l : LicenseTerm) → license_named w ≡ Some l → Begins (w ∷ With ∷ [])
begins_with w l n =
    let a = added (record { document = None; name = [] }) in
    (AdditionRef None [] ∷ [], record { license = l; addition = Some a }, rw n refl)

both_named : (w v : Word) (l : LicenseTerm) (a : Addition) → license_named w ≡ Some l → addition_named v ≡ Some a
    → licensee_named (w ∷ With ∷ v ∷ []) ≡ Some (record { license = l; addition = Some a })
both_named w v l a n m = rw (n, m) refl

begins_addition : (w v : Word) (l : LicenseTerm) (a : Addition) → license_named w ≡ Some l → addition_named v ≡ Some a → Begins (w ∷ With ∷ v ∷ [])
begins_addition w v l a n m = ([], record { license = l; addition = Some a }, both_named w v l a n m)

-- ---- and what does not

no_first : (w : Word) (ws : List Word) (req : Requirement) → license_named w ≡ None → licensee_named (w ∷ ws) ≡ Some req → ⊥
no_first w [] req n h = let none : ◌≡◌ {A = Option Requirement} None (Some req) = rw n at h in cc none
no_first w (With ∷ a ∷ []) req n h = let none : ◌≡◌ {A = Option Requirement} None (Some req) = rw n at h in cc none
no_first w ws req n h = cc h

no_second : (w v : Word) (ws : List Word) (req : Requirement) → licensee_named (w ∷ v ∷ ws) ≡ Some req → is_with v ≡ true
no_second w With ws req h = refl
no_second w v ws req h = cc h

no_third : (w v a : Word) (ws : List Word) (req : Requirement) → addition_named a ≡ None → licensee_named (w ∷ v ∷ a ∷ ws) ≡ Some req → ⊥
no_third w With a [] req n h = third (license_named w) (rw n at h)
  where
    third : (o : Option LicenseTerm) → option_and_then (λ (l : LicenseTerm). None) o ≡ Some req → ⊥
    third None k = cc k
    third (Some l) k = cc k
no_third w v a ws req n h = cc h

no_fourth : (w v a b : Word) (ws : List Word) (req : Requirement) → licensee_named (w ∷ v ∷ a ∷ b ∷ ws) ≡ Some req → ⊥
no_fourth w With a b ws req h = cc h
no_fourth w v a b ws req h = cc h

with_is : (q : Placed) → is_with q.0 ≡ true → q ≡ (With, q.1)
with_is q h = go q.0 h
  where
    go : (w : Word) → is_with w ≡ true → ◌≡◌ {A = Placed} (w, q.1) (With, q.1)
    go With k = refl
    go w k = cc k

-- ---- the fault

fault_behind_addition : (c : Rows) (text : List ℕ) (p a : Placed) (s : Span) (l : LicenseTerm) (ad : Addition) (more : List Item)
    → reading c strict 0 text ≡ Ok p ∷ Ok (With, s) ∷ Ok a ∷ more → license_named p.0 ≡ Some l → addition_named a.0 ≡ Some ad
    → (e : Fault × Span) → behind_addition l ad more ≡ Err e → IsLicenseeFault c text e.0 e.1
fault_behind_addition c text p a s l ad [] r n m e h = cc h
fault_behind_addition c text p a s l ad (Err x ∷ more) r n m e h =
    let same : x ≡ e = cc h in
    subst (λ (y : Fault × Span). IsLicenseeFault c text y.0 y.1) same (at_place (p ∷ (With, s) ∷ a ∷ []) more r (begins_addition p.0 a.0 l ad n m))
fault_behind_addition c text p a s l ad (Ok b ∷ more) r n m e h =
    let same : ◌≡◌ {A = Fault × Span} (Unexpected [], b.1) e = cc h in
    subst (λ (y : Fault × Span). IsLicenseeFault c text y.0 y.1) same
    (at_word (p ∷ (With, s) ∷ a ∷ []) b.0 more r (begins_addition p.0 a.0 l ad n m) (λ (ws, req, k). no_fourth p.0 With a.0 b.0 ws req k))

fault_behind_with : (c : Rows) (text : List ℕ) (p : Placed) (s : Span) (l : LicenseTerm) (more : List Item)
    → reading c strict 0 text ≡ Ok p ∷ Ok (With, s) ∷ more → license_named p.0 ≡ Some l
    → (e : Fault × Span)
    → behind_with (length text) l more ≡ Err e
    → IsLicenseeFault c text e.0 e.1
fault_behind_with c text p s l [] r n e h =
    let same : licensee_end_fault (length text) (p.0 ∷ With ∷ []) ≡ e = cc h in
    subst (λ (y : Fault × Span). IsLicenseeFault c text y.0 y.1) same (at_end (p ∷ (With, s) ∷ []) r (begins_with p.0 l n) refl)
fault_behind_with c text p s l (Err x ∷ more) r n e h =
    let same : x ≡ e = cc h in
    subst (λ (y : Fault × Span). IsLicenseeFault c text y.0 y.1) same (at_place (p ∷ (With, s) ∷ []) more r (begins_with p.0 l n))
fault_behind_with c text p s l (Ok a ∷ more) r n e h = go (addition_named a.0) refl h
  where
    go : (o : Option Addition) → addition_named a.0 ≡ o
        → and_then (ok_or o (Unexpected (codes "<addition>" ∷ []), a.1)) (λ ad. behind_addition l ad more) ≡ Err e
        → IsLicenseeFault c text e.0 e.1
    go None m k =
        let same : ◌≡◌ {A = Fault × Span} (Unexpected (codes "<addition>" ∷ []), a.1) e = cc k in
        subst (λ (y : Fault × Span). IsLicenseeFault c text y.0 y.1) same
        (at_word (p ∷ (With, s) ∷ []) a.0 more r (begins_with p.0 l n) (λ (ws, req, named). no_third p.0 With a.0 ws req m named))
    go (Some ad) m k = fault_behind_addition c text p a s l ad more r n m e k

fault_behind_license : (c : Rows) (text : List ℕ) (p : Placed) (l : LicenseTerm) (more : List Item)
    → reading c strict 0 text ≡ Ok p ∷ more → license_named p.0 ≡ Some l
    → (e : Fault × Span) → behind_license (length text) l more ≡ Err e → IsLicenseeFault c text e.0 e.1
fault_behind_license c text p l [] r n e h = cc h
fault_behind_license c text p l (Err x ∷ more) r n e h =
    let same : x ≡ e = cc h in
    subst (λ (y : Fault × Span). IsLicenseeFault c text y.0 y.1) same (at_place (p ∷ []) more r (begins_license p.0 l n))
fault_behind_license c text p l (Ok q ∷ more) r n e h = go (is_with q.0) refl h
  where
    go : (b : Bool) → is_with q.0 ≡ b
        → and_then {A = Unit {0}} (if b then Ok tt else Err (Unexpected (codes "WITH" ∷ []), q.1)) (λ _. behind_with (length text) l more) ≡ Err e
        → IsLicenseeFault c text e.0 e.1
    go false m k =
        let same : ◌≡◌ {A = Fault × Span} (Unexpected (codes "WITH" ∷ []), q.1) e = cc k in
        subst (λ (y : Fault × Span). IsLicenseeFault c text y.0 y.1) same
        (at_word (p ∷ []) q.0 more r (begins_license p.0 l n) (λ (ws, req, named). false≢true (sym m ∙ no_second p.0 q.0 ws req named)))
    go true m k = fault_behind_with c text p q.1 l more (r ∙ ap (λ (x : Placed). Ok p ∷ Ok x ∷ more) (with_is q m)) n e k

pub fault_found : (c : Rows) (text : List ℕ) (items : List Item) → reading c strict 0 text ≡ items
    → (e : Fault × Span) → licensee_at (length text) items ≡ Err e → IsLicenseeFault c text e.0 e.1
fault_found c text [] r e h =
    let same : licensee_end_fault (length text) [] ≡ e = cc h in
    subst (λ (y : Fault × Span). IsLicenseeFault c text y.0 y.1) same (at_end [] r begins_nothing refl)
fault_found c text (Err x ∷ more) r e h =
    let same : x ≡ e = cc h in
    subst (λ (y : Fault × Span). IsLicenseeFault c text y.0 y.1) same (at_place [] more r begins_nothing)
fault_found c text (Ok p ∷ more) r e h = go (license_named p.0) refl h
  where
    go : (o : Option LicenseTerm) → license_named p.0 ≡ o
        → and_then (ok_or o (licensee_word_fault [] p.0, p.1)) (λ l. behind_license (length text) l more) ≡ Err e
        → IsLicenseeFault c text e.0 e.1
    go None m k =
        let same : ◌≡◌ {A = Fault × Span} (licensee_word_fault [] p.0, p.1) e = cc k in
        subst (λ (y : Fault × Span). IsLicenseeFault c text y.0 y.1) same
        (at_word [] p.0 more r begins_nothing (λ (ws, req, named). no_first p.0 ws req m named))
    go (Some l) m k = fault_behind_license c text p l more r m e k

-- ---- the licensee

named_behind_addition : (c : Rows) (text : List ℕ) (p a : Placed) (s : Span) (l : LicenseTerm) (ad : Addition) (more : List Item)
    → reading c strict 0 text ≡ Ok p ∷ Ok (With, s) ∷ Ok a ∷ more → license_named p.0 ≡ Some l → addition_named a.0 ≡ Some ad
    → (req : Requirement) → behind_addition l ad more ≡ Ok req → Names c text req
named_behind_addition c text p a s l ad [] r n m req h =
    let same : record { license = l; addition = Some ad } ≡ req = cc h in
    (p ∷ (With, s) ∷ a ∷ [], r, both_named p.0 a.0 l ad n m ∙ ap Some same)
named_behind_addition c text p a s l ad (Err x ∷ more) r n m req h = cc h
named_behind_addition c text p a s l ad (Ok b ∷ more) r n m req h = cc h

named_behind_with : (c : Rows) (text : List ℕ) (p : Placed) (s : Span) (l : LicenseTerm) (more : List Item)
    → reading c strict 0 text ≡ Ok p ∷ Ok (With, s) ∷ more → license_named p.0 ≡ Some l
    → (req : Requirement) → behind_with (length text) l more ≡ Ok req → Names c text req
named_behind_with c text p s l [] r n req h = cc h
named_behind_with c text p s l (Err x ∷ more) r n req h = cc h
named_behind_with c text p s l (Ok a ∷ more) r n req h = go (addition_named a.0) refl h
  where
    go : (o : Option Addition) → addition_named a.0 ≡ o
        → and_then (ok_or o (Unexpected (codes "<addition>" ∷ []), a.1)) (λ ad. behind_addition l ad more) ≡ Ok req → Names c text req
    go None m k = cc k
    go (Some ad) m k = named_behind_addition c text p a s l ad more r n m req k

named_behind_license : (c : Rows) (text : List ℕ) (p : Placed) (l : LicenseTerm) (more : List Item)
    → reading c strict 0 text ≡ Ok p ∷ more → license_named p.0 ≡ Some l
    → (req : Requirement) → behind_license (length text) l more ≡ Ok req → Names c text req
named_behind_license c text p l [] r n req h =
    let same : record { license = l; addition = None } ≡ req = cc h in
    (p ∷ [], r, rw n (ap Some same))
named_behind_license c text p l (Err x ∷ more) r n req h = cc h
named_behind_license c text p l (Ok q ∷ more) r n req h = go (is_with q.0) refl h
  where
    go : (b : Bool) → is_with q.0 ≡ b
        → and_then {A = Unit {0}} (if b then Ok tt else Err (Unexpected (codes "WITH" ∷ []), q.1)) (λ _. behind_with (length text) l more) ≡ Ok req → Names c text req
    go false m k = cc k
    go true m k = named_behind_with c text p q.1 l more (r ∙ ap (λ (x : Placed). Ok p ∷ Ok x ∷ more) (with_is q m)) n req k

pub licensee_found : (c : Rows) (text : List ℕ) (items : List Item) → reading c strict 0 text ≡ items
    → (req : Requirement) → licensee_at (length text) items ≡ Ok req → Names c text req
licensee_found c text [] r req h = cc h
licensee_found c text (Err x ∷ more) r req h = cc h
licensee_found c text (Ok p ∷ more) r req h = go (license_named p.0) refl h
  where
    go : (o : Option LicenseTerm) → license_named p.0 ≡ o
        → and_then (ok_or o (licensee_word_fault [] p.0, p.1)) (λ l. behind_license (length text) l more) ≡ Ok req → Names c text req
    go None m k = cc k
    go (Some l) m k = named_behind_license c text p l more r m req k

-- ---- what the call that reads a licensee gives

pub gives_fault : (c : Rows) (text : List ℕ) (takes : Bool) (result : Result LicenseReq (Failure ParseError))
    → Gives requirement_of text takes (licensee_at (length text) (reading c strict 0 text)) result
    → IfErr result (IfRefused (λ e. IsLicenseeFault c text (fault_of e.reason) (span_of e.span)))
gives_fault c text takes (Ok req) h = tt
gives_fault c text takes (Err (Refused e)) h = fault_found c text (reading c strict 0 text) refl (fault_of e.reason, span_of e.span) h.0
gives_fault c text takes (Err (Memory m)) h = tt

pub gives_licensee : (c : Rows) (text : List ℕ) (takes : Bool) (result : Result LicenseReq (Failure ParseError))
    → Gives requirement_of text takes (licensee_at (length text) (reading c strict 0 text)) result
    → IfOk result (λ req. Names c text (requirement_of req))
gives_licensee c text takes (Ok req) h = licensee_found c text (reading c strict 0 text) refl (requirement_of req) h
gives_licensee c text takes (Err failure) h = tt

-- ---- no text is refused that names a licensee

one_found : (len : ℕ) (p : Placed) (req : Requirement) → licensee_named (p.0 ∷ []) ≡ Some req → licensee_at len (Ok p ∷ []) ≡ Ok req
one_found len p req h = go (license_named p.0) h
  where
    go : (o : Option LicenseTerm) → option_map (λ l. record { license = l; addition = None }) o ≡ Some req
        → and_then (ok_or o (licensee_word_fault [] p.0, p.1)) (λ l. behind_license len l []) ≡ Ok req
    go None k = cc k
    go (Some l) k =
        let same : record { license = l; addition = None } ≡ req = cc k in
        ap Ok same

joined : LicenseTerm → Addition → Requirement
joined l a = record { license = l; addition = Some a }

three_found : (len : ℕ) (p a : Placed) (req : Requirement) → licensee_named (p.0 ∷ With ∷ a.0 ∷ []) ≡ Some req
    → and_then (ok_or (license_named p.0) (licensee_word_fault [] p.0, p.1)) (λ l. behind_with len l (Ok a ∷ [])) ≡ Ok req
unfolding joined
three_found len p a req h = go (license_named p.0) (addition_named a.0) h
  where
    go : (o : Option LicenseTerm) (q : Option Addition) → option_and_then (λ l. option_map (λ d. joined l d) q) o ≡ Some req
        → and_then (ok_or o (licensee_word_fault [] p.0, p.1)) (λ l. and_then (ok_or q (Unexpected (codes "<addition>" ∷ []), a.1)) (λ d. behind_addition l d [])) ≡ Ok req
    go None q k = cc k
    go (Some l) None k = cc k
    go (Some l) (Some d) k =
        let same : joined l d ≡ req = cc k in
        ap Ok same

behind_first : (len : ℕ) (p q : Placed) (more : List Placed) (req : Requirement) → licensee_named (p.0 ∷ With ∷ words more) ≡ Some req
    → and_then (ok_or (license_named p.0) (licensee_word_fault [] p.0, p.1)) (λ l. behind_with len l (map Ok more)) ≡ Ok req
behind_first len p q [] req h = cc h
behind_first len p q (a ∷ []) req h = three_found len p a req h
behind_first len p q (a ∷ b ∷ more) req h = cc h

all_found : (len : ℕ) (read : List Placed) (req : Requirement) → licensee_named (words read) ≡ Some req → licensee_at len (map Ok read) ≡ Ok req
all_found len [] req h = cc h
all_found len (p ∷ []) req h = one_found len p req h
all_found len (p ∷ q ∷ more) req h =
    let behind = no_second p.0 q.0 (words more) req h in
    let with = ap (λ (x : Placed). x.0) (with_is q behind) in
    rw behind (behind_first len p q more req (rw with at h))

pub names_found : (c : Rows) (text : List ℕ) (req : Requirement) → Names c text req → licensee_at (length text) (reading c strict 0 text) ≡ Ok req
names_found c text req (read, r, n) = rw r (all_found (length text) read req n)

pub gives_none : (c : Rows) (text : List ℕ) (takes : Bool) (result : Result LicenseReq (Failure ParseError))
    → Gives requirement_of text takes (licensee_at (length text) (reading c strict 0 text)) result
    → IfErr result (IfRefused (λ e. NamesNone c text))
gives_none c text takes (Ok req) h = tt
gives_none c text takes (Err (Refused e)) h = λ req names. let clash = sym h.0 ∙ names_found c text req names in cc clash
gives_none c text takes (Err (Memory m)) h = tt

-- ---- where a fault stands

pub fault_place : (c : Rows) (text : List ℕ) → IsCharBoundary text 0 → IsCharBoundary text (length text)
    → All (λ i. IsPlace text (place_of i)) (reading c strict 0 text) → (f : Fault) (s : Span) → IsLicenseeFault c text f s → IsPlace text s
fault_place c text start end all f s (at_word read w {s = t} more r b nb) = place_among text read (Ok (w, t)) more (subst (All (λ i. IsPlace text (place_of i))) r all)
fault_place c text start end all f s (at_place read {f = g} {s = t} more r b) = place_among text read (Err (g, t)) more (subst (All (λ i. IsPlace text (place_of i))) r all)
fault_place c text start end all f s (at_end [] r b n) = (omega arith, (start, rw zero-add end))
fault_place c text start end all f s (at_end (p ∷ read) r b n) = (omega arith, (end, rw add-zero end))

pub gives_place : (c : Rows) (text : List ℕ) (takes : Bool) (result : Result LicenseReq (Failure ParseError))
    → Gives requirement_of text takes (licensee_at (length text) (reading c strict 0 text)) result
    → IsCharBoundary text 0 → IsCharBoundary text (length text) → All (λ i. IsPlace text (place_of i)) (reading c strict 0 text)
    → IfErr result (IfRefused (λ e. IsPlace text (span_of e.span)))
gives_place c text takes (Ok req) h start end all = tt
gives_place c text takes (Err (Refused e)) h start end all =
    fault_place c text start end all (fault_of e.reason) (span_of e.span) (fault_found c text (reading c strict 0 text) refl (fault_of e.reason, span_of e.span) h.0)
gives_place c text takes (Err (Memory m)) h start end all = tt
