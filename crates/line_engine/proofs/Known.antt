-- Lemmas on bytes that are known.
use Rattle.std.proofs.Math.Seq.{take-add}
use Rattle.std.proofs.lemmas.List.{take_all}
use Rattle.std.proofs.Common.{◌≡◌, ℕ, ◌+◌, ◌-◌, ◌≤◌, arith, length, take, drop, length-drop, List, [], ◌++◌, Option, None, Some, refl, sym, ap, ◌∙◌, append_assoc, append-nil, Result, Ok, Err, OnErr, OnOk, Bool, true, false}
use Rattle.std.proofs.lemmas.Bool.{false≢true}
use Rattle.std.specs.Io.KnownBytes.{Appends, Consumes, Keeps}
use Rattle.line_engine.specs.Progress.{AppendsBeginning}

pub Appends-none : (a : Option (List ℕ)) → Appends a a []
Appends-none None = tt
Appends-none (Some xs) = sym (append-nil xs)

pub Appends-then : (a b c : Option (List ℕ)) (xs ys : List ℕ) → Appends a b xs → Appends b c ys → Appends a c (xs ++ ys)
Appends-then None b c xs ys p q = tt
Appends-then (Some xs0) None c xs ys p q = absurd p
Appends-then (Some xs0) (Some bs) None xs ys p q = absurd q
Appends-then (Some xs0) (Some bs) (Some cs) xs ys p q = q ∙ ap (λ (zs : List ℕ). zs ++ ys) p ∙ append_assoc xs0 xs ys

pub Appends-Keeps : (a b c : Option (List ℕ)) (xs : List ℕ) → Appends a b xs → Keeps b c → Appends a c xs
Appends-Keeps None b c xs p q = tt
Appends-Keeps (Some xs0) None c xs p q = absurd p
Appends-Keeps (Some xs0) (Some bs) None xs p q = absurd q
Appends-Keeps (Some xs0) (Some bs) (Some cs) xs p q = q ∙ p

pub Consumes-none : (a : Option (List ℕ)) → Consumes a a []
Consumes-none None = tt
Consumes-none (Some xs) = refl

pub Consumes-then : (a b c : Option (List ℕ)) (xs ys : List ℕ) → Consumes a b xs → Consumes b c ys → Consumes a c (xs ++ ys)
Consumes-then None b c xs ys p q = tt
Consumes-then (Some xs0) None c xs ys p q = absurd p
Consumes-then (Some xs0) (Some bs) None xs ys p q = absurd q
Consumes-then (Some xs0) (Some bs) (Some cs) xs ys p q = p ∙ ap (λ (zs : List ℕ). xs ++ zs) q ∙ sym (append_assoc xs ys cs)

pub Consumes-Keeps : (a b c : Option (List ℕ)) (xs : List ℕ) → Consumes a b xs → Keeps b c → Consumes a c xs
Consumes-Keeps None b c xs p q = tt
Consumes-Keeps (Some xs0) None c xs p q = absurd p
Consumes-Keeps (Some xs0) (Some bs) None xs p q = absurd q
Consumes-Keeps (Some xs0) (Some bs) (Some cs) xs p q = p ∙ ap (λ (zs : List ℕ). xs ++ zs) (sym q)

-- nothing was taken of them
pub AppendsBeginning-none : (a : Option (List ℕ)) (bytes : List ℕ) → AppendsBeginning a a bytes
AppendsBeginning-none a bytes = record { begun = []; others = bytes; whole = refl; appended = Appends-none a }

-- all of them was taken
pub AppendsBeginning-all : (a b : Option (List ℕ)) (bytes : List ℕ) → Appends a b bytes → AppendsBeginning a b bytes
AppendsBeginning-all a b bytes p = record { begun = bytes; others = []; whole = sym (append-nil bytes); appended = p }

pub AppendsBeginning-then : (a b c : Option (List ℕ)) (xs ys : List ℕ) → Appends a b xs → AppendsBeginning b c ys → AppendsBeginning a c (xs ++ ys)
AppendsBeginning-then a b c xs ys p q = record {
  begun = xs ++ q.begun;
  others = q.others;
  whole = ap (λ (zs : List ℕ). xs ++ zs) q.whole ∙ sym (append_assoc xs q.begun q.others);
  appended = Appends-then a b c xs q.begun p q.appended;
}

-- a beginning of more bytes
pub AppendsBeginning-more : (a b : Option (List ℕ)) (xs ys : List ℕ) → AppendsBeginning a b xs → AppendsBeginning a b (xs ++ ys)
AppendsBeginning-more a b xs ys q = record {
  begun = q.begun;
  others = q.others ++ ys;
  whole = ap (λ (zs : List ℕ). zs ++ ys) q.whole ∙ append_assoc q.begun q.others ys;
  appended = q.appended;
}

-- what holds, holds of an error
pub OnErr-always : {T E : Type 0} (r : Result T E) (P : Type 0) → P → OnErr r P
OnErr-always (Ok x) P p = tt
OnErr-always (Err e) P p = p

-- the bytes from a place on
rest_of : (bytes : List ℕ) (at : ℕ) → take (length bytes - at) (drop at bytes) ≡ drop at bytes
rest_of bytes at = take_all (length bytes - at) (drop at bytes) (omega (arith, length-drop at bytes))

pub in_bytes : (bytes : List ℕ) (at count : ℕ) → at ≤ length bytes → count ≤ length (take (length bytes - at) (drop at bytes)) → at + count ≤ length bytes
in_bytes bytes at count h k = let m = rw (rest_of bytes at) at k in omega (arith, m, length-drop at bytes)

-- a write of some bytes from a place on
pub more_written : (a b c : Option (List ℕ)) (bytes : List ℕ) (at count : ℕ) → Appends a b (take at bytes) → Appends b c (take count (take (length bytes - at) (drop at bytes))) → Appends a c (take (at + count) bytes)
more_written a b c bytes at count p q = rw (take-add at count bytes) (Appends-then a b c (take at bytes) (take count (drop at bytes)) p (let r = rw (rest_of bytes at) at q in r))

-- all was written, unless the device has failed
pub unless_failed : {T E : Type 0} (r : Result T E) (P : Type 0) (b : Bool) → OnOk r P → OnErr r (b ≡ true) → b ≡ false → P
unless_failed (Ok x) P b p q n = p
unless_failed (Err e) P b p q n = absurd (false≢true (sym n ∙ q))
