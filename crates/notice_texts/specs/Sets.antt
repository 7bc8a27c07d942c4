-- Sets of names. Only private clauses cite it.
use Rattle.std.specs.Prelude.{◌≡◌, ℕ, Bool, List}
use Rattle.std.specs.Borrow.{Bor}
use Rattle.std.specs.declared.cmp.Ordering.{Ordering}
use Rattle.std.specs.Ordering.{nat_cmp}
use Rattle.std.specs.Cmp.Lexicographic.{slice_cmp}
use Rattle.std.specs.BTreeSet.{BTreeSet, contains}
use Rattle.notice_texts.specs.Lacking.{is_among, is_needed}

abbrev pub name_cmp : Bor (List ℕ) → Bor (List ℕ) → Ordering
name_cmp x y = slice_cmp nat_cmp x.now y.now

-- a look-up in the set says of each name whether it is one of these
abbrev pub Has : BTreeSet (Bor (List ℕ)) → List (List ℕ) → Type 0
Has set names = (q : Bor (List ℕ)) → contains name_cmp set q ≡ is_among names q.now

-- the answer tells whether the name is one of those in the set
abbrev pub IsTold : BTreeSet (Bor (List ℕ)) → List ℕ → Bool → Type 0
IsTold set name answer = (names : List (List ℕ)) → Has set names → answer ≡ is_among names name

-- the answer tells whether the file holds the text of one of those in the set
abbrev pub IsNeedTold : BTreeSet (Bor (List ℕ)) → List ℕ → Bool → Type 0
IsNeedTold set file answer = (names : List (List ℕ)) → Has set names → answer ≡ is_needed names file
