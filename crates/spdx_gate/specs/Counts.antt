-- Texts that were met, and how many times each. Only private clauses cite it.
use Rattle.std.specs.Prelude.{◌≡◌, ℕ, ◌+◌, ◌<◌, ◌^◌, List, bytes_eq, count_by, unwrap_or, if◌then◌else◌}
use Rattle.std.specs.Borrow.{Bor}
use Rattle.std.specs.declared.cmp.Ordering.{Ordering}
use Rattle.std.specs.Ordering.{nat_cmp}
use Rattle.std.specs.Cmp.Lexicographic.{slice_cmp}
use Rattle.std.specs.BTreeMap.{BTreeMap, get_by}
use Rattle.std.specs.BTreeSet.{BTreeSet, contains}
use Rattle.spdx_gate.specs.Texts.{is_among}

abbrev pub text_cmp : Bor (List ℕ) → Bor (List ℕ) → Ordering
text_cmp x y = slice_cmp nat_cmp x.now y.now

-- the set has just these texts
abbrev pub Has : BTreeSet (Bor (List ℕ)) → List (List ℕ) → Type 0
Has met texts = (q : Bor (List ℕ)) → contains text_cmp met q ≡ is_among texts q.now

-- how many a text has
abbrev pub count_in : BTreeMap (Bor (List ℕ)) ℕ → List ℕ → ℕ
count_in counts q = unwrap_or (get_by (λ k. slice_cmp nat_cmp q k.now) counts) 0

-- how many times a text is there
abbrev pub times : List (List ℕ) → List ℕ → ℕ
times texts q = count_by (λ other. bytes_eq other q) texts

-- as many more can be counted of each
abbrev pub HasRoom : BTreeMap (Bor (List ℕ)) ℕ → ℕ → Type 0
HasRoom counts more = (q : List ℕ) → count_in counts q + more < 2 ^ 64

-- each of the texts is counted once more
abbrev pub CountsEach : BTreeMap (Bor (List ℕ)) ℕ → List (List ℕ) → BTreeMap (Bor (List ℕ)) ℕ →
    Type 0
CountsEach old texts new = (q : List ℕ) → count_in new q ≡ count_in old q + times texts q

-- each different one is
abbrev pub CountsDifferent : BTreeMap (Bor (List ℕ)) ℕ → List (List ℕ) → BTreeMap (Bor (List ℕ)) ℕ →
    Type 0
CountsDifferent old texts new =
    (q : List ℕ) → count_in new q ≡ count_in old q + (if is_among texts q then 1 else 0)
