-- Names in a set.
use Rattle.std.specs.Prelude.{◌≡◌, ℕ, List, String}
use Rattle.std.specs.declared.alloc.Global.{Global}
use Rattle.std.specs.BTreeSet.{BTreeSet, contains_text}
use Rattle.spdx_list.specs.Files.{is_among}

-- a look-up in the set says of each name whether it is one of these
abbrev pub Has : BTreeSet (String Global) → List (List ℕ) → Type 0
Has set names = (name : List ℕ) → contains_text set name ≡ is_among names name
