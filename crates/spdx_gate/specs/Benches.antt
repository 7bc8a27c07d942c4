-- What one text more does to the judgements, and where those of a text may stand.
use Rattle.std.specs.Prelude.{◌≡◌, ℕ, List, [], ◌∷◌, ◌++◌, flat_map, decimal, Option, Some, None, String, Vec, Contains, bytes_eq, if◌then◌else◌}
use Rattle.std.specs.Option.{option_map_or}
use Rattle.std.specs.BTreeMap.{BTreeMap, get_by_text}
use Rattle.std.specs.declared.alloc.Global.{Global}
use Rattle.std.proofs.Common.{◌⊎◌}
use Rattle.spdx_requirement.specs.Rows.{Rows}
use Rattle.spdx_policy.specs.Rules.{Rules}
use Rattle.spdx_gate.specs.declared.judgement.Judgement.{Judgement}
use Rattle.spdx_gate.specs.declared.package.Package.{Package}
use Rattle.spdx_gate.specs.Reports.{IsOf, IsAt, IsRight, tables_of, text_of}

-- none of the judgements is of this text under these exceptions
abbrev pub IsUnknown : List Judgement → List ℕ → List ℕ → Type 0
IsUnknown js tables text = (k : ℕ) → IsAt js tables text k → ⊥

-- one more, which is right and of this text under these exceptions, as none before it
pub record AddsOne (c : Rows) (p : Rules) (tables text : List ℕ)
    (old new : List Judgement) : Type 0 where
  pub judgement : Judgement
  pub last : new ≡ old ++ judgement ∷ []
  pub is_of : IsOf tables text judgement
  pub right : IsRight c p judgement
  pub unknown : IsUnknown old tables text

-- none more, or that one
abbrev pub Adds : Rows → Rules → List ℕ → List ℕ → List Judgement → List Judgement → Type 0
Adds c p tables text old new = (new ≡ old) ⊎ AddsOne c p tables text old new

-- what a package does to them: nothing where it states no text
abbrev pub AddsOf : Rows → Rules → List ℕ → Option (List ℕ) → List Judgement → List Judgement →
    Type 0
AddsOf c p tables None old new = new ≡ old
AddsOf c p tables (Some text) old new = Adds c p tables text old new

abbrev pub AddsFor : Rows → Rules → Package → List Judgement → List Judgement → Type 0
AddsFor c p x old new = AddsOf c p (tables_of p x) (text_of p x) old new

-- a number, as a key has it
abbrev pub number_key : ℕ → List ℕ
number_key n = decimal n ++ 32 ∷ []

-- the key of a text under some exceptions; without any it is the text
abbrev pub key_of : List ℕ → List ℕ → List ℕ
key_of tables text = flat_map number_key tables ++ text

-- places under keys
abbrev pub Index : Type 0
Index = BTreeMap (String Global) (Vec ℕ Global)

abbrev pub places_at : Index → List ℕ → List ℕ
places_at by_key key = option_map_or (λ (v : Vec ℕ Global). v.items) (get_by_text by_key key) []

-- under that key the place stands last, and under each other one what stood there
abbrev pub Notes : Index → List ℕ → ℕ → Index → Type 0
Notes old key place new =
    (q : List ℕ) → places_at new
    q ≡ (if bytes_eq q key then places_at old q ++ place ∷ [] else places_at old q)

-- the place of each judgement stands under its key
abbrev pub IsIndex : Index → List Judgement → Type 0
IsIndex by_key js =
    (tables text : List ℕ) (k : ℕ) → IsAt js tables text k →
    Contains (places_at by_key (key_of tables text)) k
