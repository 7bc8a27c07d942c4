-- Texts with their words, and files under words. Only private clauses cite it.
use Rattle.std.specs.Prelude.{◌≡◌, ℕ, Bool, not, List, [], ◌∷◌, ◌++◌, Option, Some, None, Vec, bytes_eq, map, filter, option_map, unwrap_or, if◌then◌else◌}
use Rattle.std.specs.Borrow.{Bor}
use Rattle.std.specs.List.{list_any}
use Rattle.std.specs.Ordering.{nat_cmp}
use Rattle.std.specs.Cmp.Lexicographic.{slice_cmp}
use Rattle.std.specs.BTreeMap.{BTreeMap, get_by}
use Rattle.std.specs.declared.alloc.Global.{Global}
use Rattle.notice_texts.specs.declared.keyed.Keyed.{Keyed}
use Rattle.notice_texts.specs.declared.texts.Holder.{Holder}
use Rattle.notice_texts.specs.Words.{lines_of_words}
use Rattle.notice_texts.specs.Shared.{Held, Own, Shared, held, own}

-- a text and its words, a line each
pub record Entry : Type 0 where
  pub key : List ℕ
  pub text : Own

abbrev pub entry : Own → Entry
entry t = record { key = lines_of_words t.bytes; text = t }

abbrev pub entry_of : Keyed → Entry
entry_of k = record { key = k.key.items; text = own k.text }

-- those before which none has the same key
abbrev pub firsts : List Entry → List Entry
firsts [] = []
firsts (e ∷ es) = e ∷ filter (λ f. not (bytes_eq e.key f.key)) (firsts es)

abbrev pub holders_under : List ℕ → List Entry → List Held
holders_under q es = map (λ (e : Entry). e.text.holder) (filter (λ e. bytes_eq q e.key) es)

-- an entry's text, and all that have it
abbrev pub shared_by : List Entry → Entry → Shared
shared_by es e = record { bytes = e.text.bytes; holders = holders_under e.key es }

abbrev pub is_met : List Entry → List ℕ → Bool
is_met es q = list_any (λ e. bytes_eq e.key q) es

-- ---- files under keys

abbrev pub Holders : Type 0
Holders = BTreeMap (Bor (List ℕ)) (Vec Holder Global)

abbrev pub holders_at : Holders → List ℕ → Option (List Holder)
holders_at m q =
    option_map (λ (v : Vec Holder Global). v.items)
    (get_by (λ (k : Bor (List ℕ)). slice_cmp nat_cmp q k.now) m)

-- under that key the file stands last, and under each other one what stood there
abbrev pub Notes : Holders → List ℕ → Holder → Holders → Type 0
Notes old key h new =
    (q : List ℕ) →
    holders_at new q ≡
    (if bytes_eq key q then Some (unwrap_or (holders_at old key) [] ++ h ∷ [])
    else holders_at old q)

-- under that key nothing stands, and under each other one what stood there
abbrev pub Takes : Holders → List ℕ → Holders → Type 0
Takes old key new =
    (q : List ℕ) → holders_at new q ≡ (if bytes_eq key q then None else holders_at old q)

-- those that there are
abbrev pub some_of : List Held → Option (List Held)
some_of [] = None
some_of (h ∷ hs) = Some (h ∷ hs)

abbrev pub HasEach : Holders → List Entry → Type 0
HasEach m es =
    (q : List ℕ) → option_map (map held) (holders_at m q) ≡ some_of (holders_under q es)

-- the same but for the keys that are met
abbrev pub HasRest : Holders → List Entry → List Entry → Type 0
HasRest m es met =
    (q : List ℕ) →
    option_map (map held) (holders_at m q)
    ≡ (if is_met met q then None else some_of (holders_under q es))
