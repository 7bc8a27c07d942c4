-- Files under keys.
use Rattle.std.proofs.Common.{◌≡◌, ℕ, ◌+◌, ◌<◌, Bool, true, false, cond, List, [], ◌∷◌, ◌++◌, Option, Some, None, Bor, Vec, Global, length, get_or, map, take, refl, sym, ap, ◌∙◌}
use Rattle.std.specs.Prelude.{bytes_eq, filter, option_map, unwrap_or}
use Rattle.std.specs.Ordering.{nat_cmp}
use Rattle.std.specs.Cmp.Lexicographic.{slice_cmp}
use Rattle.std.specs.BTreeMap.{UpdatesBy, get_by}
use Rattle.std.proofs.lemmas.Cmp.{nat_list_eq_equiv}
use Rattle.std.proofs.lemmas.List.{append-nil, map-append, take_more}
use Rattle.std.proofs.lemmas.List.Elements.{filter-append}
use Rattle.std.proofs.lemmas.Map.Text.{btree_map_updates_str}
use Rattle.std.proofs.lemmas.Slice.Eq.{bytes_eq-Decides}
use Rattle.notice_texts.specs.declared.texts.Holder.{Holder}
use Rattle.notice_texts.specs.Shared.{Held, held}
use Rattle.notice_texts.specs.Entries.{Entry, Holders, holders_at, holders_under, some_of, Takes, Notes, HasEach}

abbrev pub items : Vec Holder Global → List Holder
items v = v.items

-- what one change at a key does
abbrev Updates : Holders → Holders → List ℕ → Option (Vec Holder Global) → Type 0
Updates m n key w =
    UpdatesBy (λ (x : Bor (List ℕ)) (y : Bor (List ℕ)). slice_cmp nat_cmp x.now y.now) (λ (k : Bor (List ℕ)). slice_cmp nat_cmp key k.now) m n w

at_cond : (b : Bool) (w x : Option (Vec Holder Global)) → option_map items (cond b w x) ≡ cond b (option_map items w) (option_map items x)
at_cond true w x = refl
at_cond false w x = refl

after : (m n : Holders) (key : List ℕ) (w : Option (Vec Holder Global)) → Updates m n key w → (q : List ℕ) → holders_at n q ≡ cond (bytes_eq key q) (option_map items w) (holders_at m q)
after m n key w u q =
    ap (option_map items) (btree_map_updates_str key m n w u q)
    ∙ at_cond (bytes_eq key q) w (get_by (λ (k : Bor (List ℕ)). slice_cmp nat_cmp q k.now) m)

pub takes : (m n : Holders) (key : List ℕ) → Updates m n key None → Takes m key n
takes m n key u q = after m n key None u q

noted_so : (b : Bool) (x : Option (List Holder)) (old mid : Option (List Holder)) → mid ≡ cond b None old → cond b x mid ≡ cond b x old
noted_so true x old mid e = refl
noted_so false x old mid e = e

pub notes : (m mid n : Holders) (key : List ℕ) (v : Vec Holder Global) (h : Holder) (hs : List Holder) → Takes m key mid → hs ≡ unwrap_or (holders_at m key) [] → v.items ≡ hs ++ h ∷ [] → Updates mid n key (Some v) → Notes m key h n
notes m mid n key v h hs taken is pushed u q =
    after mid n key (Some v) u q
    ∙ noted_so (bytes_eq key q) (Some v.items) (holders_at m q) (holders_at mid q) (taken q)
    ∙ ap (λ (x : List Holder). cond (bytes_eq key q) (Some x) (holders_at m q)) (pushed ∙ ap (λ (x : List Holder). x ++ h ∷ []) is)

-- ---- one entry more

pub symm : (x y : List ℕ) → bytes_eq x y ≡ bytes_eq y x
symm x y = nat_list_eq_equiv.symm x y

pub equal : (x y : List ℕ) → bytes_eq x y ≡ true → x ≡ y
equal x y h = (bytes_eq-Decides x y).0 h

pub map_more : {X A : Type 0} (g : X → A) (xs : List X) (i : ℕ) (d : X) → i < length xs → map g (take (i + 1) xs) ≡ map g (take i xs) ++ g (get_or xs i d) ∷ []
map_more g xs i d lt = ap (map g) (take_more xs i d lt) ∙ map-append g (take i xs) (get_or xs i d ∷ [])

last : (b : Bool) (e : Entry) → map (λ (f : Entry). f.text.holder) (cond b (e ∷ []) []) ≡ cond b (e.text.holder ∷ []) []
last true e = refl
last false e = refl

under_more : (q : List ℕ) (es : List Entry) (e : Entry) → holders_under q (es ++ e ∷ []) ≡ holders_under q es ++ cond (bytes_eq e.key q) (e.text.holder ∷ []) []
under_more q es e =
    ap (map (λ (f : Entry). f.text.holder)) (filter-append (λ (f : Entry). bytes_eq q f.key) es (e ∷ []))
    ∙ map-append (λ (f : Entry). f.text.holder) (filter (λ (f : Entry). bytes_eq q f.key) es) (cond (bytes_eq q e.key) (e ∷ []) [])
    ∙ ap (λ (hs : List Held). holders_under q es ++ hs) (last (bytes_eq q e.key) e)
    ∙ ap (λ (b : Bool). holders_under q es ++ cond b (e.text.holder ∷ []) []) (symm q e.key)

some_pushed : (hs : List Held) (h : Held) → some_of (hs ++ h ∷ []) ≡ Some (hs ++ h ∷ [])
some_pushed [] h = refl
some_pushed (x ∷ hs) h = refl

or_none : (hs : List Held) → unwrap_or (some_of hs) [] ≡ hs
or_none [] = refl
or_none (x ∷ hs) = refl

or_map : (x : Option (List Holder)) → map held (unwrap_or x []) ≡ unwrap_or (option_map (map held) x) []
or_map None = refl
or_map (Some x) = refl

abbrev Has : Holders → List Entry → List ℕ → Type 0
Has m es q = option_map (map held) (holders_at m q) ≡ some_of (holders_under q es)

pushed : (m : Holders) (es : List Entry) (key : List ℕ) (h : Holder) → Has m es key → Some (map held (unwrap_or (holders_at m key) [] ++ h ∷ [])) ≡ some_of (holders_under key es ++ held h ∷ [])
pushed m es key h has =
    let before : map held (unwrap_or (holders_at m key) []) ≡ holders_under key es = or_map (holders_at m key) ∙ ap (λ (x : Option (List Held)). unwrap_or x []) has ∙ or_none (holders_under key es) in
    ap (λ (x : List Held). Some x) (map-append held (unwrap_or (holders_at m key) []) (h ∷ []) ∙ ap (λ (x : List Held). x ++ held h ∷ []) before)
    ∙ sym (some_pushed (holders_under key es) (held h))

more_so : (m : Holders) (es : List Entry) (e : Entry) (h : Holder) (q : List ℕ) (b : Bool) → bytes_eq e.key q ≡ b → held h ≡ e.text.holder → HasEach m es →
    option_map (map held) (cond b (Some (unwrap_or (holders_at m e.key) [] ++ h ∷ [])) (holders_at m q)) ≡ some_of (holders_under q es ++ cond b (e.text.holder ∷ []) [])
more_so m es e h q true eq is has =
    pushed m es e.key h (has e.key)
    ∙ ap (λ (x : Held). some_of (holders_under e.key es ++ x ∷ [])) is
    ∙ ap (λ (k : List ℕ). some_of (holders_under k es ++ e.text.holder ∷ [])) (equal e.key q eq)
more_so m es e h q false eq is has = has q ∙ ap some_of (sym (append-nil (holders_under q es)))

pub has_more : (m n : Holders) (es : List Entry) (e : Entry) (h : Holder) → HasEach m es → held h ≡ e.text.holder → Notes m e.key h n → HasEach n (es ++ e ∷ [])
has_more m n es e h has is noted q =
    ap (option_map (map held)) (noted q) ∙ more_so m es e h q (bytes_eq e.key q) refl is has ∙ ap some_of (sym (under_more q es e))
