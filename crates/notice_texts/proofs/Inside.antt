-- A path that is taken stays inside.
use Rattle.std.proofs.Common.{◌≡◌, ℕ, Bool, true, false, cond, List, [], ◌∷◌, ◌++◌, length, refl, sym, ◌∙◌, append_assoc, append-nil}
use Rattle.std.specs.Prelude.{not, ◌&&◌, ◌==◌, filter, if◌then◌else◌}
use Rattle.std.specs.List.{list_all}
use Rattle.notice_texts.specs.Names.{name_in}
use Rattle.notice_texts.specs.Paths.{parts, is_dot, is_up, is_clean, is_step, is_inside, go, go_all, begins_above, less_last, StaysInside}

both : (a b : Bool) → (a && b) ≡ true → (a ≡ true) × (b ≡ true)
both true b h = (refl, h)
both false b h = absurd (let bad : false ≡ true = h in cc)

-- one step more
step_so : (folder : List (List ℕ)) (part : List ℕ) (rest : List (List ℕ)) (empty dot up : Bool) → empty ≡ false → up ≡ false →
    (if empty then folder else if dot then folder else if up then less_last folder else folder ++ part ∷ []) ++ rest ≡ folder ++ cond (not dot) (part ∷ rest) rest
step_so folder part rest true dot up e u = absurd (let bad : true ≡ false = e in cc)
step_so folder part rest false true up e u = refl
step_so folder part rest false false true e u = absurd (let bad : true ≡ false = u in cc)
step_so folder part rest false false false e u = append_assoc folder (part ∷ []) rest

is_false : (b : Bool) → not b ≡ true → b ≡ false
is_false true h = absurd (let bad : false ≡ true = h in cc)
is_false false h = refl

all_steps : (ps : List (List ℕ)) (folder : List (List ℕ)) → list_all is_step ps ≡ true → go_all folder ps ≡ folder ++ filter (λ part. not (is_dot part)) ps
all_steps [] folder h = sym (append-nil folder)
all_steps (p ∷ ps) folder h =
    let split = both (is_step p) (list_all is_step ps) h in
    let full = both (not (length p == 0)) (not (is_up p) && is_clean p) split.0 in
    let up = both (not (is_up p)) (is_clean p) full.1 in
    all_steps ps (go folder p) split.1
    ∙ step_so folder p (filter (λ part. not (is_dot part)) ps) (length p == 0) (is_dot p) (is_up p) (is_false (length p == 0) full.0) (is_false (is_up p) up.0)

-- what begins with `/` has an empty part
first_so : (b : ℕ) (bytes : List ℕ) (c : Bool) → (b == 47) ≡ c → list_all is_step (parts (b ∷ bytes)) ≡ true → c ≡ false
first_so b bytes true e h = absurd (let bad : false ≡ true = rw e at h in cc)
first_so b bytes false e h = refl

not_above : (path : List ℕ) → list_all is_step (parts path) ≡ true → begins_above path ≡ false
not_above [] h = refl
not_above (b ∷ bytes) h = first_so b bytes (b == 47) refl h

pub stays_inside : (path : List ℕ) → is_inside path ≡ true → StaysInside path
stays_inside path h folder =
    let steps = both (list_all is_step (parts path)) (not (is_dot (name_in path))) h in
    rw (not_above path steps.0) (all_steps (parts path) folder steps.0)
