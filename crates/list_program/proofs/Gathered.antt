-- The rows of lines, taken one behind the other.
use Rattle.std.proofs.Common.{◌≡◌, ◌∙◌, ◌++◌, ℕ, suc, Bool, true, false, List, [], ◌∷◌, Option, Some, None, option_map, option_and_then, length, map, ap, sym, refl}
use Rattle.std.proofs.lemmas.List.{append-nil}
use Rattle.list_program.specs.Lines.{rows_from}
use Rattle.list_program.specs.Rows.{IsPut}

behind : {A : Type 0} → (done : List A) (r : A) (more : List A) → done ++ r ∷ more ≡ (done ++ r ∷ []) ++ more
behind [] r more = refl
behind (d ∷ done) r more = ap (λ rs. d ∷ rs) (behind done r more)

pub length_behind : {A : Type 0} → (done : List A) (r : A) → length (done ++ r ∷ []) ≡ suc (length done)
length_behind [] r = refl
length_behind (d ∷ done) r = ap suc (length_behind done r)

behind_all : {A : Type 0} → (done : List A) (r : A) (more : Option (List A)) →
    option_map (λ rs. done ++ rs) (option_map (λ rs. r ∷ rs) more) ≡ option_map (λ rs. (done ++ r ∷ []) ++ rs) more
behind_all done r None = refl
behind_all done r (Some more) = ap Some (behind done r more)

more_behind : {A : Type 0} → (row : ℕ → List ℕ → Option A) (n : ℕ) (done : List A) (line : List ℕ) (more : List (List ℕ)) (r : A) → row n line ≡ Some r →
    option_map (λ rs. done ++ rs) (rows_from row n (line ∷ more)) ≡ option_map (λ rs. (done ++ r ∷ []) ++ rs) (rows_from row (suc n) more)
more_behind row n done line more r h =
    ap (λ o. option_map (λ rs. done ++ rs) (option_and_then (λ r. option_map (λ rs. r ∷ rs) (rows_from row (suc n) more)) o)) h
    ∙ behind_all done r (rows_from row (suc n) more)

-- what the lines of a text are, where these rows are had and these lines are left
abbrev pub Left : {R A : Type 0} → (R → A) → (ℕ → List ℕ → Option A) → Option (List A) → List R → List (List ℕ) → Type 0
Left shown row all rows lines = all ≡ option_map (λ rs. map shown rows ++ rs) (rows_from row (length rows) lines)

-- a line that is a row
pub row_more : {R A : Type 0} → (shown : R → A) (row : ℕ → List ℕ → Option A) (all : Option (List A)) (old new : List R) (line : List ℕ) (left more : List (List ℕ)) (b : Bool) → b ≡ true →
    IsPut shown row line old new b → left ≡ line ∷ more → Left shown row all old left → Left shown row all new more
row_more shown row all old new line left more true e (r, is, shows, counts) l h =
    h
    ∙ ap (λ ls. option_map (λ rs. map shown old ++ rs) (rows_from row (length old) ls)) l
    ∙ more_behind row (length old) (map shown old) line more r is
    ∙ sym (ap (λ rows. option_map (λ rs. rows ++ rs) (rows_from row (length new) more)) shows ∙ ap (λ n. option_map (λ rs. (map shown old ++ r ∷ []) ++ rs) (rows_from row n more)) counts)
row_more shown row all old new line left more false e put l h = absurd (let bad : false ≡ true = e in cc)

-- a line that is none
pub row_none : {R A : Type 0} → (shown : R → A) (row : ℕ → List ℕ → Option A) (all : Option (List A)) (old new : List R) (line : List ℕ) (left more : List (List ℕ)) (b : Bool) → b ≡ false →
    IsPut shown row line old new b → left ≡ line ∷ more → Left shown row all old left → all ≡ None
row_none shown row all old new line left more false e is l h =
    h
    ∙ ap (λ ls. option_map (λ rs. map shown old ++ rs) (rows_from row (length old) ls)) l
    ∙ ap (λ o. option_map (λ rs. map shown old ++ rs) (option_and_then (λ r. option_map (λ rs. r ∷ rs) (rows_from row (suc (length old)) more)) o)) is
row_none shown row all old new line left more true e put l h = absurd (let bad : false ≡ true = sym e in cc)

-- no line is left
pub row_end : {R A : Type 0} → (shown : R → A) (row : ℕ → List ℕ → Option A) (all : Option (List A)) (rows : List R) (left : List (List ℕ)) → left ≡ [] → Left shown row all rows left → all ≡ Some (map shown rows)
row_end shown row all rows left l h =
    h ∙ ap (λ ls. option_map (λ rs. map shown rows ++ rs) (rows_from row (length rows) ls)) l ∙ ap Some (append-nil (map shown rows))

-- the last line, which is a row
pub row_last : {R A : Type 0} → (shown : R → A) (row : ℕ → List ℕ → Option A) (all : Option (List A)) (old new : List R) (line : List ℕ) (left : List (List ℕ)) (b : Bool) → b ≡ true →
    IsPut shown row line old new b → left ≡ line ∷ [] → Left shown row all old left → all ≡ Some (map shown new)
row_last shown row all old new line left b e put l h =
    row_end shown row all new [] refl (row_more shown row all old new line left [] b e put l h)
