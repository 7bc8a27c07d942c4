-- What a word that a rule finds stands for.
use Rattle.std.proofs.Common.{◌≡◌, ℕ, ◌≤◌, ◌⊎◌, inl, inr, Bool, true, false, List, [], ◌∷◌, ◌++◌, length, take, drop, Option, Some, None, refl, sym, ◌∙◌, ap, subst, arith, IfSome, option_map, append_assoc, length-append}
use Rattle.std.specs.Prelude.{codes, option_and_then, nat_eq, bytes_eq, ◌||◌, if◌then◌else◌}
use Rattle.std.specs.List.{starts_with, list_all, prefix_len, take_while}
use Rattle.std.proofs.lemmas.List.Folds.{length-prefix_len}
use Rattle.std.proofs.lemmas.List.{take-append-drop}
use Rattle.std.proofs.Math.Seq.{take-length, take-append_seam}
use Rattle.spdx_catalogue.specs.Names.{is_name_byte}
use Rattle.spdx_requirement.specs.Rows.{Rows}
use Rattle.spdx_catalogue.specs.RowRules.{is_well_formed}
use Rattle.spdx_catalogue.specs.LookUps.{listed, listed_exception, listed_caseless, listed_exception_caseless}
use Rattle.spdx_catalogue.proofs.Caseless.{bytes_same}
use Rattle.spdx_catalogue.proofs.Listed.{listed_is_license, listed_name, caseless_is_license, caseless_name, listed_is_exception, listed_exception_name, caseless_is_exception, caseless_exception_name}
use Rattle.spdx_lexer.specs.declared.token.ParseMode.{ParseMode}
use Rattle.spdx_lexer.specs.Words.{Word, Spdx, LicenseRef, Exception, AdditionRef, Unknown, With, And, Or}
use Rattle.spdx_lexer.specs.Text.{name_at, strip}
use Rattle.spdx_lexer.specs.Lexeme.{whole, operator, name_behind, names_behind, reference, document_reference}
use Rattle.spdx_lexer.specs.Groups.{Found, license_reference, addition_reference, exact, referred, caseless, by_run, unknown}
use Rattle.spdx_lexer.proofs.Allowed.{if_allowed}
use Rattle.spdx_requirement.specs.Texts.{reference_text}
use Rattle.spdx_lexer.specs.Layout.{IsSpelt, IsReference}
use Rattle.spdx_lexer.proofs.Front.{front_passes}
use Rattle.spdx_lexer.proofs.Found.{first_all}

-- ---- fronts

pub front_of : (run t more : List ℕ) → run ≡ t ++ more → (length t ≤ length run) × (take (length t) run ≡ t)
front_of run t more e = (omega (arith, ap length e, length-append t more), ap (take (length t)) e ∙ take-append_seam t more)

-- a text that begins with the prefix
strip_is : (prefix run rest : List ℕ) → strip prefix run ≡ Some rest → run ≡ prefix ++ rest
strip_is prefix run rest e = pick (starts_with nat_eq run prefix) refl e
  where
    pick : (t : Bool) → starts_with nat_eq run prefix ≡ t → (if t then Some (drop (length prefix) run) else None) ≡ Some rest → run ≡ prefix ++ rest
    pick true s g =
        let same : prefix ≡ take (length prefix) run = bytes_same prefix (take (length prefix) run) s in
        let behind : drop (length prefix) run ≡ rest = cc in
        sym (take-append-drop (length prefix) run) ∙ ap (λ (xs : List ℕ). xs ++ drop (length prefix) run) (sym same) ∙ ap (λ (xs : List ℕ). prefix ++ xs) behind
    pick false s g = absurd cc

-- a text is its longest front of such bytes, and the rest
pub cut_at : (p : ℕ → Bool) (bs : List ℕ) → bs ≡ take_while p bs ++ drop (length (take_while p bs)) bs
cut_at p bs = sym (ap (λ n. take_while p bs ++ drop n bs) (length-prefix_len p bs) ∙ take-append-drop (prefix_len p bs) bs)

-- ---- references

-- the run begins with the text of the reference
abbrev Begins : List ℕ → Option (List ℕ) → List ℕ → List ℕ → Type 0
Begins prefix d y run = ((more : List ℕ) × (run ≡ reference_text prefix d y ++ more)) × ((list_all is_name_byte y ≡ true) × IfSome d (λ (x : List ℕ). list_all is_name_byte x ≡ true))

name_begins : (prefix run y : List ℕ) → name_behind prefix run ≡ Some y → (more : List ℕ) × ((run ≡ prefix ++ (y ++ more)) × (list_all is_name_byte y ≡ true))
name_begins prefix run y e = pick (strip prefix run) refl e
  where
    pick : (o : Option (List ℕ)) → strip prefix run ≡ o → option_map name_at o ≡ Some y → (more : List ℕ) × ((run ≡ prefix ++ (y ++ more)) × (list_all is_name_byte y ≡ true))
    pick None s g = absurd cc
    pick (Some rest) s g =
        let same : name_at rest ≡ y = cc in (
          drop (length (name_at rest)) rest,
          (
            strip_is prefix run rest s ∙ ap (λ (xs : List ℕ). prefix ++ xs) (cut_at is_name_byte rest ∙ ap (λ (xs : List ℕ). xs ++ drop (length (name_at rest)) rest) same),
            subst (λ (xs : List ℕ). list_all is_name_byte xs ≡ true) same (front_passes is_name_byte rest),
          ),
        )

names_begin : (prefix run x y : List ℕ) → names_behind prefix run ≡ Some (x, y) → Begins prefix (Some x) y run
names_begin prefix run x y e = first (strip (codes "DocumentRef-") run) refl e
  where
    named : (rest rest' : List ℕ) → run ≡ codes "DocumentRef-" ++ rest → drop (length (name_at rest)) rest ≡ codes ":" ++ rest' → (o : Option (List ℕ)) → name_behind prefix rest' ≡ o → option_map {U = List ℕ × List ℕ} (λ (z : List ℕ). (name_at rest, z)) o ≡ Some (x, y) → Begins prefix (Some x) y run
    named rest rest' s t None n g = absurd cc
    named rest rest' s t (Some z) n g =
        let p : List ℕ × List ℕ = (name_at rest, z) in
        let q : List ℕ × List ℕ = (x, y) in
        let pairs : p ≡ q = cc in
        let one : name_at rest ≡ x = ap (λ (w : List ℕ × List ℕ). w.0) pairs in
        let two : z ≡ y = ap (λ (w : List ℕ × List ℕ). w.1) pairs in
        let behind = name_begins prefix rest' y (n ∙ ap Some two) in
        let more = behind.0 in
        let whole_run : run ≡ codes "DocumentRef-" ++ (x ++ (codes ":" ++ (prefix ++ (y ++ more)))) =
        s ∙ ap (λ (xs : List ℕ). codes "DocumentRef-" ++ xs) (cut_at is_name_byte rest ∙ ap (λ (xs : List ℕ). name_at rest ++ xs) (t ∙ ap (λ (xs : List ℕ). codes ":" ++ xs) behind.1.0) ∙ ap (λ (xs : List ℕ). xs ++ (codes ":" ++ (prefix ++ (y ++ more)))) one) in
        let joined : reference_text prefix (Some x) y ++ more ≡ codes "DocumentRef-" ++ (x ++ (codes ":" ++ (prefix ++ (y ++ more)))) =
        append_assoc (codes "DocumentRef-") (x ++ (codes ":" ++ (prefix ++ y))) more
        ∙ ap (λ (xs : List ℕ). codes "DocumentRef-" ++ xs) (append_assoc x (codes ":" ++ (prefix ++ y)) more
        ∙ ap (λ (xs : List ℕ). x ++ xs) (append_assoc (codes ":") (prefix ++ y) more ∙ ap (λ (xs : List ℕ). codes ":" ++ xs) (append_assoc prefix y more))) in
        ((more, whole_run ∙ sym joined), (behind.1.1, subst (λ (xs : List ℕ). list_all is_name_byte xs ≡ true) one (front_passes is_name_byte rest)))

    second : (rest : List ℕ) → run ≡ codes "DocumentRef-" ++ rest → (o : Option (List ℕ)) → strip (codes ":") (drop (length (name_at rest)) rest) ≡ o → option_map {U = List ℕ × List ℕ} (λ (z : List ℕ). (name_at rest, z)) (option_and_then (name_behind prefix) o) ≡ Some (x, y) → Begins prefix (Some x) y run
    second rest s None t g = absurd cc
    second rest s (Some rest') t g = named rest rest' s (strip_is (codes ":") (drop (length (name_at rest)) rest) rest' t) (name_behind prefix rest') refl g

    first : (o : Option (List ℕ)) → strip (codes "DocumentRef-") run ≡ o → option_and_then (λ rest. option_map {U = List ℕ × List ℕ} (λ (z : List ℕ). (name_at rest, z)) (option_and_then (name_behind prefix) (strip (codes ":") (drop (length (name_at rest)) rest)))) o ≡ Some (x, y) → Begins prefix (Some x) y run
    first None s g = absurd cc
    first (Some rest) s g = second rest (strip_is (codes "DocumentRef-") run rest s) (strip (codes ":") (drop (length (name_at rest)) rest)) refl g

-- ---- words of a run

module _ (c : Rows) (well : is_well_formed c ≡ true) (m : ParseMode) where
  -- the word stands for its bytes at the front of the text
  abbrev pub Stands : List ℕ → Word × ℕ → Type 0
  Stands text f = (f.1 ≤ length text) × IsSpelt c m f.0 (take f.1 text)

  -- a word of the whole run
  whole_stands : {A : Type 0} (run : List ℕ) (g : A → Word) (o : Option A) → ((x : A) → o ≡ Some x → IsSpelt c m (g x) run) → IfSome (whole run (option_map g o)) (Stands run)
  whole_stands run g None h = tt
  whole_stands run g (Some x) h = (omega arith, subst (IsSpelt c m (g x)) (sym (take-length run)) (h x refl))

  -- a reference at its front
  begun : (prefix run : List ℕ) (d : Option (List ℕ)) (y : List ℕ) → Begins prefix d y run → (length (reference_text prefix d y) ≤ length run) × IsReference prefix d y (take (length (reference_text prefix d y)) run)
  begun prefix run d y b = let front = front_of run (reference_text prefix d y) b.0.0 b.0.1 in (front.0, (front.1, b.1))

  reference_stands : (prefix run : List ℕ) (word : Option (List ℕ) → List ℕ → Word) → ((d : Option (List ℕ)) (y text : List ℕ) → IsReference prefix d y text → IsSpelt c m (word d y) text) → IfSome (reference prefix word run) (Stands run)
  reference_stands prefix run word h = pick (name_behind prefix run) refl
    where
      pick : (o : Option (List ℕ)) → name_behind prefix run ≡ o → IfSome (option_map {U = Word × ℕ} (λ y. (word None y, length (reference_text prefix None y))) o) (Stands run)
      pick None e = tt
      pick (Some y) e =
          let n = name_begins prefix run y e in
          let b = begun prefix run None y ((n.0, n.1.0 ∙ sym (append_assoc prefix y n.0)), (n.1.1, tt)) in
          (b.0, h None y _ b.1)

  document_stands : (prefix run : List ℕ) (word : Option (List ℕ) → List ℕ → Word) → ((d : Option (List ℕ)) (y text : List ℕ) → IsReference prefix d y text → IsSpelt c m (word d y) text) → IfSome (document_reference prefix word run) (Stands run)
  document_stands prefix run word h = pick (names_behind prefix run) refl
    where
      pick : (o : Option (List ℕ × List ℕ)) → names_behind prefix run ≡ o → IfSome (option_map {U = Word × ℕ} (λ (n : List ℕ × List ℕ). (word (Some n.0) n.1, length (reference_text prefix (Some n.0) n.1))) o) (Stands run)
      pick None e = tt
      pick (Some n) e = let b = begun prefix run (Some n.0) n.1 (names_begin prefix run n.0 n.1 e) in (b.0, h (Some n.0) n.1 _ b.1)

  referred_stands : (run : List ℕ) → IfSome (referred run) (Stands run)
  referred_stands run =
      first_all (Stands run) (license_reference run ∷ addition_reference run ∷ []) (
        first_all (Stands run) (document_reference (codes "LicenseRef-") LicenseRef run ∷ reference (codes "LicenseRef-") LicenseRef run ∷ [])
            (document_stands (codes "LicenseRef-") run LicenseRef (λ d y text r. r), (reference_stands (codes "LicenseRef-") run LicenseRef (λ d y text r. r), tt)),
        (
          first_all (Stands run) (document_reference (codes "AdditionRef-") AdditionRef run ∷ reference (codes "AdditionRef-") AdditionRef run ∷ [])
              (document_stands (codes "AdditionRef-") run AdditionRef (λ d y text r. r), (reference_stands (codes "AdditionRef-") run AdditionRef (λ d y text r. r), tt)),
          tt,
        ),
      )

  either : (run x y : List ℕ) → bytes_eq run x || bytes_eq run y ≡ true → (run ≡ x) ⊎ (run ≡ y)
  either run x y e = pick (bytes_eq run x) refl e
    where
      pick : (t : Bool) → bytes_eq run x ≡ t → t || bytes_eq run y ≡ true → (run ≡ x) ⊎ (run ≡ y)
      pick true s g = inl (bytes_same run x s)
      pick false s g = inr (bytes_same run y g)

  operator_stands : (run : List ℕ) → IfSome (whole run (operator run)) (Stands run)
  operator_stands run = pick _ _ _ (either run (codes "AND") (codes "and")) (λ e. inl (either run (codes "OR") (codes "or") e)) (either run (codes "WITH") (codes "with"))
    where
      here : (w : Word) → IsSpelt c m w run → Stands run (w, length run)
      here w h = (omega arith, subst (IsSpelt c m w) (sym (take-length run)) h)

      pick : (s t u : Bool) → (s ≡ true → IsSpelt c m And run) → (t ≡ true → IsSpelt c m Or run) → (u ≡ true → IsSpelt c m With run) → IfSome (whole run (if s then Some And else if t then Some Or else if u then Some With else None)) (Stands run)
      pick true t u a o w = here And (a refl)
      pick false true u a o w = here Or (o refl)
      pick false false true a o w = here With (w refl)
      pick false false false a o w = tt

  exact_stands : (run : List ℕ) → IfSome (exact c run) (Stands run)
  exact_stands run =
      first_all (Stands run) (whole run (operator run) ∷ whole run (option_map Spdx (listed c.licenses run)) ∷ whole run (option_map Exception (listed_exception c.exceptions run)) ∷ []) (
        operator_stands run,
        (
          whole_stands run Spdx (listed c.licenses run) (λ r e. (listed_is_license c well run r e, inl (inl (sym (listed_name c well run r e))))),
          (whole_stands run Exception (listed_exception c.exceptions run) (λ r e. (listed_is_exception c well run r e, inl (sym (listed_exception_name c well run r e)))), tt),
        ),
      )

  pub if_allowed_all : (P : Word × ℕ → Type 0) (b : Bool) (f : Found) → (b ≡ true → IfSome f P) → IfSome (if_allowed b f) P
  if_allowed_all P true f h = h refl
  if_allowed_all P false f h = tt

  caseless_stands : (run : List ℕ) → IfSome (caseless c m run) (Stands run)
  caseless_stands run =
      if_allowed_all (Stands run) m.allow_caseless_ids _ (λ on. first_all (Stands run) (whole run (option_map Spdx (listed_caseless c.licenses run)) ∷ whole run (option_map Exception (listed_exception_caseless c.exceptions run)) ∷ []) (
        whole_stands run Spdx (listed_caseless c.licenses run) (λ r e. (caseless_is_license c well run r e, inl (inr (on, caseless_name c well run r e)))),
        (whole_stands run Exception (listed_exception_caseless c.exceptions run) (λ r e. (caseless_is_exception c well run r e, inr (on, caseless_exception_name c well run r e))), tt),
      ))

  pub by_run_stands : (run : List ℕ) → IfSome (by_run c m run) (Stands run)
  by_run_stands run = first_all (Stands run) (exact c run ∷ referred run ∷ caseless c m run ∷ []) (exact_stands run, (referred_stands run, (caseless_stands run, tt)))

  pub unknown_stands : (run : List ℕ) → IfSome (unknown m run) (Stands run)
  unknown_stands run = if_allowed_all (Stands run) m.allow_unknown _ (λ on. (omega arith, subst (IsSpelt c m (Unknown run)) (sym (take-length run)) (on, refl)))
