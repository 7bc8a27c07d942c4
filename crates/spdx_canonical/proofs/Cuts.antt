-- A reference at the front of a run.
use Rattle.std.proofs.Common.{◌≡◌, ℕ, Bool, true, false, cond, ◌&&◌, nat_eq, List, [], ◌∷◌, ◌++◌, length, take, drop, Option, Some, None, refl, sym, ◌∙◌, ap, subst, option_map, IfSome, append_assoc}
use Rattle.std.specs.Prelude.{option_and_then, codes, take_while}
use Rattle.std.specs.List.{list_all, prefix_len, starts_with}
use Rattle.std.proofs.lemmas.List.{take-append-drop}
use Rattle.std.proofs.lemmas.List.Folds.{length-prefix_len}
use Rattle.std.proofs.lemmas.List.Sums.{take_while-cons}
use Rattle.spdx_catalogue.specs.Names.{is_name_byte}
use Rattle.spdx_catalogue.proofs.Caseless.{bytes_same}
use Rattle.spdx_lexer.specs.Text.{name_at, strip}
use Rattle.spdx_lexer.specs.Lexeme.{name_behind, names_behind}
use Rattle.spdx_requirement.specs.Texts.{reference_text}
use Rattle.spdx_canonical.proofs.Lexed.{and_both}
use Rattle.spdx_canonical.proofs.Terms.{Stops}

-- ---- fronts

pub strip_is : (p t rest : List ℕ) → strip p t ≡ Some rest → t ≡ p ++ rest
strip_is p t rest e = parts (starts_with nat_eq t p) refl e
  where
    parts : (b : Bool) → starts_with nat_eq t p ≡ b → cond b (Some (drop (length p) t)) None ≡ Some rest → t ≡ p ++ rest
    parts true s e =
        let r : drop (length p) t ≡ rest = cc in
        sym (take-append-drop (length p) t) ∙ ap (λ (x : List ℕ). x ++ drop (length p) t) (sym (bytes_same p (take (length p) t) s)) ∙ ap (λ (x : List ℕ). p ++ x) r
    parts false s e = absurd cc

module _ (p : ℕ → Bool) where
  pub front_split : (t : List ℕ) → t ≡ take_while p t ++ drop (length (take_while p t)) t
  front_split t = sym (take-append-drop (prefix_len p t) t) ∙ ap (λ n. take_while p t ++ drop n t) (sym (length-prefix_len p t))

  pub front_all : (t : List ℕ) → list_all p (take_while p t) ≡ true
  front_all [] = refl
  front_all (x ∷ t) = ap (list_all p) (take_while-cons p x t) ∙ each (p x) refl (front_all t)
    where
      each : (b : Bool) → p x ≡ b → list_all p (take_while p t) ≡ true → list_all p (cond b (x ∷ take_while p t) []) ≡ true
      each true e h = ap (λ y. y && list_all p (take_while p t)) e ∙ h
      each false e h = refl

  pub front_stops : (t : List ℕ) → Stops p (drop (length (take_while p t)) t)
  front_stops [] = tt
  front_stops (x ∷ t) = subst (λ (f : List ℕ). Stops p (drop (length f) (x ∷ t))) (sym (take_while-cons p x t)) (each (p x) refl (front_stops t))
    where
      each : (b : Bool) → p x ≡ b → Stops p (drop (length (take_while p t)) t) → Stops p (drop (length (cond b (x ∷ take_while p t) [])) (x ∷ t))
      each true e h = h
      each false e h = e

  pub all_after : (xs ys : List ℕ) → list_all p (xs ++ ys) ≡ true → list_all p ys ≡ true
  all_after [] ys h = h
  all_after (x ∷ xs) ys h = all_after xs ys (and_both (p x) (list_all p (xs ++ ys)) h).1

-- ---- a reference at the front of a run

pub record Cut (p : List ℕ) (d : Option (List ℕ)) (y run : List ℕ) : Type 0 where
  pub tail : List ℕ
  pub split : run ≡ reference_text p d y ++ tail
  pub stops : Stops is_name_byte tail
  pub name : list_all is_name_byte y ≡ true
  pub document : IfSome d (λ x. list_all is_name_byte x ≡ true)

pub cut_name : (p run : List ℕ) → IfSome (name_behind p run) (λ y. Cut p None y run)
cut_name p run = go (strip p run) refl
  where
    go : (o : Option (List ℕ)) → strip p run ≡ o → IfSome (option_map name_at o) (λ y. Cut p None y run)
    go None e = tt
    go (Some rest) e = record {
      tail = drop (length (name_at rest)) rest;
      split = strip_is p run rest e ∙ ap (λ (t : List ℕ). p ++ t) (front_split is_name_byte rest) ∙ sym (append_assoc p (name_at rest) (drop (length (name_at rest)) rest));
      stops = front_stops is_name_byte rest;
      name = front_all is_name_byte rest;
      document = tt;
    }

module _ (p run r1 : List ℕ) (e1 : strip (codes "DocumentRef-") run ≡ Some r1) where
  third : (r2 : List ℕ) → strip (codes ":") (drop (length (name_at r1)) r1) ≡ Some r2 → (o : Option (List ℕ)) → strip p r2 ≡ o → IfSome (option_map (λ (y : List ℕ). (name_at r1, y)) (option_map name_at o)) (λ (n : List ℕ × List ℕ). Cut p (Some n.0) n.1 run)
  third r2 e2 None e = tt
  third r2 e2 (Some r3) e =
      let x = name_at r1 in
      let y = name_at r3 in
      let tail = drop (length y) r3 in
      let flat : codes "DocumentRef-" ++ (x ++ (codes ":" ++ (p ++ (y ++ tail)))) ≡ reference_text p (Some x) y ++ tail = simp append_assoc in
      record {
        tail = tail;
        split = strip_is (codes "DocumentRef-") run r1 e1 ∙ ap (λ (t : List ℕ). codes "DocumentRef-" ++ t) (front_split is_name_byte r1 ∙ ap (λ (t : List ℕ). x ++ t) (strip_is (codes ":") (drop (length x) r1) r2 e2 ∙ ap (λ (t : List ℕ). codes ":" ++ t) (strip_is p r2 r3 e ∙ ap (λ (t : List ℕ). p ++ t) (front_split is_name_byte r3)))) ∙ flat;
        stops = front_stops is_name_byte r3;
        name = front_all is_name_byte r3;
        document = front_all is_name_byte r1;
      }

  second : (o : Option (List ℕ)) → strip (codes ":") (drop (length (name_at r1)) r1) ≡ o → IfSome (option_map (λ (y : List ℕ). (name_at r1, y)) (option_and_then (name_behind p) o)) (λ (n : List ℕ × List ℕ). Cut p (Some n.0) n.1 run)
  second None e = tt
  second (Some r2) e = third r2 e (strip p r2) refl

pub cut_names : (p run : List ℕ) → IfSome (names_behind p run) (λ (n : List ℕ × List ℕ). Cut p (Some n.0) n.1 run)
cut_names p run = go (strip (codes "DocumentRef-") run) refl
  where
    go : (o : Option (List ℕ)) → strip (codes "DocumentRef-") run ≡ o → IfSome (option_and_then (λ rest. option_map (λ (y : List ℕ). (name_at rest, y)) (option_and_then (name_behind p) (strip (codes ":") (drop (length (name_at rest)) rest)))) o) (λ (n : List ℕ × List ℕ). Cut p (Some n.0) n.1 run)
    go None e = tt
    go (Some r1) e = second p run r1 e (strip (codes ":") (drop (length (name_at r1)) r1)) refl
