-- What is written and told, one after the other.
use Rattle.std.proofs.Common.{◌≡◌, ◌∙◌, refl, sym, ap, subst, inl, inr, ◌⊎◌, ℕ, Bool, true, false, List, [], ◌∷◌, ◌++◌, append_assoc, append-nil}
use Rattle.std.proofs.KnownBytes.{Appends-nil, Appends-trans}
use Rattle.line_engine.specs.Device.{Told}
use Rattle.check_files.specs.Told.{Account, AreMarks, AreTexts, Does, Hears, IsBetween, Puts, Writes, before, clear, cleared, each, none, shown, shown_count, texts, unkept}

-- ---- what is written of what is told

marks_append : {x y : List ℕ} → AreMarks x → AreMarks y → AreMarks (x ++ y)
marks_append none q = q
marks_append {y = y} (shown files rest p) q = subst AreMarks (sym (append_assoc (shown_count files) rest y)) (shown files (rest ++ y) (marks_append p q))
marks_append {y = y} (cleared rest p) q = subst AreMarks (sym (append_assoc clear rest y)) (cleared (rest ++ y) (marks_append p q))

pub none_between : (on : Bool) → IsBetween on []
none_between false = refl
none_between true = none

between_append : (on : Bool) (x y : List ℕ) → IsBetween on x → IsBetween on y → IsBetween on (x ++ y)
between_append false x y p q = ap (λ (l : List ℕ). l ++ y) p ∙ q
between_append true x y p q = marks_append p q

module _ {A : Type 0} (on : Bool) (f : List ℕ → A → List ℕ) where
  texts_behind : (ys : List A) (x y : List ℕ) → IsBetween on x → AreTexts on f ys y → AreTexts on f ys (x ++ y)
  texts_behind [] x y p q = between_append on x y p q
  texts_behind (a ∷ ys) x y p q =
      (x ++ q.0, q.1, q.2, between_append on x q.0 p q.3, ap (λ (l : List ℕ). x ++ l) q.4 ∙ sym (append_assoc x q.0 (before on ++ (f q.1 a ++ q.2))), q.5)

  texts_append : (xs ys : List A) (x y : List ℕ) → AreTexts on f xs x → AreTexts on f ys y → AreTexts on f (xs ++ ys) (x ++ y)
  texts_append [] ys x y p q = texts_behind ys x y p q
  texts_append (a ∷ xs) ys x y p q = (
    p.0,
    p.1,
    p.2 ++ y,
    p.3,
    ap (λ (l : List ℕ). l ++ y) p.4
        ∙ append_assoc p.0 (before on ++ (f p.1 a ++ p.2)) y
        ∙ ap (λ (l : List ℕ). p.0 ++ l) (append_assoc (before on) (f p.1 a ++ p.2) y ∙ ap (λ (l : List ℕ). before on ++ l) (append_assoc (f p.1 a) p.2 y)),
    texts_append xs ys p.2 y p.5 q,
  )

  module _ (a b c : Told) (xs ys : List A) where
    joined : (b.has_failed ≡ true) ⊎ Writes a b (AreTexts on f xs) → (c.has_failed ≡ true) ⊎ Writes b c (AreTexts on f ys)
        → (b.has_failed ≡ true → c.has_failed ≡ true) → (c.has_failed ≡ true) ⊎ Writes a c (AreTexts on f (xs ++ ys))
    joined (inl failed) q stays = inl (stays failed)
    joined (inr w) (inl failed) stays = inl failed
    joined (inr w) (inr v) stays =
        inr (w.0 ++ v.0, Appends-trans a.bytes b.bytes c.bytes w.0 v.0 w.1 v.1, texts_append xs ys w.0 v.0 w.2 v.2)

    put_both : Puts a b (AreTexts on f xs) → Puts b c (AreTexts on f ys) → Puts a c (AreTexts on f (xs ++ ys))
    put_both p q = record { stays = λ failed. q.stays (p.stays failed); writes = joined p.writes q.writes q.stays }

pub hears_nil : {A : Type 0} (a : Account A) → Hears a a []
hears_nil unkept = tt
hears_nil (each x) = sym (append-nil x)
hears_nil (texts on f out) = (refl, refl, record { stays = λ failed. failed; writes = inr ([], Appends-nil out.bytes, none_between on) })

module _ {A : Type 0} where
  pub hears_trans : (a b c : Account A) (xs ys : List A) → Hears a b xs → Hears b c ys → Hears a c (xs ++ ys)
  hears_trans unkept b c xs ys p q = tt
  hears_trans (each x) unkept c xs ys p q = absurd p
  hears_trans (each x) (texts on g b) c xs ys p q = absurd p
  hears_trans (each x) (each y) unkept xs ys p q = absurd q
  hears_trans (each x) (each y) (texts on h c) xs ys p q = absurd q
  hears_trans (each x) (each y) (each z) xs ys p q = q ∙ ap (λ l. l ++ ys) p ∙ append_assoc x xs ys
  hears_trans (texts on f a) unkept c xs ys p q = absurd p
  hears_trans (texts on f a) (each y) c xs ys p q = absurd p
  hears_trans (texts on f a) (texts on' g b) unkept xs ys p q = absurd q
  hears_trans (texts on f a) (texts on' g b) (each z) xs ys p q = absurd q
  hears_trans (texts on f a) (texts on' g b) (texts on'' h c) xs ys p q = (
    q.0 ∙ p.0,
    q.1 ∙ p.1,
    put_both on f a b c xs ys p.2
        (subst (λ (t : List ℕ → A → List ℕ). Puts b c (AreTexts on t ys)) p.1 (subst (λ (o : Bool). Puts b c (AreTexts o g ys)) p.0 q.2)),
  )

-- ---- one after the other

-- nothing is written nor told
pub nothing : {A : Type 0} (out : Told) (heard : Account A) (Is : List ℕ → List A → Type 0) → Is [] [] → Does out out heard heard Is
nothing out heard Is h = record { text = []; told = []; writes = Appends-nil out.bytes; tells = hears_nil heard; is = h }

-- troubles are told alone
pub heard_alone : {A : Type 0} (out : Told) (heard heard' : Account A) (told : List A) (Is : List ℕ → List A → Type 0)
    → Hears heard heard' told → Is [] told → Does out out heard heard' Is
heard_alone out heard heard' told Is h is = record { text = []; told = told; writes = Appends-nil out.bytes; tells = h; is = is }

-- something is written alone
pub written_alone : {A : Type 0} (out out' : Told) (heard : Account A) (Was : List ℕ → Type 0) (Is : List ℕ → List A → Type 0)
    → Writes out out' Was → ((text : List ℕ) → Was text → Is text []) → Does out out' heard heard Is
written_alone out out' heard Was Is h so = record { text = h.0; told = []; writes = h.1; tells = hears_nil heard; is = so h.0 h.2 }

-- the same is done, of which more is known
pub known : {A : Type 0} (out out' : Told) (heard heard' : Account A) (Was Is : List ℕ → List A → Type 0)
    → Does out out' heard heard' Was → ((text : List ℕ) (told : List A) → Was text told → Is text told) → Does out out' heard heard' Is
known out out' heard heard' Was Is h so = record { text = h.text; told = h.told; writes = h.writes; tells = h.tells; is = so h.text h.told h.is }

-- one thing is done behind the other
pub both : {A : Type 0} (a b c : Told) (h k l : Account A) (First Then Is : List ℕ → List A → Type 0)
    → Does a b h k First → Does b c k l Then
    → ((x : List ℕ) (xs : List A) (y : List ℕ) (ys : List A) → First x xs → Then y ys → Is (x ++ y) (xs ++ ys)) → Does a c h l Is
both a b c h k l First Then Is p q so = record {
  text = p.text ++ q.text;
  told = p.told ++ q.told;
  writes = Appends-trans a.bytes b.bytes c.bytes p.text q.text p.writes q.writes;
  tells = hears_trans h k l p.told q.told p.tells q.tells;
  is = so p.text p.told q.text q.told p.is q.is;
}
