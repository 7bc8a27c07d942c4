-- What is told one after the other.
use Rattle.std.proofs.Common.{◌≡◌, ◌∙◌, refl, sym, subst, ap, List, [], ◌∷◌, ◌++◌, append_assoc, append-nil, length, take, drop, map, flat_map, get_or, ◌<◌, suc}
use Rattle.std.proofs.lemmas.Grind.{flat_map-append}
use Rattle.std.proofs.lemmas.List.{map-append, map-id, take-append-drop}
use Rattle.std.proofs.Math.Seq.{split_at}
use Rattle.line_engine.specs.Device.{Told}
use Rattle.line_engine.specs.Progress.{AppendsBeginning}
use Rattle.line_engine.proofs.Known.{AppendsBeginning-all, AppendsBeginning-more, AppendsBeginning-none, AppendsBeginning-then}
use Rattle.std.specs.Io.KnownBytes.{Appends}
use Rattle.check_files.specs.Told.{Account, Does, Hears}
use Rattle.std.specs.Prelude.{Result, Ok, Err, IfErr, IsErrAnd}
use Rattle.spdx_commands.specs.Said.{HearsBeginning, AreCutShort, AreSaid, IsCutShort, IsSaid, text_of, told_of}
use Rattle.spdx_commands.specs.declared.said.Said.{Said}
use Rattle.spdx_troubles.specs.declared.trouble.Trouble.{Trouble}
use Rattle.spdx_troubles.specs.declared.trouble.Trouble.TheVariants as trouble
use Rattle.check_files.proofs.Doing.{both, hears_trans, nothing}

module _ {A : Type 0} where
  -- where the next one isn't told, the first of them were
  pub cut_short : (h k l : Account A) (xs done : List A) → map (λ (x : A). x) done ≡ take (length done) xs → Hears h k done → l ≡ k → HearsBeginning h l xs
  cut_short h k l xs done front tells same = record {
    begun = done;
    others = drop (length done) xs;
    whole = sym (take-append-drop (length done) xs) ∙ ap (λ (l : List A). l ++ drop (length done) xs) (sym front ∙ map-id done);
    told_first = subst (λ (a : Account A). Hears h a done) (sym same) tells;
  }

  -- so it is of what is told of each
  pub map_cut_short : {B : Type 0} (f : B → A) (h k l : Account A) (xs done : List B) → map (λ (x : B). x) done ≡ take (length done) xs → Hears h k (map f done) → l ≡ k → HearsBeginning h l (map f xs)
  map_cut_short f h k l xs done front tells same = record {
    begun = map f done;
    others = map f (drop (length done) xs);
    whole = ap (map f) (sym (take-append-drop (length done) xs) ∙ ap (λ (l : List _). l ++ drop (length done) xs) (sym front ∙ map-id done)) ∙ map-append f done (drop (length done) xs);
    told_first = subst (λ (a : Account A). Hears h a (map f done)) (sym same) tells;
  }

  -- all of them were told, and of others the first
  pub then_first : (h k l : Account A) (xs ys : List A) → Hears h k xs → HearsBeginning k l ys → HearsBeginning h l (xs ++ ys)
  then_first h k l xs ys tells p = record {
    begun = xs ++ p.begun;
    others = p.others;
    whole = ap (λ (l : List A). xs ++ l) p.whole ∙ sym (append_assoc xs p.begun p.others);
    told_first = hears_trans h k l xs p.begun tells p.told_first;
  }

  -- the first were told, and others follow
  pub first_of_more : (h k : Account A) (xs ys : List A) → HearsBeginning h k xs → HearsBeginning h k (xs ++ ys)
  first_of_more h k xs ys p = record {
    begun = p.begun;
    others = p.others ++ ys;
    whole = ap (λ (l : List A). l ++ ys) p.whole ∙ append_assoc p.begun p.others ys;
    told_first = p.told_first;
  }

  -- all of them were told
  pub all_told : (h k : Account A) (xs : List A) → Hears h k xs → HearsBeginning h k xs
  all_told h k xs tells = record { begun = xs; others = []; whole = sym (append-nil xs); told_first = tells }

-- ---- what breaks off

-- it breaks off by a trouble of which this holds
pub broken_by : {T : Type 0} (Is : Trouble → Type 0) (t : Trouble) → Is t → (r : Result T Trouble) → IsErrAnd r (λ u. u ≡ t) → IfErr r Is
broken_by Is t is (Ok x) h = tt
broken_by Is t is (Err u) h = subst Is (sym h) is

-- before the text, behind it, or in it
module _ (s : Said) (out out' : Told) (h k l : Account Trouble) where
  pub cut_before : HearsBeginning h k s.before.items → IsCutShort s out out h k trouble.Memory
  cut_before told = record {
    broken = tt;
    begins = record { written = AppendsBeginning-none out.bytes s.text.items; told_first = first_of_more h k s.before.items s.after.items told };
  }

  pub cut_behind : Hears h k s.before.items → Appends out.bytes out'.bytes s.text.items → HearsBeginning k l s.after.items → IsCutShort s out out' h l trouble.Memory
  cut_behind tells writes told = record {
    broken = tt;
    begins = record { written = AppendsBeginning-all out.bytes out'.bytes s.text.items writes; told_first = then_first h k l s.before.items s.after.items tells told };
  }

  pub all_said : Hears h k s.before.items → Appends out.bytes out'.bytes s.text.items → Hears k l s.after.items → Does out out' h l (IsSaid s)
  all_said before writes after = record {
    text = s.text.items;
    told = told_of s;
    writes = writes;
    tells = hears_trans h k l s.before.items s.after.items before after;
    is = (refl, refl);
  }

-- ---- one behind the other

-- the one at which a loop is stands behind those that it has had
pub at_one : {A : Type 0} (all done : List A) (x : A) → map (λ (y : A). y) done ≡ take (length done) all → length done < length all → x ≡ get_or all (length done) x
    → all ≡ done ++ x ∷ drop (suc (length done)) all
at_one {A} all done x front low is =
    split_at all (length done) x low ∙ ap (λ (l : List A). l ++ get_or all (length done) x ∷ drop (suc (length done)) all) (sym front ∙ map-id done)
    ∙ ap (λ (y : A). done ++ y ∷ drop (suc (length done)) all) (sym is)

pub none_said : (out : Told) (heard : Account Trouble) → Does out out heard heard (AreSaid [])
none_said out heard = nothing out heard (AreSaid []) (refl, refl)

-- of one more
one_more : {A : Type 0} (f : Said → List A) (done : List Said) (s : Said) (xs ys : List A) → xs ≡ flat_map f done → ys ≡ f s → xs ++ ys ≡ flat_map f (done ++ s ∷ [])
one_more {A} f done s xs ys first then =
    ap (λ (l : List A). l ++ ys) first ∙ ap (λ (l : List A). flat_map f done ++ l) (then ∙ sym (append-nil (f s))) ∙ sym (flat_map-append f done (s ∷ []))

module _ (a b c : Told) (h k l : Account Trouble) (done : List Said) (s : Said) (first : Does a b h k (AreSaid done)) where
  pub then_said : Does b c k l (IsSaid s) → Does a c h l (AreSaid (done ++ s ∷ []))
  then_said then =
      both a b c h k l (AreSaid done) (IsSaid s) (AreSaid (done ++ s ∷ [])) first then
      (λ x xs y ys p q. (one_more text_of done s x y p.0 q.0, one_more told_of done s xs ys p.1 q.1))

  -- at one of them it breaks off
  pub then_cut : (all rest : List Said) (t : Trouble) → all ≡ done ++ s ∷ rest → IsCutShort s b c k l t → AreCutShort all a c h l t
  then_cut all rest t whole cut = record {
    broken = cut.broken;
    begins = record {
      written = subst (AppendsBeginning a.bytes c.bytes) (sym (parts text_of))
          (AppendsBeginning-then a.bytes b.bytes c.bytes (flat_map text_of done) (text_of s ++ flat_map text_of rest) (subst (Appends a.bytes b.bytes) first.is.0 first.writes)
          (AppendsBeginning-more b.bytes c.bytes (text_of s) (flat_map text_of rest) cut.begins.written));
      told_first = subst (HearsBeginning h l) (sym (parts told_of))
          (then_first h k l (flat_map told_of done) (told_of s ++ flat_map told_of rest) (subst (Hears h k) first.is.1 first.tells)
          (first_of_more k l (told_of s) (flat_map told_of rest) cut.begins.told_first));
    };
  }
    where
      parts : {A : Type 0} (f : Said → List A) → flat_map f all ≡ flat_map f done ++ (f s ++ flat_map f rest)
      parts f = ap (flat_map f) whole ∙ flat_map-append f done (s ∷ rest)
