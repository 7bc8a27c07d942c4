-- Texts that are had, one more.
use Rattle.std.proofs.Common.{◌≡◌, ℕ, Bool, List, [], ◌∷◌, ◌++◌, map, ◌∙◌, ap, sym, refl, subst}
use Rattle.std.specs.Prelude.{Option, None, flat_map}
use Rattle.std.specs.Option.{option_to_list}
use Rattle.std.proofs.lemmas.Grind.{flat_map-append}
use Rattle.std.proofs.lemmas.List.{append-nil}
use Rattle.shelves.specs.Shelf.{Shelved}
use Rattle.spdx_requirement.specs.declared.failure.Failure.{Failure}
use Rattle.spdx_requirement.specs.declared.failure.Failure.TheVariants.{Refused}
use Rattle.spdx_requirement.specs.Failures.{IfRefused}
use Rattle.owed_texts.specs.declared.trouble.TextTrouble.{TextTrouble}
use Rattle.owed_texts.specs.Within.{IsUnreadWithin}
use Rattle.package_items.specs.Each.{AreHad, none}
use Rattle.package_items.proofs.Each.{more_had, more_lacked}
use Rattle.owed_texts.specs.declared.held.HeldTexts.{HeldTexts}
use Rattle.owed_texts.specs.declared.held.TextFolder.{TextFolder}
use Rattle.owed_texts.specs.Held.{AreHeld, IsLet, IsNoText, IsText, Text, held_of, inside, path_of}

-- the values of some, and of one more
kept_more : {B : Type 0} (each : List (Option B)) (o : Option B) (old new : List B) → old ≡ flat_map option_to_list each → new ≡ old ++ option_to_list o → new ≡ flat_map option_to_list (each ++ o ∷ [])
kept_more {B} each o old new kept more =
    more ∙ ap (λ (z : List B). z ++ option_to_list o) kept
    ∙ sym (flat_map-append option_to_list each (o ∷ []) ∙ ap (λ (z : List B). flat_map option_to_list each ++ z) (append-nil (option_to_list o)))

-- a text was had, or may be missing
pub one_had : (s : Shelved) (a : TextFolder) (name : List ℕ) (o : Option Text) (old new : HeldTexts) (names : List (List ℕ)) → AreHeld s a names old
    → IsText s a name o → map held_of new.texts.items ≡ map held_of old.texts.items ++ option_to_list o → new.lacking.items ≡ old.lacking.items → AreHeld s a (names ++ name ∷ []) new
one_had s a name o old new names before is ts ls = record {
  found = before.found ++ o ∷ [];
  each = more_had (IsText s a) (IsNoText s a) name o names before.found (before.found ++ o ∷ []) old.lacking.items new.lacking.items before.each is refl ls;
  kept = kept_more before.found o (map held_of old.texts.items) (map held_of new.texts.items) before.kept ts;
}

-- one wasn't
pub one_told : (s : Shelved) (a : TextFolder) (name : List ℕ) (t : TextTrouble) (old new : HeldTexts) (names : List (List ℕ)) → AreHeld s a names old
    → IsNoText s a name t → new.texts.items ≡ old.texts.items → new.lacking.items ≡ old.lacking.items ++ t ∷ [] → AreHeld s a (names ++ name ∷ []) new
one_told s a name t old new names before is ts ls = record {
  found = before.found;
  each = more_lacked (IsText s a) (IsNoText s a) name t names before.found before.found old.lacking.items new.lacking.items before.each is refl ls;
  kept = ap (map held_of) ts ∙ before.kept;
}

-- none is had yet
pub none_had : (s : Shelved) (a : TextFolder) (held : HeldTexts) → held.texts.items ≡ [] → held.lacking.items ≡ [] → AreHeld s a [] held
none_had s a held ts ls = record {
  found = [];
  each = subst (λ (z : List TextTrouble). AreHad (IsText s a) (IsNoText s a) [] [] z) (sym ls) none;
  kept = ap (map held_of) ts;
}

pub refused : {E : Type 0} (P : E → Type 0) (f : Failure E) (e : E) → f ≡ Refused e → IfRefused P f → P e
refused {E} P f e is h = subst (λ (z : Failure E). IfRefused P z) is h

-- nothing is there, and it may be so
pub let_be : (s : Shelved) (a : TextFolder) (name path : List ℕ) (within : Option (List ℕ)) (f : Failure TextTrouble) (t : TextTrouble) → f ≡ Refused t
    → IfRefused (IsUnreadWithin s name within path) f → within ≡ inside a → path ≡ path_of a name → IsLet a.may_lack t → IsText s a name None
let_be s a name path within f t is told in_is at is_let = (
  t,
  subst (λ (p : List ℕ). IsUnreadWithin s name (inside a) p t) at
      (subst (λ (o : Option (List ℕ)). IsUnreadWithin s name o path t) in_is (refused (IsUnreadWithin s name within path) f t is told)),
  is_let,
)
