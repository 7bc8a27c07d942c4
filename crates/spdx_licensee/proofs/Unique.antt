-- A text names one licensee.
use Rattle.std.proofs.Common.{◌≡◌, ℕ, List, [], ◌∷◌, Option, Some, None, Result, Ok, map, refl, sym, ap, subst, ◌∙◌}
use Rattle.spdx_requirement.specs.Rows.{Rows}
use Rattle.spdx_requirement.specs.Failures.{IfRefused}
use Rattle.spdx_requirement.specs.declared.failure.Failure.{Failure}
use Rattle.spdx_requirement.specs.declared.failure.Failure.TheVariants.{Refused}
use Rattle.spdx_requirement.specs.Items.{Requirement}
use Rattle.spdx_lexer.specs.Words.{Placed, words}
use Rattle.spdx_licensee.specs.LicenseeText.{Names, licensee_named}
use Rattle.spdx_licensee.specs.Replacements.{Successor, as_requirement, IsSuccessor, IsSuccessorIn}

ok_once : {A E : Type 0} (x y : A) → (let a : Result A E = Ok x in a) ≡ Ok y → x ≡ y
ok_once x y e = cc

pub oks_once : {A E : Type 0} (xs ys : List A) → (let zs : List (Result A E) = map Ok xs in zs) ≡ map Ok ys → xs ≡ ys
oks_once [] [] e = refl
oks_once [] (y ∷ ys) e = absurd (cc)
oks_once (x ∷ xs) [] e = absurd (cc)
oks_once {A} {E} (x ∷ xs) (y ∷ ys) e =
    let head : (let a : Result A E = Ok x in a) ≡ Ok y = cc in
    let tail : (let zs : List (Result A E) = map Ok xs in zs) ≡ map Ok ys = cc in
    let first : x ≡ y = ok_once x y head in
    let rest : xs ≡ ys = oks_once xs ys tail in
    cc

pub names_once : (c : Rows) (text : List ℕ) (a b : Requirement) → Names c text a → Names c text b → a ≡ b
names_once c text a b h k =
    let read : h.0 ≡ k.0 = oks_once h.0 k.0 (sym h.1 ∙ k.1) in
    let named : Some a ≡ Some b = sym h.2 ∙ ap (λ (z : List Placed). licensee_named (words z)) read ∙ k.2 in
    cc

-- the successor of a requirement that a text names
pub named_successor : (c : Rows) (text : List ℕ) (r : Requirement) (o : Option Successor) → Names c text r → IsSuccessor r o → IsSuccessorIn c text o
named_successor c text r (Some s) h e = subst (Names c text) e h
named_successor c text r None h none = λ s k. none s (names_once c text r (as_requirement s) h k)

-- what is said of a refusal
pub of_refused : {E : Type 0} (P : E → Type 0) (f : Failure E) (x : E) → f ≡ Refused x → IfRefused P f → P x
of_refused {E} P f x is h = subst (IfRefused P) is h

-- a text that names no successor
pub none_named : (c : Rows) (text : List ℕ) (o : Option Successor) → o ≡ None → IsSuccessorIn c text o → (s : Successor) → Names c text (as_requirement s) → ⊥
none_named c text o is h = subst (IsSuccessorIn c text) is h
