-- Troubles that are told one after the other.
use Rattle.std.proofs.Common.{◌≡◌, sym, subst, List, [], ◌∷◌, ◌++◌, map}
use Rattle.std.proofs.lemmas.List.{map-append}
use Rattle.check_files.specs.Told.{Account, Hears, Tells}
use Rattle.check_files.proofs.Doing.{hears_nil, hears_trans}
use Rattle.spdx_troubles.specs.declared.trouble.Trouble.{Trouble}

pub none_heard : (heard : Account Trouble) → Hears heard heard []
none_heard heard = hears_nil heard

pub none_told : (heard : Account Trouble) (Is : List Trouble → Type 0) → Is [] → Tells heard heard Is
none_told heard Is h = record { told = []; tells = hears_nil heard; is = h }

-- one more is told, as it is told of each
pub one_more_heard : {A : Type 0} (told_of : A → Trouble) (h k l : Account Trouble) (xs : List A) (x : A) (t : Trouble) → Hears h k (map told_of xs) → t ≡ told_of x → Hears k l (t ∷ [])
    → Hears h l (map told_of (xs ++ x ∷ []))
one_more_heard told_of h k l xs x t before is tells =
    subst (λ (ts : List Trouble). Hears h l ts) (sym (map-append told_of xs (x ∷ [])))
    (hears_trans h k l (map told_of xs) (told_of x ∷ []) before (subst (λ (u : Trouble). Hears k l (u ∷ [])) is tells))
