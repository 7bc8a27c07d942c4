-- Troubles that are told one after the other.
use Rattle.std.proofs.Common.{◌≡◌, List, [], ◌∷◌, ◌++◌, map}
use Rattle.check_files.specs.Told.{Account, Hears}
use Rattle.spdx_commands.proofs.Hearing as hearing
use Rattle.spdx_troubles.specs.declared.trouble.Trouble.{Trouble}

pub none_heard : (heard : Account Trouble) → Hears heard heard []
none_heard heard = hearing.none_heard heard

pub one_more_heard : {A : Type 0} (told_of : A → Trouble) (h k l : Account Trouble) (xs : List A) (x : A) (t : Trouble) → Hears h k (map told_of xs) → t ≡ told_of x → Hears k l (t ∷ [])
    → Hears h l (map told_of (xs ++ x ∷ []))
one_more_heard told_of h k l xs x t before is tells = hearing.one_more_heard told_of h k l xs x t before is tells
