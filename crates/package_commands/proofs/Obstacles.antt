-- What is told of texts that aren't had.
use Rattle.std.proofs.Common.{◌≡◌, ℕ, List, [], ◌∷◌, ◌++◌, refl, string_bytes, subst, sym}
use Rattle.std.specs.declared.alloc.Global.{Global}
use Rattle.std.specs.declared.io.Error.{Error}
use Rattle.std.specs.Prelude.{String, codes}
use Rattle.check_files.specs.Told.{Account, Hears, Tells}
use Rattle.check_files.proofs.Doing.{hears_nil, hears_trans}
use Rattle.spdx_commands.proofs.Steps.{zip_push}
use Rattle.spdx_troubles.specs.declared.trouble.Trouble.{Trouble}
use Rattle.spdx_troubles.specs.declared.trouble.Trouble.TheVariants as trouble
use Rattle.owed_texts.specs.declared.trouble.Obstacle.{Obstacle}
use Rattle.owed_texts.specs.declared.trouble.TextTrouble.{TextTrouble}
use Rattle.package_commands.specs.Texts.{AreTextsTold, IsFolderTold, IsNotUtf8, IsRefused, IsTextTold, IsUnreadAs, IsUnreadText, is_refused, not_utf8}
use Rattle.package_commands.specs.Unchosen.{IsOnly}
use Rattle.package_commands.proofs.Choosing.{only_told}

-- ---- one trouble

pub folder_told : (h k : Account Trouble) (path : String Global) (why : Obstacle) (t : Trouble) → IsFolderTold path why t → Hears h k (t ∷ []) → Tells h k (IsOnly (IsFolderTold path why))
folder_told h k path why t is tells = only_told h k (IsFolderTold path why) t is tells

pub not_utf8_told : (h k : Account Trouble) (name told : String Global) → string_bytes told ≡ codes "is no UTF-8, which pages of HTML and of JSON are"
    → Hears h k (trouble.Text name told ∷ []) → Tells h k (IsOnly (IsNotUtf8 name))
not_utf8_told h k name told is tells = only_told h k (IsNotUtf8 name) (trouble.Text name told) (not_utf8 is) tells

-- ---- a text

pub text_refused : (name told : String Global) (path why : List ℕ) → string_bytes told ≡ path ++ (codes ": " ++ why) → IsRefused name path why (trouble.Text name told)
text_refused name told path why is = is_refused is

pub unread_told : (name : String Global) (path error : List ℕ) (t : Trouble) → IsRefused name path error t → IsUnreadText name path t
unread_told name path error t is = (error, is)

pub text_unread : (name p : String Global) (e : Error) (t u : Trouble) → t ≡ trouble.Unreadable p e → IsUnreadText name (string_bytes p) u → IsUnreadAs name t u
text_unread name p e t u is h = subst (λ (x : Trouble). IsUnreadAs name x u) (sym is) h

-- any other trouble is told by itself
pub other_told : (name : String Global) (t : Trouble) → ((p : String Global) (e : Error) → t ≡ trouble.Unreadable p e → ⊥) → IsUnreadAs name t t
other_told name (trouble.Unreadable p e) not = absurd (not p e refl)
other_told name other not = refl

-- ---- each text

pub none_told : (h : Account Trouble) (link : List ℕ) → Tells h h (AreTextsTold link [])
none_told h link = record { told = []; tells = hears_nil h; is = tt }

pub text_told : (h k l : Account Trouble) (link : List ℕ) (xs : List TextTrouble) (x : TextTrouble) (t : Trouble) → Tells h k (AreTextsTold link xs) → IsTextTold link x t
    → Hears k l (t ∷ []) → Tells h l (AreTextsTold link (xs ++ x ∷ []))
text_told h k l link xs x t p is tells = record {
  told = p.told ++ t ∷ [];
  tells = hears_trans h k l p.told (t ∷ []) p.tells tells;
  is = zip_push (IsTextTold link) xs p.told x t p.is is;
}
