-- How a run ends, put together.
use Rattle.std.proofs.Common.{◌≡◌, ◌≢◌, ℕ, ◌≤◌, Bool, true, false, List, [], ◌∷◌, ◌++◌, length, map, refl, sym, ap, ◌∙◌, subst, arith}
use Rattle.std.specs.Prelude.{String, flat_map}
use Rattle.std.specs.declared.alloc.Global.{Global}
use Rattle.shelves.specs.Shelf.{Shelved}
use Rattle.spdx_requirement.specs.declared.failure.Failure.{Failure}
use Rattle.spdx_requirement.specs.declared.failure.Failure.TheVariants.{Refused}
use Rattle.spdx_requirement.specs.Failures.{IfRefused}
use Rattle.license_notice.specs.declared.packages.Requirement.{Requirement}
use Rattle.license_notice.specs.Wanted.{texts_of}
use Rattle.owed_texts.specs.declared.trouble.TextTrouble.{TextTrouble}
use Rattle.notice_texts.proofs.Viewed.{view_view}
use Rattle.notice_told.specs.declared.lacks.GeneralText.{GeneralText}
use Rattle.notice_told.specs.declared.lacks.Lack.{Lack}
use Rattle.notice_told.specs.declared.packages.Package.{Package}
use Rattle.notice_told.specs.declared.page.Look.{Look}
use Rattle.notice_told.specs.declared.page.NoticeFault.TheVariants as fault
use Rattle.notice_told.specs.declared.page.NoticeText.{NoticeText}
use Rattle.notice_told.specs.Lacks.{Lacked, lacks_in, seen_lack}
use Rattle.notice_told.specs.Page.{IsNotice, IsNoticeFault}
use Rattle.owed_texts.specs.declared.all.AllOwn.{AllOwn}
use Rattle.owed_texts.specs.declared.own.Placed.{Placed}
use Rattle.owed_texts.specs.declared.own.Reading.{Reading}
use Rattle.owed_texts.specs.All.{AreAllOwn, reads_in}
use Rattle.owed_texts.specs.Own.{Owner, Read, owner_of}
use Rattle.owed_texts.specs.declared.held.HeldTexts.{HeldTexts}
use Rattle.owed_texts.specs.Held.{Text, each_first, lacked_by}
use Rattle.notice_program.specs.declared.end.End.TheVariants as end
use Rattle.notice_program.specs.declared.end.Request.{Request}
use Rattle.notice_program.specs.declared.end.ToldPage.{ToldPage}
use Rattle.notice_program.specs.Noted.{AreSorted}
use Rattle.notice_program.specs.Page as page
use Rattle.notice_program.specs.Page.{AreGeneral, IsHeldEnd, is_none, lacked_in, look_of, reading_of}
use Rattle.notice_program.specs.Taken.{named_in, owner, taken_by, texts_in}
use Rattle.notice_program.specs.Told.{IsTold}

pub refused : {E : Type 0} (P : E → Type 0) (f : Failure E) (e : E) → f ≡ Refused e → IfRefused P f → P e
refused {E} P f e is h = subst (λ (z : Failure E). IfRefused P z) is h

pub none_are : {A : Type 0} (xs seen : List A) → seen ≡ xs → is_none seen ≡ true → xs ≡ []
none_are xs [] same is = sym same
none_are xs (y ∷ ys) same is = absurd (let bad : false ≡ true = is in cc)

pub some_of : {A : Type 0} (xs : List A) → 1 ≤ length xs → xs ≢ []
some_of [] up e = absurd (omega (arith, up))
some_of (x ∷ xs) up e =
    let longer : length (x ∷ xs) ≡ 0 = ap length e in
    absurd (omega (arith, longer))

pub some_are : {A : Type 0} (xs seen : List A) → seen ≡ xs → is_none seen ≡ false → xs ≢ []
some_are xs [] same is none = absurd (let bad : true ≡ false = is in cc)
some_are xs (y ∷ ys) same is none =
    let longer : length (y ∷ ys) ≡ 0 = ap length (same ∙ none) in
    absurd (omega (arith, longer))

-- ---- the page

pub told_is : (a : Request) (ps : List Package) (held : List Text) (general seen : List GeneralText) (look : Look) (text : NoticeText) (n : ToldPage) → AreSorted held general → seen ≡ general → look ≡ look_of a
    → IsNotice look ps seen text → IsTold a text n → IsHeldEnd a ps held (end.Told n)
told_is a ps held general seen look text n sorted same at is told =
    page.told general text sorted (subst (λ (gs : List GeneralText). IsNotice (look_of a) ps gs text) same (subst (λ (l : Look). IsNotice l ps seen text) at is)) told

pub not_utf8_is : (a : Request) (ps : List Package) (held : List Text) (general seen : List GeneralText) (look : Look) (name : String Global) → AreSorted held general → seen ≡ general → look ≡ look_of a
    → IsNoticeFault look ps seen (fault.NotUtf8 name) → IsHeldEnd a ps held (end.NotUtf8 name)
not_utf8_is a ps held general seen look name sorted same at is =
    page.not_utf8 general sorted (subst (λ (gs : List GeneralText). IsNoticeFault (look_of a) ps gs (fault.NotUtf8 name)) same (subst (λ (l : Look). IsNoticeFault l ps seen (fault.NotUtf8 name)) at is))

-- ---- texts

-- the names of what the packages lack
pub names_lacked : (ps : List Package) (ls seen : List Lack) → seen ≡ ls → map seen_lack ls ≡ lacks_in ps → each_first (map lacked_by seen) ≡ lacked_in ps
names_lacked ps ls seen same are =
    ap (λ (z : List Lack). each_first (map lacked_by z)) same
    ∙ ap each_first (sym (view_view (λ (l : Lacked). l.text) seen_lack ls) ∙ ap (map (λ (l : Lacked). l.text)) are)

pub general_had : (s : Shelved) (a : Request) (ps : List Package) (ls seen : List Lack) (held : HeldTexts) → seen ≡ ls → map seen_lack ls ≡ lacks_in ps → AreGeneral s a (each_first (map lacked_by seen)) held
    → AreGeneral s a (lacked_in ps) held
general_had s a ps ls seen held same are is = subst (λ (z : List (List ℕ)). AreGeneral s a z held) (names_lacked ps ls seen same are) is

texts_same : (qs : List Requirement) → flat_map texts_in (map named_in qs) ≡ flat_map texts_of qs
texts_same [] = refl
texts_same (q ∷ qs) = ap (λ (z : List (List ℕ)). texts_of q ++ z) (texts_same qs)

owner_same : (x : Placed) → owner (taken_by x) ≡ owner_of x
owner_same x =
    ap (λ (o : List (List ℕ)). record { name = (owner_of x).name; path = (owner_of x).path; guessed = (owner_of x).guessed; of = (owner_of x).of; offered = o; chosen = flat_map texts_in (map named_in x.choice.now) }) (texts_same x.offered.now)
    ∙ ap (λ (c : List (List ℕ)). record { name = (owner_of x).name; path = (owner_of x).path; guessed = (owner_of x).guessed; of = (owner_of x).of; offered = (owner_of x).offered; chosen = c }) (texts_same x.choice.now)

owners_same : (xs : List Placed) → map owner (map taken_by xs) ≡ map owner_of xs
owners_same [] = refl
owners_same (x ∷ xs) = ap (λ (o : Owner). o ∷ map owner (map taken_by xs)) (owner_same x) ∙ ap (λ (os : List Owner). owner_of x ∷ os) (owners_same xs)

pub own_read : (s : Shelved) (a : Request) (r : Reading) (xs : List Placed) (files : List (List Read)) (lacking : List TextTrouble) → r ≡ reading_of a → AreAllOwn s r (map owner_of xs) files lacking
    → AreAllOwn s (reading_of a) (map owner (map taken_by xs)) files lacking
own_read s a r xs files lacking at is =
    subst (λ (os : List Owner). AreAllOwn s (reading_of a) os files lacking) (sym (owners_same xs)) (subst (λ (z : Reading). AreAllOwn s z (map owner_of xs) files lacking) at is)
