-- That each text which a choice wants stands on the page, or is missing.
use Rattle.std.proofs.Common.{◌≡◌, ℕ, ◌<◌, zero, suc, Bool, ◌&&◌, ◌||◌, true, false, List, [], ◌∷◌, ◌++◌, Contains, length, map, refl, sym, ap, ◌∙◌, subst, arith, inl, inr}
use Rattle.std.specs.Prelude.{◌⊎◌, ◌==◌, bytes_eq, filter, flat_map, not}
use Rattle.std.specs.List.{AllZip, list_any}
use Rattle.std.proofs.lemmas.List.Elements.{Contains-append_left, Contains-append_right}
use Rattle.std.proofs.lemmas.Slice.Eq.{bytes_eq-Decides}
use Rattle.license_notice.specs.Rows.{Line}
use Rattle.notice_forms.specs.Told.{Named}
use Rattle.notice_texts.specs.Names.{name_in, says_one, stands_for, tag_of}
use Rattle.notice_texts.specs.Owed.{is_license_text, is_of_others, is_owed, is_text, seen}
use Rattle.notice_texts.specs.Shared.{EachStands, Own, Shared, gathered}
use Rattle.notice_texts.specs.Words.{is_same}
use Rattle.notice_texts.proofs.Viewed.{behind, keeps, view_of}
use Rattle.notice_told.specs.declared.lacks.GeneralText.{GeneralText}
use Rattle.notice_told.specs.declared.packages.OwnFile.{OwnFile}
use Rattle.notice_told.specs.declared.packages.Package.{Package}
use Rattle.notice_told.specs.declared.page.Look.{Look}
use Rattle.notice_told.specs.declared.page.NoticeText.{NoticeText}
use Rattle.notice_told.specs.Lacks.{Lacked, has_own, is_held, lack, lacks_in, lacks_of, may_be, missing}
use Rattle.notice_told.specs.Packages.{chosen_by, is_owed_by, offered_by, own_in, owns_in, owns_of}
use Rattle.notice_told.specs.Page.{AreTexts}
use Rattle.notice_program.specs.Standing.{EachIsThere, HasGeneral, HasOwn, IsOnPage, StandsAmong}
use Rattle.notice_told.specs.Texts.{IsGeneralText, IsOwnText, general_name, is_lacked, line_held, used}

-- ---- lists

-- what matches an element of the first list
zipped : {A B : Type 0} (R : A → B → Type 0) (xs : List A) (ys : List B) (x : A) → AllZip R xs ys → Contains xs x → (y : B) × Contains ys y × R x y
zipped R [] ys x z h = absurd (omega (arith, h.1))
zipped R (a ∷ xs) [] x z h = absurd z
zipped R (a ∷ xs) (b ∷ ys) x z (zero, low, at) = (b, (zero, omega arith, refl), subst (λ w. R w b) at z.0)
zipped R (a ∷ xs) (b ∷ ys) x z (suc i, low, at) =
    let r = zipped R xs ys x z.1 (i, omega (arith, low), at) in
    (r.0, behind b ys r.0 r.1, r.2)

-- an element that passes the test
passing_so : {A : Type 0} (p : A → Bool) (x : A) (xs : List A) (b : Bool) → p x ≡ b → (p x || list_any p xs) ≡ true → (list_any p xs ≡ true → (y : A) × Contains xs y × (p y ≡ true)) → (y : A) × Contains (x ∷ xs) y × (p y ≡ true)
passing_so p x xs true is e more = (x, (zero, omega arith, refl), is)
passing_so p x xs false is e more =
    let r = more (sym (ap (λ (c : Bool). c || list_any p xs) is) ∙ e) in
    (r.0, behind x xs r.0 r.1, r.2)

passing : {A : Type 0} (p : A → Bool) (xs : List A) → list_any p xs ≡ true → (x : A) × Contains xs x × (p x ≡ true)
passing p [] e = absurd (let bad : false ≡ true = e in cc)
passing p (x ∷ xs) e = passing_so p x xs (p x) refl e (passing p xs)

-- a test that an element passes
or_true : (a : Bool) → (a || true) ≡ true
or_true true = refl
or_true false = refl

any_of : {A : Type 0} (p : A → Bool) (xs : List A) (x : A) → Contains xs x → p x ≡ true → list_any p xs ≡ true
any_of p [] x h e = absurd (omega (arith, h.1))
any_of p (y ∷ ys) x (zero, low, at) e = ap (λ (c : Bool). c || list_any p ys) (subst (λ z. p z ≡ true) (sym at) e)
any_of p (y ∷ ys) x (suc i, low, at) e = ap (λ (c : Bool). p y || c) (any_of p ys x (i, omega (arith, low), at) e) ∙ or_true (p y)

in_flat : {A B : Type 0} (f : A → List B) (xs : List A) (x : A) (y : B) → Contains xs x → Contains (f x) y → Contains (flat_map f xs) y
in_flat f [] x y h k = absurd (omega (arith, h.1))
in_flat f (z ∷ zs) x y (zero, low, at) k = Contains-append_left (f z) (flat_map f zs) y (subst (λ w. Contains (f w) y) (sym at) k)
in_flat f (z ∷ zs) x y (suc i, low, at) k = Contains-append_right (f z) (flat_map f zs) y (in_flat f zs x y (i, omega (arith, low), at) k)

-- ---- truths

both : (a b : Bool) → (a && b) ≡ true → (a ≡ true) × (b ≡ true)
both true b e = (refl, e)
both false b e = absurd (let bad : false ≡ true = e in cc)

and_true : (a b : Bool) → a ≡ true → b ≡ true → (a && b) ≡ true
and_true a b h k = ap (λ (c : Bool). c && b) h ∙ k

same_text : (a b : List ℕ) → bytes_eq a b ≡ true → a ≡ b
same_text a b = (bytes_eq-Decides a b).0

text_same : (a : List ℕ) → bytes_eq a a ≡ true
text_same a = (bytes_eq-Decides a a).1 refl

-- ---- a file that may be the text is owed

says_more : (tag name : List ℕ) (licenses : List (List ℕ)) (some : Bool) → Contains licenses name → (some && list_any (stands_for tag) (name ∷ [])) ≡ true → (some && list_any (stands_for tag) licenses) ≡ true
says_more tag name licenses some h e =
    let parts = both some (list_any (stands_for tag) (name ∷ [])) e in
    let one = passing (stands_for tag) (name ∷ []) parts.1 in
    and_true some (list_any (stands_for tag) licenses) parts.0 (any_of (stands_for tag) licenses name h (only one))
  where
    only : (y : List ℕ) × Contains (name ∷ []) y × (stands_for tag y ≡ true) → stands_for tag name ≡ true
    only (y, (zero, low, at), is) = subst (λ (z : List ℕ). stands_for tag z ≡ true) (sym at) is
    only (y, (suc i, low, at), is) = absurd (omega (arith, low))

not_others : (offers one all : Bool) → (one ≡ true → all ≡ true) → not (offers && not one) ≡ true → not (offers && not all) ≡ true
not_others false one all more e = refl
not_others true true all more e = ap (λ (c : Bool). not (not c)) (more refl)
not_others true false all more e = absurd (let bad : false ≡ true = e in cc)

owed : (p : Package) (name : List ℕ) (f : OwnFile) → Contains (chosen_by p) name → may_be (offered_by p) name f ≡ true → is_owed_by p f ≡ true
owed p name f h e =
    let file = name_in (seen f.file).path in
    let parts = both (is_license_text (seen f.file)) (is_owed (offered_by p) (name ∷ []) (seen f.file)) e in
    let owes = both (is_text (seen f.file)) (not (is_of_others (offered_by p) (name ∷ []) file)) parts.1 in
    and_true (is_text (seen f.file)) (not (is_of_others (offered_by p) (chosen_by p) file)) owes.0
    (not_others (says_one file (offered_by p)) (says_one file (name ∷ [])) (says_one file (chosen_by p))
    (says_more (tag_of file) name (chosen_by p) (not (length (tag_of file) == 0)) h) owes.1)

-- ---- it stands there

stands : (own : List Named) (owns : List Own) (t : Own) → AllZip IsOwnText (gathered owns) own → EachStands owns (gathered owns) → Contains owns t → StandsAmong own t
stands own owns t are each h =
    let in_shared = each t h in
    let s = in_shared.0 in
    let on = zipped IsOwnText (gathered owns) own s are in_shared.1 in
    record {
      text = on.0;
      there = on.1;
      same = subst (λ (b : List ℕ). is_same b t.bytes ≡ true) (sym on.2.bytes_are) in_shared.2;
      below = (on.2.lines_are.same (line_held t.holder)).1 (view_of line_held s.holders t.holder in_shared.3);
    }

general_there : (marked : Bool) (lacks : List Lacked) (general : List GeneralText) (others : List Named) (l : Lacked) → AllZip (IsGeneralText marked lacks) (used lacks general) others
    → Contains lacks l → is_held general l.text ≡ true → HasGeneral marked others l.text
general_there marked lacks general others l are h held =
    let g = passing (λ (g : GeneralText). bytes_eq g.name.now l.text) general held in
    let name : g.0.name.now ≡ l.text = same_text g.0.name.now l.text g.2 in
    let wanted : is_lacked lacks g.0.name.now ≡ true =
    any_of (λ (x : Lacked). bytes_eq x.text g.0.name.now) lacks l h (ap (λ (z : List ℕ). bytes_eq l.text z) name ∙ text_same l.text) in
    let on = zipped (IsGeneralText marked lacks) (used lacks general) others g.0 are (keeps (λ (x : GeneralText). is_lacked lacks x.name.now) general g.0 g.1 wanted) in
    record { text = on.0; there = on.1; name_is = on.2.name_is ∙ ap (general_name marked) name }

wider : (marked : Bool) (own others : List Named) (name : List ℕ) → HasGeneral marked others name → HasGeneral marked (own ++ others) name
wider marked own others name h = record { text = h.text; there = Contains-append_right own others h.text h.there; name_is = h.name_is }

lacked : (marked : Bool) (packages : List Package) (general : List GeneralText) (own others : List Named) (p : Package) (name : List ℕ) (held : Bool)
    → AllZip (IsGeneralText marked (lacks_in packages)) (used (lacks_in packages) general) others → Contains (lacks_in packages) (lack p name) → is_held general name ≡ held
    → IsOnPage marked (own ++ others) p name ⊎ Contains (missing general (lacks_in packages)) (lack p name)
lacked marked packages general own others p name true are h e = inl (inr (wider marked own others name (general_there marked (lacks_in packages) general others (lack p name) are h e)))
lacked marked packages general own others p name false are h e =
    inr (keeps (λ (l : Lacked). not (is_held general l.text)) (lacks_in packages) (lack p name) h (ap not e))

wanted : (marked : Bool) (packages : List Package) (general : List GeneralText) (own others : List Named) → AreTexts marked packages (lacks_in packages) general own others
    → (p : Package) → Contains packages p → (name : List ℕ) → Contains (chosen_by p) name → (has : Bool) → has_own p name ≡ has
    → IsOnPage marked (own ++ others) p name ⊎ Contains (missing general (lacks_in packages)) (lack p name)
wanted marked packages general own others are p h name chosen true e =
    let f = passing (may_be (offered_by p) name) p.files.now e in
    let t = own_in p f.0 in
    let among : Contains (owns_in packages) t =
    in_flat owns_of packages p t h (view_of (own_in p) (filter (is_owed_by p) p.files.now) f.0 (keeps (is_owed_by p) p.files.now f.0 f.1 (owed p name f.0 chosen f.2))) in
    let on = stands own (owns_in packages) t are.own_are are.each_stands among in
    inl (inl (record {
      file = f.0;
      of = f.1;
      may = f.2;
      stands = record { text = on.text; there = Contains-append_left own others on.text on.there; same = on.same; below = on.below };
    }))
wanted marked packages general own others are p h name chosen false e =
    let among : Contains (lacks_in packages) (lack p name) =
    in_flat lacks_of packages p (lack p name) h (view_of (lack p) (filter (λ n. not (has_own p n)) (chosen_by p)) name (keeps (λ n. not (has_own p n)) (chosen_by p) name chosen (ap not e))) in
    lacked marked packages general own others p name (is_held general name) are.others_are among refl

pub each_is_there : (marked : Bool) (packages : List Package) (general : List GeneralText) (own others : List Named) → AreTexts marked packages (lacks_in packages) general own others
    → EachIsThere marked packages (own ++ others) (missing general (lacks_in packages))
each_is_there marked packages general own others are p h name chosen = wanted marked packages general own others are p h name chosen (has_own p name) refl
