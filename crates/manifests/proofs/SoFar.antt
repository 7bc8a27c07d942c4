-- The sites found so far, with one more.
use Rattle.std.proofs.Common.{◌≡◌, ℕ, ◌+◌, ◌<◌, Result, Ok, Err, Bool, true, false, List, [], ◌∷◌, ◌++◌, Option, Some, None, Bor, map, length, drop, get_or, refl, sym, ap, ◌∙◌, append_assoc, subst}
use Rattle.std.specs.Prelude.{All, IfNone, IfOk, filter, option_map, slice_get}
use Rattle.std.proofs.lemmas.List.{drop_more, map-append}
use Rattle.std.proofs.lemmas.List.Elements.{All-push}
use Rattle.std.proofs.lemmas.Option.{slice_get-get_or, slice_get-map}
use Rattle.manifests.specs.declared.site.Site.{Site}

abbrev shown : List (Bor (List ℕ)) → List (List ℕ)
shown texts = map (λ (t : Bor (List ℕ)). t.now) texts

abbrev texts_of : List Site → List (List ℕ)
texts_of sites = map (λ (s : Site). s.text.items) sites

first_wanted : (p : List ℕ → Bool) (t : List ℕ) (texts : List (List ℕ)) → p t ≡ true → filter p (t ∷ texts) ≡ t ∷ filter p texts
first_wanted p t texts is = rw is refl

-- one more site, whose text is the next one
moved : (t : List ℕ) (next later : List (List ℕ)) (sites new : List Site) (site : Site) (all : List (List ℕ)) → next ≡ t ∷ later → site.text.items ≡ t
    → new ≡ sites ++ site ∷ [] → all ≡ texts_of sites ++ next → all ≡ texts_of new ++ later
moved t next later sites new site all first is more so_far =
    let found : texts_of new ≡ texts_of sites ++ t ∷ [] = ap texts_of more ∙ map-append (λ (s : Site). s.text.items) sites (site ∷ []) ∙ ap (λ (x : List ℕ). texts_of sites ++ x ∷ []) is in
    so_far ∙ ap (λ (ts : List (List ℕ)). texts_of sites ++ ts) first ∙ sym (append_assoc (texts_of sites) (t ∷ []) later) ∙ ap (λ (ts : List (List ℕ)). ts ++ later) (sym found)

-- the text of that number is the site's, and so the site is one more of those that are wanted
pub pushed : (p : List ℕ → Bool) (texts : List (Bor (List ℕ))) (n : ℕ) (d : Bor (List ℕ)) (sites new : List Site) (site : Site) (all : List (List ℕ))
    → n < length texts → p (get_or texts n d).now ≡ true → site.text.items ≡ (get_or texts n d).now → new ≡ sites ++ site ∷ []
    → all ≡ texts_of sites ++ filter p (shown (drop n texts)) → all ≡ texts_of new ++ filter p (shown (drop (n + 1) texts))
pushed p texts n d sites new site all lt wanted =
    let behind = shown (drop (n + 1) texts) in
    let next = ap (λ (ts : List (Bor (List ℕ))). filter p (shown ts)) (drop_more texts n d lt) ∙ first_wanted p (get_or texts n d).now behind wanted in
    moved (get_or texts n d).now (filter p (shown (drop n texts))) (filter p behind) sites new site all next

-- the same where all are wanted
pub pushed_any : (texts : List (Bor (List ℕ))) (n : ℕ) (d : Bor (List ℕ)) (sites new : List Site) (site : Site) (all : List (List ℕ))
    → n < length texts → site.text.items ≡ (get_or texts n d).now → new ≡ sites ++ site ∷ []
    → all ≡ texts_of sites ++ shown (drop n texts) → all ≡ texts_of new ++ shown (drop (n + 1) texts)
pushed_any texts n d sites new site all lt =
    moved (get_or texts n d).now (shown (drop n texts)) (shown (drop (n + 1) texts)) sites new site all (ap shown (drop_more texts n d lt))

first_other : (p : List ℕ → Bool) (t : List ℕ) (texts : List (List ℕ)) → p t ≡ false → filter p (t ∷ texts) ≡ filter p texts
first_other p t texts is = rw is refl

-- a text that isn't wanted has no site
pub passed : (p : List ℕ → Bool) (texts : List (Bor (List ℕ))) (n : ℕ) (d : Bor (List ℕ)) (sites : List Site) (all : List (List ℕ))
    → n < length texts → p (get_or texts n d).now ≡ false
    → all ≡ texts_of sites ++ filter p (shown (drop n texts)) → all ≡ texts_of sites ++ filter p (shown (drop (n + 1) texts))
passed p texts n d sites all lt other so_far =
    so_far ∙ ap (λ (ts : List (List ℕ)). texts_of sites ++ ts)
    (ap (λ (ts : List (Bor (List ℕ))). filter p (shown ts)) (drop_more texts n d lt) ∙ first_other p (get_or texts n d).now (shown (drop (n + 1) texts)) other)

pub all_pushed : (P : Site → Type 0) (sites new : List Site) (site : Site) → new ≡ sites ++ site ∷ [] → All P sites → P site → All P new
all_pushed P sites new site is all one = subst (All P) (sym is) (All-push P sites site all one)

pub declared_at : (texts : List (Bor (List ℕ))) (n : ℕ) (d : Bor (List ℕ)) → n < length texts → slice_get (shown texts) n ≡ Some (get_or texts n d).now
declared_at texts n d lt = slice_get-map (λ (t : Bor (List ℕ)). t.now) texts n ∙ ap (option_map (λ (t : Bor (List ℕ)). t.now)) (slice_get-get_or texts n d lt)

pub if_none : {A : Type 0} (o : Option A) (P Q : Type 0) → (P → Q) → IfNone o P → IfNone o Q
if_none None P Q follows h = follows h
if_none (Some x) P Q follows h = tt

pub ok_none : {A E : Type 0} (r : Result (Option A) E) (P Q : Type 0) → (P → Q) → IfOk r (λ o. IfNone o P) → IfOk r (λ o. IfNone o Q)
ok_none (Ok o) P Q follows h = if_none o P Q follows h
ok_none (Err e) P Q follows h = tt
