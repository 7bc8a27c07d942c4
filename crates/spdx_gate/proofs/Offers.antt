-- Offers: the entries of what is wanted, and what was chosen among them.
use Rattle.std.proofs.Common.{◌≡◌, ℕ, ◌+◌, ◌<◌, Bool, true, false, ◌||◌, not, cond, List, [], ◌∷◌, ◌++◌, Vec, Global, length, get_or, take, map, filter, flat_map, refl, sym, ap, subst, ◌∙◌, arith, append-nil, append_assoc}
use Rattle.std.specs.Prelude.{if◌then◌else◌, bytes_eq, fold, All}
use Rattle.std.specs.List.{list_any}
use Rattle.std.proofs.lemmas.List.{map-append, length-map, length-take-le, take_more}
use Rattle.std.proofs.lemmas.List.Elements.{All-nil, All-cons, filter-append}
use Rattle.std.proofs.lemmas.List.Sums.{fold-append}
use Rattle.std.proofs.lemmas.Slice.Eq.{bytes_eq-Decides}
use Rattle.spdx_requirement.specs.declared.requirement.LicenseReq.{LicenseReq}
use Rattle.spdx_requirement.specs.Items.{Requirement, requirement_of}
use Rattle.spdx_requirement.specs.Texts.{requirement_text}
use Rattle.spdx_parser.specs.Tree.{Tree, leaves}
use Rattle.spdx_policy.specs.Blame.{IsNoEntry}
use Rattle.spdx_policy.specs.Decisions.{is_denied_way, ways_of}
use Rattle.spdx_policy.specs.Meant.{IsNamed}
use Rattle.spdx_policy.specs.Rules.{NamedRow, Rules}
use Rattle.spdx_why.specs.declared.choice.Remedy.{Remedy}
use Rattle.spdx_why.specs.declared.choice.Remedy.TheVariants as remedy
use Rattle.spdx_why.specs.Least.{advised}
use Rattle.spdx_why.specs.Serving.{choice_among, ChoiceCures}
use Rattle.spdx_gate.specs.declared.advice.Advice.{Advice}
use Rattle.spdx_gate.specs.declared.advice.Advice.TheVariants as advice
use Rattle.spdx_gate.specs.Allowing.{allowed_in}
use Rattle.spdx_gate.specs.Advising.{HasEntry, AreEntries, none, entry, no_entry, IsAdvised, AddsOffers, Advises, AdviceWorks, serving_of, ways_in, free_texts, unless, wanted_of, wanted_in, wanted_by}
use Rattle.spdx_gate.specs.Texts.{is_among, with_text, each_once}
use Rattle.spdx_gate.specs.Ways.{reqs_in, each_reqs}
use Rattle.spdx_gate.proofs.Works.{AreNamed, named_once, passes_with}

-- ---- the entries of texts

flag_text : (text x : List ℕ) (b : Bool) → bytes_eq text x ≡ b → (text ≡ x → ⊥) → b ≡ false
flag_text text x true e apart = absurd (apart ((bytes_eq-Decides text x).0 e))
flag_text text x false e apart = refl

no_name : (p : Rules) (text : List ℕ) (n : NamedRow) → IsNoEntry p.list text → IsNamed p.list p.replacements text n → ⊥
no_name p text n isnt is = isnt is.requirement is.entry

-- a text that is an entry is known exactly if an offer has it
known_offered : (p : Rules) (x : List ℕ) (n : NamedRow) → IsNamed p.list p.replacements x n → {texts : List (List ℕ)} {ns : List NamedRow} → AreEntries p texts ns → is_among texts x ≡ list_any (λ (m : NamedRow). bytes_eq m.text x) ns
known_offered p x n named none = refl
known_offered p x n named (entry {text = text} {n = m} {texts = texts} {ns = ns} is more) =
    ap (λ (t : List ℕ). bytes_eq t x || is_among texts x) (sym is.text_is) ∙ ap (λ (b : Bool). bytes_eq m.text x || b) (known_offered p x n named more)
known_offered p x n named (no_entry {text = text} {texts = texts} isnt more) =
    ap (λ (b : Bool). b || is_among texts x) (flag_text text x (bytes_eq text x) refl (λ e. no_name p text n isnt (subst (λ (t : List ℕ). IsNamed p.list p.replacements t n) (sym e) named)))
    ∙ known_offered p x n named more

put_entry : (p : Rules) (x : List ℕ) (n : NamedRow) → IsNamed p.list p.replacements x n → {texts : List (List ℕ)} {ns : List NamedRow} → AreEntries p texts ns → AreEntries p (texts ++ x ∷ []) (ns ++ n ∷ [])
put_entry p x n named none = entry named none
put_entry p x n named (entry is more) = entry is (put_entry p x n named more)
put_entry p x n named (no_entry isnt more) = no_entry isnt (put_entry p x n named more)

put_none : (p : Rules) (x : List ℕ) → IsNoEntry p.list x → {texts : List (List ℕ)} {ns : List NamedRow} → AreEntries p texts ns → AreEntries p (texts ++ x ∷ []) ns
put_none p x isnt none = no_entry isnt none
put_none p x isnt (entry is more) = entry is (put_none p x isnt more)
put_none p x isnt (no_entry other more) = no_entry other (put_none p x isnt more)

pub are_named : (p : Rules) {texts : List (List ℕ)} {ns : List NamedRow} → AreEntries p texts ns → AreNamed p ns
are_named p none = All-nil (λ (n : NamedRow). IsNamed p.list p.replacements n.text n)
are_named p (entry {n = n} {ns = ns} is more) =
    All-cons (λ (m : NamedRow). IsNamed p.list p.replacements m.text m) n ns (subst (λ (t : List ℕ). IsNamed p.list p.replacements t n) (sym is.text_is) is) (are_named p more)
are_named p (no_entry isnt more) = are_named p more

-- texts have one list of entries
pub entries_once : (p : Rules) (texts : List (List ℕ)) (ns ms : List NamedRow) → AreEntries p texts ns → AreEntries p texts ms → ns ≡ ms
entries_once p _ _ _ none none = refl
entries_once p _ _ _ (entry {text = text} {n = n} {texts = texts} {ns = ns} is more) (entry {n = m} {ns = ms} also rest) =
    ap (λ (z : NamedRow). z ∷ ns) (named_once p.list p.replacements text n m is also) ∙ ap (λ (zs : List NamedRow). m ∷ zs) (entries_once p texts ns ms more rest)
entries_once p _ _ _ (entry {n = n} is more) (no_entry isnt rest) = absurd (no_name p _ n isnt is)
entries_once p _ _ _ (no_entry isnt more) (entry {n = m} also rest) = absurd (no_name p _ m isnt also)
entries_once p _ _ _ (no_entry {texts = texts} {ns = ns} isnt more) (no_entry {ns = ms} also rest) = entries_once p texts ns ms more rest

-- ---- one text more, and one requirement more

pub adds_none : (p : Rules) (old : List NamedRow) → AddsOffers p [] old old
adds_none p old = λ known h. h

adds_both : (p : Rules) (xs ys : List (List ℕ)) (first old new : List NamedRow) → AddsOffers p xs first old → AddsOffers p ys old new → AddsOffers p (xs ++ ys) first new
adds_both p xs ys first old new f g = λ known h. subst (λ (z : List (List ℕ)). AreEntries p z new) (sym (fold-append with_text known xs ys)) (g (fold with_text known xs) (f known h))

abbrev is_free : Rules → List ℕ → Requirement → Bool
is_free p tables w = not (is_denied_way p tables w)

-- the text of a licence that something denies
pub denied_adds : (p : Rules) (tables : List ℕ) (w : Requirement) (old : List NamedRow) → not (is_denied_way p tables w) ≡ false → AddsOffers p (free_texts p tables (w ∷ [])) old old
denied_adds p tables w old e = subst (λ (b : Bool). AddsOffers p (map requirement_text (cond b (w ∷ []) [])) old old) (sym e) (adds_none p old)

-- of one that nothing denies
free_adds : (p : Rules) (tables : List ℕ) (w : Requirement) (old new : List NamedRow) → not (is_denied_way p tables w) ≡ true → AddsOffers p (requirement_text w ∷ []) old new → AddsOffers p (free_texts p tables (w ∷ [])) old new
free_adds p tables w old new e h = subst (λ (b : Bool). AddsOffers p (map requirement_text (cond b (w ∷ []) [])) old new) (sym e) h

pub none_adds : (p : Rules) (tables : List ℕ) (w : Requirement) (old : List NamedRow) → not (is_denied_way p tables w) ≡ true → IsNoEntry p.list (requirement_text w) → AddsOffers p (free_texts p tables (w ∷ [])) old old
none_adds p tables w old e isnt = free_adds p tables w old old e (λ known h. by (is_among known (requirement_text w)) known h)
  where
    by : (b : Bool) (known : List (List ℕ)) → AreEntries p known old → AreEntries p (if b then known else known ++ requirement_text w ∷ []) old
    by true known h = h
    by false known h = put_none p (requirement_text w) isnt h

pub known_adds : (p : Rules) (tables : List ℕ) (w : Requirement) (n : NamedRow) (old : List NamedRow) → not (is_denied_way p tables w) ≡ true → IsNamed p.list p.replacements (requirement_text w) n
    → list_any (λ (m : NamedRow). bytes_eq m.text n.text) old ≡ true → AddsOffers p (free_texts p tables (w ∷ [])) old old
known_adds p tables w n old e named there = free_adds p tables w old old e (λ known h. by (is_among known x) known (known_offered p x n named h ∙ same) h)
  where
    x : List ℕ
    x = requirement_text w

    same : list_any (λ (m : NamedRow). bytes_eq m.text (requirement_text w)) old ≡ true
    same = ap (λ (t : List ℕ). list_any (λ (m : NamedRow). bytes_eq m.text t) old) (sym named.text_is) ∙ there

    by : (b : Bool) (known : List (List ℕ)) → b ≡ true → AreEntries p known old → AreEntries p (if b then known else known ++ requirement_text w ∷ []) old
    by true known is h = h
    by false known is h = absurd (cc)

pub new_adds : (p : Rules) (tables : List ℕ) (w : Requirement) (n : NamedRow) (old new : List NamedRow) → not (is_denied_way p tables w) ≡ true → IsNamed p.list p.replacements (requirement_text w) n
    → list_any (λ (m : NamedRow). bytes_eq m.text n.text) old ≡ false → new ≡ old ++ n ∷ [] → AddsOffers p (free_texts p tables (w ∷ [])) old new
new_adds p tables w n old new e named there last =
    free_adds p tables w old new e
    (λ known h. subst (AreEntries p (with_text known (requirement_text w))) (sym last) (by (is_among known (requirement_text w)) known (known_offered p (requirement_text w) n named h ∙ same) h))
  where
    same : list_any (λ (m : NamedRow). bytes_eq m.text (requirement_text w)) old ≡ false
    same = ap (λ (t : List ℕ). list_any (λ (m : NamedRow). bytes_eq m.text t) old) (sym named.text_is) ∙ there

    by : (b : Bool) (known : List (List ℕ)) → b ≡ false → AreEntries p known old → AreEntries p (if b then known else known ++ requirement_text w ∷ []) (old ++ n ∷ [])
    by true known is h = absurd (cc)
    by false known is h = put_entry p (requirement_text w) n named h

free_more : (p : Rules) (tables : List ℕ) (xs ys : List Requirement) → free_texts p tables (xs ++ ys) ≡ free_texts p tables xs ++ free_texts p tables ys
free_more p tables xs ys = ap (map requirement_text) (filter-append (is_free p tables) xs ys) ∙ map-append requirement_text (filter (is_free p tables) xs) (filter (is_free p tables) ys)

-- one licence more
pub way_adds : (p : Rules) (tables : List ℕ) (ways : List LicenseReq) (i : ℕ) (w : LicenseReq) (first old new : List NamedRow) → i < length ways → w ≡ get_or ways i w
    → AddsOffers p (free_texts p tables (map requirement_of (take i ways))) first old → AddsOffers p (free_texts p tables (requirement_of w ∷ [])) old new
    → AddsOffers p (free_texts p tables (map requirement_of (take (i + 1) ways))) first new
way_adds p tables ways i w first old new lt is f g =
    let next : take (i + 1) ways ≡ take i ways ++ w ∷ [] = take_more ways i w lt ∙ ap (λ (z : LicenseReq). take i ways ++ z ∷ []) (sym is) in
    let same : free_texts p tables (map requirement_of (take (i + 1) ways)) ≡ free_texts p tables (map requirement_of (take i ways)) ++ free_texts p tables (requirement_of w ∷ []) =
    ap (λ (z : List LicenseReq). free_texts p tables (map requirement_of z)) next
    ∙ ap (free_texts p tables) (map-append requirement_of (take i ways) (w ∷ []))
    ∙ free_more p tables (map requirement_of (take i ways)) (requirement_of w ∷ []) in
    subst (λ (z : List (List ℕ)). AddsOffers p z first new) (sym same)
    (adds_both p (free_texts p tables (map requirement_of (take i ways))) (free_texts p tables (requirement_of w ∷ [])) first old new f g)

wanted_push : (p : Rules) (tables : List ℕ) (accepted : List Bool) (each : List (List Requirement)) (ws : List Requirement)
    → wanted_by p tables accepted (each ++ ws ∷ []) ≡ wanted_by p tables accepted each ++ unless (get_or accepted (length each) false) (free_texts p tables ws)
wanted_push p tables [] [] ws = append-nil (free_texts p tables ws)
wanted_push p tables (a ∷ accepted) [] ws = append-nil (unless a (free_texts p tables ws))
wanted_push p tables [] (vs ∷ each) ws =
    ap (λ (z : List (List ℕ)). free_texts p tables vs ++ z) (wanted_push p tables [] each ws) ∙ sym (append_assoc (free_texts p tables vs) (wanted_by p tables [] each) (free_texts p tables ws))
wanted_push p tables (a ∷ accepted) (vs ∷ each) ws =
    ap (λ (z : List (List ℕ)). unless a (free_texts p tables vs) ++ z) (wanted_push p tables accepted each ws)
    ∙ sym (append_assoc (unless a (free_texts p tables vs)) (wanted_by p tables accepted each) (unless (get_or accepted (length each) false) (free_texts p tables ws)))

-- one requirement more, which may be had under these licences
pub requirement_adds : (p : Rules) (tables : List ℕ) (accepted : List Bool) (ways : List (Vec LicenseReq Global)) (i : ℕ) (v : Vec LicenseReq Global) (b : Bool) (old new : List NamedRow) → i < length ways → v ≡ get_or ways i v → b ≡ get_or accepted i false
    → AreEntries p (each_once (wanted_by p tables accepted (each_reqs (take i ways)))) old → AddsOffers p (unless b (free_texts p tables (reqs_in v))) old new
    → AreEntries p (each_once (wanted_by p tables accepted (each_reqs (take (i + 1) ways)))) new
requirement_adds p tables accepted ways i v b old new lt is flag h adds =
    let each = each_reqs (take i ways) in
    let next : each_reqs (take (i + 1) ways) ≡ each ++ reqs_in v ∷ [] =
    ap each_reqs (take_more ways i v lt ∙ ap (λ (z : Vec LicenseReq Global). take i ways ++ z ∷ []) (sym is)) ∙ map-append reqs_in (take i ways) (v ∷ []) in
    let many : length each ≡ i = length-map (take i ways) reqs_in ∙ length-take-le i ways (omega (arith, lt)) in
    let here : unless (get_or accepted (length each) false) (free_texts p tables (reqs_in v)) ≡ unless b (free_texts p tables (reqs_in v)) =
    ap (λ (n : ℕ). unless (get_or accepted n false) (free_texts p tables (reqs_in v))) many ∙ ap (λ (z : Bool). unless z (free_texts p tables (reqs_in v))) (sym flag) in
    let same : wanted_by p tables accepted (each_reqs (take (i + 1) ways)) ≡ wanted_by p tables accepted each ++ unless b (free_texts p tables (reqs_in v)) =
    ap (wanted_by p tables accepted) next ∙ wanted_push p tables accepted each (reqs_in v) ∙ ap (λ (z : List (List ℕ)). wanted_by p tables accepted each ++ z) here in
    subst (λ (z : List (List ℕ)). AreEntries p (each_once z) new) (sym same)
    (subst (λ (z : List (List ℕ)). AreEntries p z new) (sym (fold-append with_text [] (wanted_by p tables accepted each) (unless b (free_texts p tables (reqs_in v))))) (adds (each_once (wanted_by p tables accepted each)) h))

wanted_all : (p : Rules) (tables : List ℕ) (rs : List Requirement) → wanted_by p tables (map (allowed_in p tables) rs) (map (ways_of p) rs) ≡ flat_map (wanted_of p tables) rs
wanted_all p tables [] = refl
wanted_all p tables (r ∷ rs) = ap (λ (z : List (List ℕ)). wanted_of p tables r ++ z) (wanted_all p tables rs)

-- the advice that was made of a choice works
pub advice_works : (p : Rules) (tables : List ℕ) (t : Tree) (offers : List NamedRow) (r : Remedy) (a : Advice) → AreNamed p offers
    → ChoiceCures t (map (allowed_in p tables) (leaves t)) (serving_of p tables offers (ways_in p t)) r → Advises offers a (advised r) → AdviceWorks p tables t a
advice_works p tables t offers (remedy.Accept v) (advice.Allow texts) named cures says =
    λ more all. passes_with p tables t offers v.items more named cures (subst (λ (z : List (List ℕ)). All (HasEntry p more) z) says all)
advice_works p tables t offers remedy.Unmet (advice.Allow texts) named cures says = absurd says
advice_works p tables t offers (remedy.TooMany n) (advice.Allow texts) named cures says = absurd says
advice_works p tables t offers r advice.Unmet named cures says = tt
advice_works p tables t offers r (advice.TooMany n) named cures says = tt

-- what was chosen among the offers is the advice
pub advised_so : (p : Rules) (tables : List ℕ) (t : Tree) (offers shown : List NamedRow) (each : List (List Requirement)) (accepted : List Bool) (serving : List (List ℕ)) (count : ℕ) (r : Remedy) (a : Advice)
    → each ≡ ways_in p t → shown ≡ offers → accepted ≡ map (allowed_in p tables) (leaves t) → serving ≡ serving_of p tables offers each → count ≡ length offers → AreEntries p (each_once (wanted_by p tables accepted each)) offers
    → advised r ≡ choice_among t accepted serving count → ChoiceCures t accepted serving r → Advises shown a (advised r) → IsAdvised p tables t a
advised_so p tables t offers shown each accepted serving count r a of_ways same is_accepted serves many all exact cures says =
    let allowed = map (allowed_in p tables) (leaves t) in
    let served : serving ≡ serving_of p tables offers (ways_in p t) = serves ∙ ap (serving_of p tables offers) of_ways in
    let chosen_is : advised r ≡ choice_among t allowed (serving_of p tables offers (ways_in p t)) (length offers) =
    exact ∙ ap (λ (z : List Bool). choice_among t z serving count) is_accepted ∙ ap (λ (z : List (List ℕ)). choice_among t allowed z count) served
    ∙ ap (choice_among t allowed (serving_of p tables offers (ways_in p t))) many in
    let there : Advises offers a (advised r) = subst (λ (z : List NamedRow). Advises z a (advised r)) same says in
    let cured : ChoiceCures t allowed (serving_of p tables offers (ways_in p t)) r =
    subst (λ (z : List (List ℕ)). ChoiceCures t allowed z r) served (subst (λ (z : List Bool). ChoiceCures t z serving r) is_accepted cures) in
    let whole : AreEntries p (wanted_in p tables t) offers =
    subst (λ (z : List (List ℕ)). AreEntries p (each_once z) offers)
    (ap (λ (z : List Bool). wanted_by p tables z each) is_accepted ∙ ap (wanted_by p tables allowed) of_ways ∙ wanted_all p tables (leaves t)) all in
    record {
      offers = offers;
      are_offers = whole;
      advises = subst (Advises offers a) chosen_is there;
      works = advice_works p tables t offers r a (are_named p whole) cured there;
    }
