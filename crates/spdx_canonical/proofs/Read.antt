-- What a reading gives of each word.
use Rattle.std.proofs.Common.{◌≡◌, ℕ, ◌+◌, Bool, true, false, cond, not, ◌&&◌, ◌||◌, ◌==◌, nat_lt, List, [], ◌∷◌, ◌++◌, map, length, drop, Option, Some, None, Result, Ok, Err, refl, sym, ◌∙◌, ap, subst, option_map, find, IfSome, IfOk, IsTrue, bytes_eq, lit<, append_assoc, append-nil, ◌⊎◌, inl, inr, eqb-true}
use Rattle.std.specs.Prelude.{option_and_then, codes}
use Rattle.std.specs.List.{list_all}
use Rattle.std.specs.Str.{str_eq_ignore_ascii_case}
use Rattle.std.proofs.lemmas.List.Sums.{take_while-cons}
use Rattle.std.proofs.Math.Seq.{drop-append_seam}
use Rattle.spdx_requirement.specs.Rows.{LicenseRow, ExceptionRow, ImpreciseRow, Rows}
use Rattle.spdx_catalogue.specs.RowRules.{is_well_formed}
use Rattle.spdx_lexer.specs.declared.token.ParseMode.{ParseMode}
use Rattle.spdx_lexer.specs.Text.{white, is_run_byte, run_at}
use Rattle.spdx_catalogue.specs.Names.{is_name_byte}
use Rattle.spdx_catalogue.specs.LookUps.{listed, listed_exception, listed_caseless, listed_exception_caseless, imprecise_license}
use Rattle.spdx_catalogue.proofs.Spellings.{imprecise_row}
use Rattle.spdx_lexer.specs.Words.{Word, Spdx, LicenseRef, Exception, AdditionRef, Unknown, Plus, OpenParen, CloseParen, With, And, Or, Fault, SeparatedPlus, span}
use Rattle.spdx_lexer.specs.Lexeme.{first_of, sign, whole, operator, name_behind, names_behind, reference, document_reference, lexeme}
use Rattle.spdx_lexer.specs.Groups.{Found, license_reference, addition_reference, exact, referred, caseless, by_run, imprecise, unknown, grouped}
use Rattle.spdx_lexer.proofs.Allowed.{if_allowed}
use Rattle.spdx_requirement.specs.Texts.{reference_text}
use Rattle.spdx_lexer.specs.Reading.{reading, said}
use Rattle.spdx_canonical.proofs.Parts.{is_spdx}
use Rattle.spdx_canonical.proofs.Neighbours.{ends_term, takes_license, is_with, AreApart, IsReference, IsRead, AreRead}
use Rattle.spdx_canonical.proofs.Known.{license_named, exception_named, license_itself, license_caseless, exception_itself, exception_caseless}
use Rattle.spdx_lexer.proofs.Found.{first_all, allowed, lexeme_all}
use Rattle.spdx_canonical.proofs.Lexed.{and_both}
use Rattle.spdx_catalogue.proofs.Caseless.{find_passes}
use Rattle.spdx_lexer.proofs.White.{white_none}
use Rattle.spdx_lexer.proofs.Unfold.{then, behind, reading_is}
use Rattle.spdx_canonical.proofs.Terms.{Stops}
use Rattle.spdx_canonical.proofs.Cuts.{front_split, front_all, all_after, Cut, cut_name, cut_names}

-- no name stands behind one
pub no_license_behind : (last : Word) → ends_term last ≡ true → takes_license last ≡ true → ⊥
no_license_behind OpenParen h k = absurd cc
no_license_behind And h k = absurd cc
no_license_behind Or h k = absurd cc
no_license_behind _ h k = absurd cc

pub no_addition_behind : (last : Word) → ends_term last ≡ true → is_with last ≡ true → ⊥
no_addition_behind With h k = absurd cc
no_addition_behind _ h k = absurd cc

pub clash : (b : Bool) → b ≡ true → not b ≡ true → ⊥
clash true h k = absurd cc
clash false h k = absurd cc

-- ---- the rules in turn

found_then : (P : Word × ℕ → Type 0) (f : Found) (fs : List Found) → IfSome f P → (f ≡ None → IfSome (first_of fs) P) → IfSome (first_of (f ∷ fs)) P
found_then P None fs h k = k refl
found_then P (Some w) fs h k = h

option_found : {A : Type 0} (P : Word × ℕ → Type 0) (g : A → Word × ℕ) (o : Option A) → ((x : A) → o ≡ Some x → P (g x)) → IfSome (option_map g o) P
option_found P g None h = tt
option_found P g (Some x) h = h x refl

whole_found : {A : Type 0} (P : Word × ℕ → Type 0) (run : List ℕ) (g : A → Word) (o : Option A) → ((x : A) → o ≡ Some x → P (g x, length run)) → IfSome (whole run (option_map g o)) P
whole_found P run g None h = tt
whole_found P run g (Some x) h = h x refl

whole_none : {A : Type 0} (run : List ℕ) (g : A → Word) (o : Option A) → whole run (option_map g o) ≡ None → o ≡ None
whole_none run g None e = refl
whole_none run g (Some x) e = absurd cc

first_none : (f : Found) (fs : List Found) → first_of (f ∷ fs) ≡ None → (f ≡ None) × (first_of fs ≡ None)
first_none None fs e = (refl, e)
first_none (Some w) fs e = absurd cc

-- ---- rows

pick : {A : Type 0} (q : A → Bool) (y x : A) (o : Option A) (b : Bool) → cond b (Some y) o ≡ Some x → q y ≡ false → (o ≡ Some x → q x ≡ false) → q x ≡ false
pick q y x o true e h k = let same : y ≡ x = cc in ap q (sym same) ∙ h
pick q y x o false e h k = k e

all_fail : {A : Type 0} (p q : A → Bool) (xs : List A) (x : A) → find p xs ≡ None → find q xs ≡ Some x → p x ≡ false
all_fail p q [] x e f = absurd cc
all_fail p q (y ∷ xs) x e f = each (p y) refl e (all_fail p q xs x) f
  where
    each : (b : Bool) → p y ≡ b → cond b (Some y) (find p xs) ≡ None → (find p xs ≡ None → find q xs ≡ Some x → p x ≡ false) → cond (q y) (Some y) (find q xs) ≡ Some x → p x ≡ false
    each true t e k f = absurd cc
    each false t e k f = pick p y x (find q xs) (q y) f t (k e)

-- ---- what each word of a lexeme is

module _ (c : Rows) (well : IsTrue (is_well_formed c)) where
  -- a reference, and either it is the run, or the run goes on with a colon
  record RefAt (p : List ℕ) (d : Option (List ℕ)) (y text : List ℕ) (n : ℕ) : Type 0 where
    name : list_all is_name_byte y ≡ true
    document : IfSome d (λ x. list_all is_name_byte x ≡ true)
    goes_on : ((listed c.licenses (reference_text p d y) ≡ None) × (listed_exception c.exceptions (reference_text p d y) ≡ None)) ⊎ ((rest : List ℕ) × (drop n text ≡ 58 ∷ rest))

  abbrev IsAt : List ℕ → Word × ℕ → Type 0
  IsAt text (LicenseRef d y, n) = RefAt (codes "LicenseRef-") d y text n
  IsAt text (AdditionRef d y, n) = RefAt (codes "AdditionRef-") d y text n
  IsAt text (w, n) = IsRead c w

  ref_at : (p : List ℕ) (d : Option (List ℕ)) (y text run : List ℕ) → run_at text ≡ run → listed c.licenses run ≡ None → listed_exception c.exceptions run ≡ None → Cut p d y run → RefAt p d y text (length (reference_text p d y))
  ref_at p d y text run r l e cut = record { name = cut.name; document = cut.document; goes_on = ends cut.tail cut.split cut.stops }
    where
      ends : (tail : List ℕ) → run ≡ reference_text p d y ++ tail → Stops is_name_byte tail → ((listed c.licenses (reference_text p d y) ≡ None) × (listed_exception c.exceptions (reference_text p d y) ≡ None)) ⊎ ((rest : List ℕ) × (drop (length (reference_text p d y)) text ≡ 58 ∷ rest))
      ends [] s h = let same : run ≡ reference_text p d y = s ∙ append-nil (reference_text p d y) in inl (subst (λ (t : List ℕ). listed c.licenses t ≡ None) same l, subst (λ (t : List ℕ). listed_exception c.exceptions t ≡ None) same e)
      ends (b ∷ tail) s h =
          let more = drop (length run) text in
          let t = reference_text p d y in
          let all : text ≡ t ++ ((b ∷ tail) ++ more) = front_split is_run_byte text ∙ ap (λ (f : List ℕ). f ++ drop (length f) text) r ∙ ap (λ (f : List ℕ). f ++ more) s ∙ append_assoc t (b ∷ tail) more in
          let runs : list_all is_run_byte (t ++ (b ∷ tail)) ≡ true = ap (list_all is_run_byte) (sym s ∙ sym r) ∙ front_all is_run_byte text in
          let byte : is_run_byte b ≡ true = (and_both (is_run_byte b) (list_all is_run_byte tail) (all_after is_run_byte t (b ∷ tail) runs)).0 in
          let colon : b ≡ 58 = eqb-true b 58 (ap (λ x. x || b == 58) (sym h) ∙ byte) in
          inr (tail ++ more, ap (drop (length t)) all ∙ drop-append_seam t ((b ∷ tail) ++ more) ∙ ap (λ x. x ∷ (tail ++ more)) colon)

  map_found : {A : Type 0} (P : Word × ℕ → Type 0) (Q : A → Type 0) (g : A → Word × ℕ) (o : Option A) → IfSome o Q → ((x : A) → Q x → P (g x)) → IfSome (option_map g o) P
  map_found P Q g None h k = tt
  map_found P Q g (Some x) h k = k x h

  operator_at : (text run : List ℕ) → IfSome (whole run (operator run)) (IsAt text)
  operator_at text run = each (bytes_eq run (codes "AND") || bytes_eq run (codes "and")) (bytes_eq run (codes "OR") || bytes_eq run (codes "or")) (bytes_eq run (codes "WITH") || bytes_eq run (codes "with"))
    where
      each : (a b d : Bool) → IfSome (whole run (cond a (Some And) (cond b (Some Or) (cond d (Some With) None)))) (IsAt text)
      each true b d = tt
      each false true d = tt
      each false false true = tt
      each false false false = tt

  sign_at : (m : ParseMode) (text : List ℕ) → IfSome (sign m text) (IsAt text)
  sign_at m [] = tt
  sign_at m (x ∷ text) = each (x == 43) (x == 40) (x == 41) (x == 47 && m.allow_slash_as_or_operator)
    where
      each : (a b d e : Bool) → IfSome (option_map (λ (w : Word). (w, 1)) (cond a (Some Plus) (cond b (Some OpenParen) (cond d (Some CloseParen) (cond e (Some Or) None))))) (IsAt (x ∷ text))
      each true b d e = tt
      each false true d e = tt
      each false false true e = tt
      each false false false true = tt
      each false false false false = tt

  module _ (text run : List ℕ) where
    exact_at : IfSome (exact c run) (IsAt text)
    exact_at =
        found_then (IsAt text) (whole run (operator run)) (whole run (option_map Spdx (listed c.licenses run)) ∷ whole run (option_map Exception (listed_exception c.exceptions run)) ∷ []) (operator_at text run) (λ _.
        found_then (IsAt text) (whole run (option_map Spdx (listed c.licenses run))) (whole run (option_map Exception (listed_exception c.exceptions run)) ∷ []) (whole_found (IsAt text) run (λ x. Spdx x) (listed c.licenses run) (λ r e. license_itself c well run r e)) (λ none.
        found_then (IsAt text) (whole run (option_map Exception (listed_exception c.exceptions run))) [] (whole_found (IsAt text) run (λ x. Exception x) (listed_exception c.exceptions run) (λ r e.
        (ap (listed c.licenses) (exception_named c well run r e).same ∙ whole_none run (λ x. Spdx x) (listed c.licenses run) none, exception_itself c well run r e))) (λ _. tt)))

    exact_none : exact c run ≡ None → (listed c.licenses run ≡ None) × (listed_exception c.exceptions run ≡ None)
    exact_none e =
        let h1 = first_none (whole run (operator run)) (whole run (option_map Spdx (listed c.licenses run)) ∷ whole run (option_map Exception (listed_exception c.exceptions run)) ∷ []) e in
        let h2 = first_none (whole run (option_map Spdx (listed c.licenses run))) (whole run (option_map Exception (listed_exception c.exceptions run)) ∷ []) h1.1 in
        let h3 = first_none (whole run (option_map Exception (listed_exception c.exceptions run))) [] h2.1 in
        (whole_none run (λ x. Spdx x) (listed c.licenses run) h2.0, whole_none run (λ x. Exception x) (listed_exception c.exceptions run) h3.0)

    referred_at : run_at text ≡ run → exact c run ≡ None → IfSome (referred run) (IsAt text)
    referred_at r e =
        let n = exact_none e in
        let l = codes "LicenseRef-" in
        let a = codes "AdditionRef-" in
        first_all (IsAt text) (license_reference run ∷ addition_reference run ∷ []) (
          first_all (IsAt text) (document_reference l LicenseRef run ∷ reference l LicenseRef run ∷ []) (
            map_found (IsAt text) (λ (x : List ℕ × List ℕ). Cut l (Some x.0) x.1 run) _ (names_behind l run) (cut_names l run) (λ x cut. ref_at l (Some x.0) x.1 text run r n.0 n.1 cut),
            (map_found (IsAt text) (λ (y : List ℕ). Cut l None y run) _ (name_behind l run) (cut_name l run) (λ y cut. ref_at l None y text run r n.0 n.1 cut), tt),
          ),
          (
            first_all (IsAt text) (document_reference a AdditionRef run ∷ reference a AdditionRef run ∷ []) (
              map_found (IsAt text) (λ (x : List ℕ × List ℕ). Cut a (Some x.0) x.1 run) _ (names_behind a run) (cut_names a run) (λ x cut. ref_at a (Some x.0) x.1 text run r n.0 n.1 cut),
              (map_found (IsAt text) (λ (y : List ℕ). Cut a None y run) _ (name_behind a run) (cut_name a run) (λ y cut. ref_at a None y text run r n.0 n.1 cut), tt),
            ),
            tt,
          ),
        )

    -- no licence has the name of an exception that a run names in another case, where no licence has that run so
    not_license : (r : ExceptionRow) → listed_caseless c.licenses run ≡ None → listed_exception_caseless c.exceptions run ≡ Some r → (o : Option LicenseRow) → listed c.licenses (r.name) ≡ o → o ≡ None
    not_license r n e None f = refl
    not_license r n e (Some x) f =
        let like = λ (y : LicenseRow). str_eq_ignore_ascii_case y.name run in
        let fails : like x ≡ false = all_fail like (λ (y : LicenseRow). bytes_eq (y.name) (r.name)) c.licenses x n f in
        let same = (license_named c well r.name x f).same in
        let passes : str_eq_ignore_ascii_case r.name run ≡ true = find_passes (λ (y : ExceptionRow). str_eq_ignore_ascii_case y.name run) c.exceptions r (sym e) in
        absurd (let z : true ≡ false = sym passes ∙ ap (λ (t : List ℕ). str_eq_ignore_ascii_case t run) (sym same) ∙ fails in cc)

    caseless_at : (m : ParseMode) → IfSome (caseless c m run) (IsAt text)
    caseless_at m =
        let f1 = whole run (option_map Spdx (listed_caseless c.licenses run)) in
        let f2 = whole run (option_map Exception (listed_exception_caseless c.exceptions run)) in
        allowed (IsAt text) m.allow_caseless_ids (first_of (f1 ∷ f2 ∷ []))
        (found_then (IsAt text) f1 (f2 ∷ []) (whole_found (IsAt text) run (λ x. Spdx x) (listed_caseless c.licenses run) (λ r e. license_caseless c well run r e)) (λ n.
        let none = whole_none run (λ x. Spdx x) (listed_caseless c.licenses run) n in
        found_then (IsAt text) f2 [] (whole_found (IsAt text) run (λ x. Exception x) (listed_exception_caseless c.exceptions run) (λ r e.
        (not_license r none e (listed c.licenses r.name) refl, exception_caseless c well run r e))) (λ _. tt)))

    imprecise_found : (o : Option ImpreciseRow) → IfSome (option_map (λ (f : LicenseRow × ℕ). (Spdx f.0, f.1)) (option_and_then (λ (n : ImpreciseRow). option_map (λ (r : LicenseRow). (r, length (n.prefix))) (listed c.licenses (n.name))) o)) (IsAt text)
    imprecise_found None = tt
    imprecise_found (Some n) = target (listed c.licenses (n.name)) refl
      where
        target : (o : Option LicenseRow) → listed c.licenses (n.name) ≡ o → IfSome (option_map (λ (f : LicenseRow × ℕ). (Spdx f.0, f.1)) (option_map (λ (r : LicenseRow). (r, length (n.prefix))) o)) (IsAt text)
        target None e = tt
        target (Some r) e = license_itself c well n.name r e

    not_allowed : (b : Bool) (f : Found) → b ≡ false → IfSome (if_allowed b f) (IsAt text)
    not_allowed true f e = absurd cc
    not_allowed false f e = tt

    rules_at : (m : ParseMode) → m.allow_unknown ≡ false → run_at text ≡ run → IfSome (grouped c m text run) (IsAt text)
    rules_at m u r =
        found_then (IsAt text) (by_run c m run) (imprecise c m text ∷ unknown m run ∷ [])
        (found_then (IsAt text) (exact c run) (referred run ∷ caseless c m run ∷ []) exact_at (λ e.
        found_then (IsAt text) (referred run) (caseless c m run ∷ []) (referred_at r e) (λ _.
        found_then (IsAt text) (caseless c m run) [] (caseless_at m) (λ _. tt)))) (λ _.
        found_then (IsAt text) (imprecise c m text) (unknown m run ∷ []) (allowed (IsAt text) m.allow_imprecise_license_names _ (imprecise_found (imprecise_row c.imprecise text))) (λ _.
        found_then (IsAt text) (unknown m run) [] (not_allowed m.allow_unknown (whole run (Some (Unknown run))) u) (λ _. tt)))

  lexeme_at : (m : ParseMode) (text : List ℕ) → m.allow_unknown ≡ false → IfOk (lexeme c m text) (IsAt text)
  lexeme_at m text u = lexeme_all (IsAt text) c m text (sign_at m text) (λ b r e. rules_at text (b ∷ r) m u e)

  -- ---- a word after a colon is a term

  abbrev Term : Word × ℕ → Type 0
  Term f = ends_term f.0 ≡ true

  whole_term : {A : Type 0} (run : List ℕ) (g : A → Word) (o : Option A) → ((x : A) → ends_term (g x) ≡ true) → IfSome (whole run (option_map g o)) Term
  whole_term run g None h = tt
  whole_term run g (Some x) h = h x

  imprecise_term : (o : Option (LicenseRow × ℕ)) → IfSome (option_map (λ (f : LicenseRow × ℕ). (Spdx f.0, f.1)) o) Term
  imprecise_term None = tt
  imprecise_term (Some f) = refl

  colon_rules : (m : ParseMode) (text r : List ℕ) → IfSome (grouped c m text (58 ∷ r)) Term
  colon_rules m text r =
      let run = 58 ∷ r in
      let l = codes "LicenseRef-" in
      let a = codes "AdditionRef-" in
      let one : IfSome (exact c run) Term = first_all Term (whole run (operator run) ∷ whole run (option_map Spdx (listed c.licenses run)) ∷ whole run (option_map Exception (listed_exception c.exceptions run)) ∷ [])
      (tt, (whole_term run (λ x. Spdx x) (listed c.licenses run) (λ _. refl), (whole_term run (λ x. Exception x) (listed_exception c.exceptions run) (λ _. refl), tt))) in
      let two : IfSome (referred run) Term = tt in
      let three : IfSome (caseless c m run) Term = allowed Term m.allow_caseless_ids _ (first_all Term
      (whole run (option_map Spdx (listed_caseless c.licenses run)) ∷ whole run (option_map Exception (listed_exception_caseless c.exceptions run)) ∷ [])
      (whole_term run (λ x. Spdx x) (listed_caseless c.licenses run) (λ _. refl), (whole_term run (λ x. Exception x) (listed_exception_caseless c.exceptions run) (λ _. refl), tt))) in
      first_all Term (by_run c m run ∷ imprecise c m text ∷ unknown m run ∷ []) (
        first_all Term (exact c run ∷ referred run ∷ caseless c m run ∷ []) (one, (two, (three, tt))),
        (allowed Term m.allow_imprecise_license_names _ (imprecise_term (imprecise_license c text)), (allowed Term m.allow_unknown (whole run (Some (Unknown run))) refl, tt)),
      )

  colon_lexeme : (m : ParseMode) (rest : List ℕ) → IfOk (lexeme c m (58 ∷ rest)) Term
  colon_lexeme m rest = lexeme_all Term c m (58 ∷ rest) tt (λ b r e.
      let head : 58 ≡ b = let f = sym (take_while-cons is_run_byte 58 rest) ∙ e in cc in
      subst (λ x. IfSome (grouped c m (58 ∷ rest) (x ∷ r)) Term) head (colon_rules m (58 ∷ rest) r))

  module _ (m : ParseMode) where
    abbrev pub says : ℕ → List ℕ → List (Result Word Fault)
    says at text = map said (reading c m at text)

    abbrev StartsTerm : List Word → Type 0
    StartsTerm [] = ⊥
    StartsTerm (w ∷ ws) = ends_term w ≡ true

    colon_says : (at : ℕ) (rest : List ℕ) (ws : List Word) → says at (58 ∷ rest) ≡ map Ok ws → StartsTerm ws
    colon_says at rest ws e = each (lexeme c m (58 ∷ rest)) (colon_lexeme m rest) ws
        (sym (ap (map said) (reading_is c well m at (58 ∷ rest) ∙ ap (λ n. behind c m (reading c m) at n (drop n (58 ∷ rest))) (white_none 58 rest (lit< tt) refl))) ∙ e)
      where
        each : (r : Result (Word × ℕ) (Fault × ℕ)) → IfOk r Term → (ws : List Word) → map said (then (reading c m) (at + 0) (58 ∷ rest) r) ≡ map Ok ws → StartsTerm ws
        each (Ok f) t [] e = absurd cc
        each (Ok f) t (w ∷ ws) e = let same : f.0 ≡ w = cc in ap ends_term (sym same) ∙ t
        each (Err f) t [] e = absurd cc
        each (Err f) t (w ∷ ws) e = absurd cc

    -- the next word, and what is said after it
    record Took (w : Word) (ws : List Word) : Type 0 where
      text : List ℕ
      size : ℕ
      place : ℕ
      is : lexeme c m text ≡ Ok (w, size)
      next : says place (drop size text) ≡ map Ok ws

    took : (at : ℕ) (text : List ℕ) (w : Word) (ws : List Word) → says at text ≡ map Ok (w ∷ ws) → Took w ws
    took at text w ws e = each (drop (white text) text) (sym (ap (map said) (reading_is c well m at text)) ∙ e)
      where
        found : (place : ℕ) (t : List ℕ) (r : Result (Word × ℕ) (Fault × ℕ)) → lexeme c m t ≡ r → map said (then (reading c m) place t r) ≡ map Ok (w ∷ ws) → Took w ws
        found place t (Ok f) l e =
            let same : f.0 ≡ w = cc in
            let rest : says (place + f.1) (drop f.1 t) ≡ map Ok ws = cc in
            record { text = t; size = f.1; place = place + f.1; is = l ∙ ap (λ (x : Word). let r : Result (Word × ℕ) (Fault × ℕ) = Ok (x, f.1) in r) same; next = rest }
        found place t (Err f) l e = absurd cc

        tested : (b : Bool) (gap : ℕ) (t : List ℕ) → map said (cond b (Err (SeparatedPlus, span at gap) ∷ []) (then (reading c m) (at + gap) t (lexeme c m t))) ≡ map Ok (w ∷ ws) → Took w ws
        tested true gap t e = absurd cc
        tested false gap t e = found (at + gap) t (lexeme c m t) refl e

        each : (t : List ℕ) → map said (behind c m (reading c m) at (white text) t) ≡ map Ok (w ∷ ws) → Took w ws
        each [] e = absurd cc
        each (b ∷ t) e = tested (nat_lt 0 (white text) && b == 43) (white text) (b ∷ t) e

    no_colon : (last : Word) → ends_term last ≡ true → is_spdx last ≡ false → (ws : List Word) → StartsTerm ws → AreApart last ws → ⊥
    no_colon last e k [] s a = s
    no_colon last e k (Plus ∷ ws) s a = absurd (let z : false ≡ true = sym k ∙ a.0 in cc)
    no_colon last e k (With ∷ ws) s a = absurd cc
    no_colon last e k (And ∷ ws) s a = absurd cc
    no_colon last e k (Or ∷ ws) s a = absurd cc
    no_colon last e k (OpenParen ∷ ws) s a = absurd cc
    no_colon last e k (CloseParen ∷ ws) s a = absurd cc
    no_colon last e k (Spdx r ∷ ws) s a = no_license_behind last e a.0
    no_colon last e k (LicenseRef d y ∷ ws) s a = no_license_behind last e a.0
    no_colon last e k (Exception r ∷ ws) s a = no_addition_behind last e a.0
    no_colon last e k (AdditionRef d y ∷ ws) s a = no_addition_behind last e a.0
    no_colon last e k (Unknown x ∷ ws) s a = clash (ends_term last) e a.0

    reference_read : (p : List ℕ) (d : Option (List ℕ)) (y : List ℕ) (last : Word) → ends_term last ≡ true → is_spdx last ≡ false → (ws : List Word) → AreApart last ws → (text : List ℕ) (size place : ℕ) → RefAt p d y text size → says place (drop size text) ≡ map Ok ws → IsReference c p d y
    reference_read p d y last e k ws a text size place ref next = each ref.goes_on
      where
        each : ((listed c.licenses (reference_text p d y) ≡ None) × (listed_exception c.exceptions (reference_text p d y) ≡ None)) ⊎ ((rest : List ℕ) × (drop size text ≡ 58 ∷ rest)) → IsReference c p d y
        each (inl none) = record { name = ref.name; document = ref.document; no_license = none.0; no_exception = none.1 }
        each (inr colon) = absurd (no_colon last e k ws (colon_says place colon.0 ws (ap (says place) (sym colon.1) ∙ next)) a)

    one : (w : Word) (ws : List Word) → AreApart w ws → (text : List ℕ) (size place : ℕ) → IsAt text (w, size) → says place (drop size text) ≡ map Ok ws → IsRead c w
    one (LicenseRef d y) ws a text size place h e = reference_read (codes "LicenseRef-") d y (LicenseRef d y) refl refl ws a text size place h e
    one (AdditionRef d y) ws a text size place h e = reference_read (codes "AdditionRef-") d y (AdditionRef d y) refl refl ws a text size place h e
    one _ ws a text size place h e = h

    -- the words of a reading of which no two terms touch
    pub are_read : m.allow_unknown ≡ false → (last : Word) (ws : List Word) → AreApart last ws → (at : ℕ) (text : List ℕ) → says at text ≡ map Ok ws → AreRead c ws
    are_read u last [] a at text e = tt
    are_read u last (w ∷ ws) a at text e =
        let t = took at text w ws e in
        let known : IfOk {E = Fault × ℕ} (Ok (w, t.size)) (IsAt t.text) = subst (λ (r : Result (Word × ℕ) (Fault × ℕ)). IfOk r (IsAt t.text)) t.is (lexeme_at m t.text u) in
        (one w ws a.1 t.text t.size t.place known t.next, are_read u w ws a.1 t.place (drop t.size t.text) t.next)
