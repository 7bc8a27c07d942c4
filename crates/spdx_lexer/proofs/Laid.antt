-- How the items of a reading lie in the text.
use Rattle.std.proofs.Common.{◌≡◌, ℕ, zero, suc, ◌+◌, ◌-◌, ◌<◌, ◌≤◌, inl, inr, Bool, true, false, cond, ◌&&◌, ◌==◌, nat_lt, List, [], ◌∷◌, ◌++◌, length, take, drop, get_or, map, Option, Some, None, Result, Ok, Err, refl, sym, ◌∙◌, ap, subst, arith, IfSome, IfOk, IfErr, option_map, length-drop, IsUtf8, IsCharBoundary}
use Rattle.std.specs.List.{All}
use Rattle.std.specs.Prelude.{option_and_then, ok_or, if◌then◌else◌}
use Rattle.std.proofs.lemmas.List.{drop-drop, take-append-le, take-append-drop}
use Rattle.std.proofs.lemmas.Bool.{eqb-true}
use Rattle.std.proofs.lemmas.Str.{IsUtf8-drop, IsCharBoundary-from_rest, IsCharBoundary-end, IsCharBoundary-start}
use Rattle.spdx_catalogue.specs.Names.{begins_caseless}
use Rattle.spdx_requirement.specs.Rows.{Rows, LicenseRow, ImpreciseRow, HasTextPrefixes}
use Rattle.spdx_catalogue.specs.RowRules.{is_well_formed}
use Rattle.spdx_catalogue.specs.LookUps.{listed}
use Rattle.spdx_catalogue.proofs.Spellings.{imprecise_row}
use Rattle.spdx_catalogue.proofs.Caseless.{find_passes, caseless_cut}
use Rattle.spdx_catalogue.proofs.Listed.{find_place, listed_is_license, listed_name}
use Rattle.spdx_lexer.specs.declared.token.ParseMode.{ParseMode}
use Rattle.spdx_lexer.specs.Words.{Word, Spdx, Plus, OpenParen, CloseParen, Or, Fault, SeparatedPlus, UnknownTerm, Span, span, Item}
use Rattle.spdx_lexer.specs.Text.{white, run_at, is_run_byte}
use Rattle.spdx_lexer.specs.Lexeme.{sign, rules, lexeme_of, lexeme}
use Rattle.spdx_lexer.specs.Groups.{Found, by_run, imprecise, unknown}
use Rattle.spdx_lexer.specs.Reading.{reading}
use Rattle.spdx_lexer.specs.Layout.{IsSpelt, IsWhite, between, IsPlace, IsGap, IsLexical, AreLaid, ended, stopped, goes_on, place_of}
use Rattle.spdx_lexer.proofs.Unfold.{then, behind, reading_is}
use Rattle.spdx_lexer.proofs.Next.{reading_nil}
use Rattle.spdx_lexer.proofs.Front.{run_cut, first_cut}
use Rattle.spdx_lexer.proofs.White.{white_front}
use Rattle.spdx_lexer.proofs.Found.{first_all, lexeme_all, lexeme_long}
use Rattle.spdx_lexer.proofs.Spelt.{Stands, by_run_stands, unknown_stands, if_allowed_all, cut_at}

module _ (c : Rows) (well : is_well_formed c ≡ true) (texts : HasTextPrefixes c) (m : ParseMode) where
  -- ---- one word

  -- the word ends on a boundary, and stands for its bytes
  abbrev Fits : List ℕ → Word × ℕ → Type 0
  Fits text f = IsCharBoundary text f.1 × IsSpelt c m f.0 (take f.1 text)

  -- a word of the run at the front of a text
  of_run : (text : List ℕ) → IsUtf8 text → (f : Word × ℕ) → Stands c well m (run_at text) f → Fits text f
  of_run text u f s =
      let all : text ≡ run_at text ++ drop (length (run_at text)) text = cut_at is_run_byte text in
      let same : take f.1 text ≡ take f.1 (run_at text) = ap (take f.1) all ∙ take-append-le f.1 (run_at text) (drop (length (run_at text)) text) s.0 in
      (run_cut text f.1 u s.0, subst (IsSpelt c m f.0) (sym same) s.1)

  found_fits : (text : List ℕ) → IsUtf8 text → (run : List ℕ) → run_at text ≡ run → (o : Found) → IfSome o (Stands c well m run) → IfSome o (Fits text)
  found_fits text u run e None h = tt
  found_fits text u run e (Some f) h = of_run text u f (subst (λ (r : List ℕ). Stands c well m r f) (sym e) h)

  imprecise_fits : (text : List ℕ) → IsUtf8 text → IfSome (imprecise c m text) (Fits text)
  imprecise_fits text u = if_allowed_all c well m (Fits text) m.allow_imprecise_license_names _ (λ on. spelled on (imprecise_row c.imprecise text) refl)
    where
      target : (on : m.allow_imprecise_license_names ≡ true) (n : ImpreciseRow) → imprecise_row c.imprecise text ≡ Some n → (o : Option LicenseRow) → listed c.licenses n.name ≡ o
          → IfSome (option_map {U = Word × ℕ} (λ (f : LicenseRow × ℕ). (Spdx f.0, f.1)) (option_map {U = LicenseRow × ℕ} (λ (r : LicenseRow). (r, length n.prefix)) o)) (Fits text)
      target on n found None e = tt
      target on n found (Some r) e =
          let place = find_place (λ (y : ImpreciseRow). begins_caseless y.prefix text) c.imprecise n found in
          let begins : begins_caseless n.prefix text ≡ true = find_passes (λ (y : ImpreciseRow). begins_caseless y.prefix text) c.imprecise n (sym found) in (
            caseless_cut n.prefix text (texts place.0 n place.1) u begins,
            (listed_is_license c well n.name r e, inr (on, (place.0, (n, (place.1, (sym (listed_name c well n.name r e), begins)))))),
          )

      spelled : (on : m.allow_imprecise_license_names ≡ true) (o : Option ImpreciseRow) → imprecise_row c.imprecise text ≡ o
          → IfSome (option_map {U = Word × ℕ} (λ (f : LicenseRow × ℕ). (Spdx f.0, f.1)) (option_and_then (λ (n : ImpreciseRow). option_map {U = LicenseRow × ℕ} (λ (r : LicenseRow). (r, length n.prefix)) (listed c.licenses n.name)) o)) (Fits text)
      spelled on None e = tt
      spelled on (Some n) e = target on n e (listed c.licenses n.name) refl

  sign_fits : (text : List ℕ) → IsUtf8 text → IfSome (sign m text) (Fits text)
  sign_fits [] u = tt
  sign_fits (b ∷ text) u = first (b == 43) refl
    where
      here : (w : Word) (k : ℕ) → k < 128 → (b == k) ≡ true → IsSpelt c m w (k ∷ []) → Fits (b ∷ text) (w, 1)
      here w k low e h =
          let same : b ≡ k = eqb-true b k e in
          (first_cut (b ∷ text) u (omega arith) (omega (arith, same, low)), subst (λ (x : ℕ). IsSpelt c m w (x ∷ [])) (sym same) h)

      slash : (t : Bool) → (b == 47) ≡ t → (a : Bool) → m.allow_slash_as_or_operator ≡ a → IfSome (option_map {U = Word × ℕ} (λ w. (w, 1)) (if t && a then Some Or else None)) (Fits (b ∷ text))
      slash true e true on = here Or 47 (omega arith) e (inr (on, refl))
      slash true e false on = tt
      slash false e a on = tt

      third : (t : Bool) → (b == 41) ≡ t → IfSome (option_map {U = Word × ℕ} (λ w. (w, 1)) (if t then Some CloseParen else if b == 47 && m.allow_slash_as_or_operator then Some Or else None)) (Fits (b ∷ text))
      third true e = here CloseParen 41 (omega arith) e refl
      third false e = slash (b == 47) refl m.allow_slash_as_or_operator refl

      second : (t : Bool) → (b == 40) ≡ t → IfSome (option_map {U = Word × ℕ} (λ w. (w, 1)) (if t then Some OpenParen else if b == 41 then Some CloseParen else if b == 47 && m.allow_slash_as_or_operator then Some Or else None)) (Fits (b ∷ text))
      second true e = here OpenParen 40 (omega arith) e refl
      second false e = third (b == 41) refl

      first : (t : Bool) → (b == 43) ≡ t → IfSome (option_map {U = Word × ℕ} (λ w. (w, 1)) (if t then Some Plus else if b == 40 then Some OpenParen else if b == 41 then Some CloseParen else if b == 47 && m.allow_slash_as_or_operator then Some Or else None)) (Fits (b ∷ text))
      first true e = here Plus 43 (omega arith) e refl
      first false e = second (b == 40) refl

  lexeme_fits : (text : List ℕ) → IsUtf8 text → IfOk (lexeme c m text) (Fits text)
  lexeme_fits text u = lexeme_all (Fits text) c m text (sign_fits text u) (λ b r e.
      first_all (Fits text) (by_run c m (b ∷ r) ∷ imprecise c m text ∷ unknown m (b ∷ r) ∷ []) (
        found_fits text u (b ∷ r) e (by_run c m (b ∷ r)) (by_run_stands c well m (b ∷ r)),
        (imprecise_fits text u, (found_fits text u (b ∷ r) e (unknown m (b ∷ r)) (unknown_stands c well m (b ∷ r)), tt)),
      ))

  -- a fault of the front of a text ends on a boundary
  abbrev Stops : List ℕ → Fault × ℕ → Type 0
  Stops text f = IsLexical f.0 × IsCharBoundary text f.1

  lexeme_stops : (text : List ℕ) → IsUtf8 text → IfErr (lexeme c m text) (Stops text)
  lexeme_stops text u = of_sign (sign m text)
    where
      of_rules : (b : ℕ) (run : List ℕ) → run_at text ≡ b ∷ run → (o : Found) → IfErr (ok_or {E = Fault × ℕ} o (UnknownTerm, length (b ∷ run))) (Stops text)
      of_rules b run e None = (inr (inr refl), run_cut text (length (b ∷ run)) u (omega (arith, ap length e)))
      of_rules b run e (Some f) = tt

      of_front : (run : List ℕ) (o : Found) → run_at text ≡ run → IfErr (lexeme_of text run None o) (Stops text)
      of_front [] o e = (inl refl, IsCharBoundary-end text)
      of_front (b ∷ run) o e = of_rules b run e o

      of_sign : (s : Found) → IfErr (lexeme_of text (run_at text) s (rules c m text (run_at text))) (Stops text)
      of_sign None = of_front (run_at text) _ refl
      of_sign (Some f) = tt

  -- ---- all of them
  module _ (text : List ℕ) (utf8 : IsUtf8 text) where
    no_white : IsWhite []
    no_white = ([], (refl, refl))

    none_between : (at : ℕ) → IsGap text at at
    none_between at = (omega arith, rest (at - at) (omega arith))
      where
        rest : (n : ℕ) → n ≡ 0 → IsWhite (take n (drop at text))
        rest zero e = no_white
        rest (suc n) e = absurd (omega arith)

    -- so many bytes behind a place
    bytes_are : (at n : ℕ) → between text at (at + n) ≡ take n (drop at text)
    bytes_are at n = let same : (at + n) - at ≡ n = omega arith in ap (λ k. take k (drop at text)) same

    then_laid : (more : ℕ → List ℕ → List Item) (at gap : ℕ) (t : List ℕ) (r : Result (Word × ℕ) (Fault × ℕ)) → t ≡ drop (at + gap) text → IsCharBoundary text (at + gap) → IsGap text at (at + gap)
        → IfOk r (Fits t) → IfOk r (λ f. 0 < f.1) → IfErr r (Stops t)
        → ((f : Word × ℕ) → IsCharBoundary text ((at + gap) + f.1) → 0 < f.1 → AreLaid c m text ((at + gap) + f.1) (more ((at + gap) + f.1) (drop f.1 t)))
        → AreLaid c m text at ((then) more (at + gap) t r)
    then_laid more at gap t (Ok f) e cut white fits long stops next =
        let end : IsCharBoundary text ((at + gap) + f.1) = IsCharBoundary-from_rest text (at + gap) f.1 cut.0 (subst (λ (xs : List ℕ). IsCharBoundary xs f.1) e fits.0) in
        let bytes : between text (at + gap) ((at + gap) + f.1) ≡ take f.1 t = bytes_are (at + gap) f.1 ∙ ap (take f.1) (sym e) in
        goes_on white (omega arith, (cut, end)) (omega (arith, long)) (subst (IsSpelt c m f.0) (sym bytes) fits.1) (next f end long)
    then_laid more at gap t (Err f) e cut white fits long stops next =
        let end : IsCharBoundary text ((at + gap) + f.1) = IsCharBoundary-from_rest text (at + gap) f.1 cut.0 (subst (λ (xs : List ℕ). IsCharBoundary xs f.1) e stops.1) in
        stopped stops.0 white (omega arith, (cut, end))

    behind_laid : (more : ℕ → List ℕ → List Item) (at gap : ℕ) (t : List ℕ) → t ≡ drop (at + gap) text → IsCharBoundary text at → IsCharBoundary text (at + gap) → IsWhite (take gap (drop at text))
        → ((f : Word × ℕ) → IsCharBoundary text ((at + gap) + f.1) → 0 < f.1 → AreLaid c m text ((at + gap) + f.1) (more ((at + gap) + f.1) (drop f.1 t)))
        → AreLaid c m text at (behind c m more at gap t)
    behind_laid more at gap [] e start cut white next =
        let nothing : drop gap (drop at text) ≡ [] = drop-drop gap at text ∙ sym e in
        let all : take gap (drop at text) ≡ drop at text = sym (append-none (take gap (drop at text))) ∙ ap (λ (xs : List ℕ). take gap (drop at text) ++ xs) (sym nothing) ∙ take-append-drop gap (drop at text) in
        ended (subst IsWhite all white)
      where
        append-none : (xs : List ℕ) → xs ++ [] ≡ xs
        append-none [] = refl
        append-none (x ∷ xs) = ap (λ (ys : List ℕ). x ∷ ys) (append-none xs)
    behind_laid more at gap (b ∷ t) e start cut white next = pick (nat_lt 0 gap && b == 43)
      where
        gapped : IsGap text at (at + gap)
        gapped = (omega arith, subst IsWhite (sym (bytes_are at gap)) white)

        rest_utf8 : IsUtf8 (b ∷ t)
        rest_utf8 = subst IsUtf8 (sym e) (IsUtf8-drop text (at + gap) utf8 cut)

        pick : (s : Bool) → AreLaid c m text at (cond s (Err (SeparatedPlus, span at gap) ∷ []) ((then) more (at + gap) (b ∷ t) (lexeme c m (b ∷ t))))
        pick true = stopped (inr (inl refl)) (none_between at) (omega arith, (start, cut))
        pick false = then_laid more at gap (b ∷ t) (lexeme c m (b ∷ t)) e cut gapped (lexeme_fits (b ∷ t) rest_utf8) (lexeme_long c well m (b ∷ t)) (lexeme_stops (b ∷ t) rest_utf8) next

    rest_laid : (n at : ℕ) → length (drop at text) ≤ n → IsCharBoundary text at → AreLaid c m text at (reading c m at (drop at text))
    rest_laid zero at l start = empty (drop at text) refl l
      where
        empty : (xs : List ℕ) → drop at text ≡ xs → length xs ≤ 0 → AreLaid c m text at (reading c m at xs)
        empty [] e h = subst (λ (is : List Item). AreLaid c m text at is) (sym (reading_nil c m at)) (ended (subst IsWhite (sym e) no_white))
        empty (x ∷ xs) e h = absurd (omega arith)
    rest_laid (suc n) at l start =
        let rest : List ℕ = drop at text in
        let gap : ℕ = white rest in
        let front = white_front rest (IsUtf8-drop text at utf8 start) in
        let here : drop gap rest ≡ drop (at + gap) text = drop-drop gap at text in
        subst (λ (is : List Item). AreLaid c m text at is) (sym (reading_is c well m at rest))
        (behind_laid (reading c m) at gap (drop gap rest) here start (IsCharBoundary-from_rest text at gap start.0 front.1) front.0
        (λ f end long.
        let after : drop f.1 (drop gap rest) ≡ drop ((at + gap) + f.1) text = ap (drop f.1) here ∙ drop-drop f.1 (at + gap) text in
        let short : length (drop ((at + gap) + f.1) text) ≤ n = omega (arith, l, long, length-drop at text, length-drop ((at + gap) + f.1) text, end.0) in
        subst (λ (xs : List ℕ). AreLaid c m text ((at + gap) + f.1) (reading c m ((at + gap) + f.1) xs)) (sym after) (rest_laid n ((at + gap) + f.1) short end)))

    pub reading_laid : AreLaid c m text 0 (reading c m 0 text)
    reading_laid = rest_laid (length text) 0 (omega arith) (IsCharBoundary-start text utf8)

-- each item of such a list has its place in the text
pub laid_places : (c : Rows) (m : ParseMode) (text : List ℕ) (at : ℕ) (xs : List Item) → AreLaid c m text at xs → (k : ℕ) (d : Item) → k < length xs → IsPlace text (place_of (get_or xs k d))
laid_places c m text at [] (ended w) k d h = absurd (omega arith)
laid_places c m text at (Err f ∷ []) (stopped l g p) zero d h = p
laid_places c m text at (Err f ∷ []) (stopped l g p) (suc k) d h = absurd (omega arith)
laid_places c m text at (Err f ∷ (_ ∷ _)) x7 k d h = elim x7 [ ]
laid_places c m text at (Ok f ∷ xs) (goes_on g p l s more) zero d h = p
laid_places c m text at (Ok f ∷ xs) (goes_on g p l s more) (suc k) d h = laid_places c m text f.1.to xs more k d (omega arith)

-- one of them, behind words
pub place_among : (text : List ℕ) (before : List (Word × Span)) (item : Item) (more : List Item) → All (λ i. IsPlace text (place_of i)) (map Ok before ++ item ∷ more) → IsPlace text (place_of item)
place_among text [] item more all = all 0 item (omega arith)
place_among text (p ∷ before) item more all = place_among text before item more (λ k d l. all (suc k) d (omega arith))
