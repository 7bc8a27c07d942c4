-- Every row that is read stands in the catalogue, and so does every row of a tree.
use Rattle.std.proofs.Common.{◌≡◌, ℕ, ◌+◌, Bool, true, false, cond, ◌&&◌, ◌==◌, nat_lt, List, [], ◌∷◌, ◌++◌, length, drop, map, Option, Some, None, Result, Ok, Err, refl, subst, IfSome, IfOk, option_map}
use Rattle.std.specs.Prelude.{codes, bytes_eq, ◌||◌, if◌then◌else◌, slice_get}
use Rattle.std.specs.List.{fold}
use Rattle.spdx_requirement.specs.Rows.{Rows, LicenseRow, ExceptionRow}
use Rattle.spdx_catalogue.specs.RowRules.{is_well_formed}
use Rattle.spdx_catalogue.specs.LookUps as LookUps
use Rattle.spdx_requirement.specs.Endings.{without_only, or_later}
use Rattle.spdx_requirement.specs.Items.{Requirement, LicenseTerm, Addition}
use Rattle.spdx_catalogue.proofs.Listed.{listed_is_license, caseless_is_license, listed_is_exception, caseless_is_exception, imprecise_is_license}
use Rattle.spdx_lexer.specs.declared.token.ParseMode.{ParseMode}
use Rattle.spdx_lexer.specs.Words.{Word, Spdx, LicenseRef, Exception, AdditionRef, Unknown, Plus, OpenParen, CloseParen, With, And, Or, Fault, Item, Placed, words}
use Rattle.spdx_lexer.specs.Text.{white}
use Rattle.spdx_lexer.specs.Lexeme.{sign, whole, operator, name_behind, names_behind, reference as lexeme_reference, document_reference, lexeme}
use Rattle.spdx_lexer.proofs.Allowed.{sign_of}
use Rattle.spdx_lexer.specs.Groups.{license_reference, addition_reference, exact, referred as referred_run, caseless, by_run, unknown, imprecise}
use Rattle.spdx_lexer.specs.Reading.{go_on, behind, items, reading}
use Rattle.spdx_lexer.proofs.Found.{first_all, mapped, allowed, lexeme_all}
use Rattle.spdx_parser.specs.Tree.{Tree, Leaf}
use Rattle.spdx_parser.specs.Last.{Last, Joined, next_last}
use Rattle.spdx_parser.specs.Meaning.{IsOfRows, IsLicenseOf, IsAdditionOf}
use Rattle.spdx_parser.specs.Code.{IsLicenseRow, IsKnown}
use Rattle.spdx_parser.specs.Grammar.{Derives}
use Rattle.spdx_parser.proofs.Threaded as Threaded

module _ (c : Rows) where
  abbrev IsExceptionRow : ExceptionRow → Type 0
  IsExceptionRow r = slice_get c.exceptions r.index ≡ Some r

  -- the row of a word stands in the catalogue
  abbrev pub WordKnown : Word → Type 0
  WordKnown (Spdx r) = IsLicenseRow c r
  WordKnown (Exception r) = IsExceptionRow r
  WordKnown _ = Unit {0}

  abbrev pub AllKnown : List Word → Type 0
  AllKnown [] = Unit {0}
  AllKnown (w ∷ ws) = WordKnown w × AllKnown ws

  abbrev ItemKnown : Item → Type 0
  ItemKnown (Ok p) = WordKnown p.0
  ItemKnown (Err e) = Unit {0}

  abbrev ItemsKnown : List Item → Type 0
  ItemsKnown [] = Unit {0}
  ItemsKnown (i ∷ is) = ItemKnown i × ItemsKnown is

  abbrev FoundKnown : Word × ℕ → Type 0
  FoundKnown f = WordKnown f.0

  pub front_known : (read : List Placed) (more : List Item) → ItemsKnown (map Ok read ++ more) → AllKnown (words read)
  front_known [] more h = tt
  front_known (p ∷ read) more h = (h.0, front_known read more h.1)

  next_known : (last : Last) (w : Word) → WordKnown w → IsKnown c (next_last last w)
  next_known last (Spdx r) h = h
  next_known last (LicenseRef d n) h = tt
  next_known last (Exception r) h = tt
  next_known last (AdditionRef d n) h = tt
  next_known Joined (Unknown n) h = tt
  next_known _ (Unknown n) h = tt
  next_known last Plus h = tt
  next_known last OpenParen h = tt
  next_known last CloseParen h = tt
  next_known last With h = tt
  next_known last And h = tt
  next_known last Or h = tt

  pub last_known : (last : Last) (ws : List Word) → IsKnown c last → AllKnown ws → IsKnown c (fold next_last last ws)
  last_known last [] h all = h
  last_known last (w ∷ ws) h all = last_known (next_last last w) ws (next_known last w all.0) all.1

  module _ (well : is_well_formed c ≡ true) where
    -- ---- of a reading
    either_known : (b : Bool) (x y : Option Word) → IfSome x WordKnown → IfSome y WordKnown → IfSome (if b then x else y) WordKnown
    either_known true x y h k = h
    either_known false x y h k = k

    length_known : (n : ℕ) (o : Option Word) → IfSome o WordKnown → IfSome (option_map {U = Word × ℕ} (λ w. (w, n)) o) FoundKnown
    length_known n None h = tt
    length_known n (Some w) h = h

    sign_known : (m : ParseMode) (text : List ℕ) → IfSome (sign m text) FoundKnown
    sign_known m [] = tt
    sign_known m (b ∷ text) = length_known 1 (sign_of m b) (either_known (b == 43) _ _ tt (either_known (b == 40) _ _ tt (either_known (b == 41) _ _ tt (either_known (b == 47 && m.allow_slash_as_or_operator) _ _ tt tt))))

    operator_known : (run : List ℕ) → IfSome (operator run) WordKnown
    operator_known run = either_known (bytes_eq run (codes "AND") || bytes_eq run (codes "and")) _ _ tt (either_known (bytes_eq run (codes "OR") || bytes_eq run (codes "or")) _ _ tt (either_known (bytes_eq run (codes "WITH") || bytes_eq run (codes "with")) _ _ tt tt))

    license_known : (o : Option LicenseRow) → ((r : LicenseRow) → o ≡ Some r → IsLicenseRow c r) → IfSome (option_map Spdx o) WordKnown
    license_known None h = tt
    license_known (Some r) h = h r refl

    exception_known : (o : Option ExceptionRow) → ((r : ExceptionRow) → o ≡ Some r → IsExceptionRow r) → IfSome (option_map Exception o) WordKnown
    exception_known None h = tt
    exception_known (Some r) h = h r refl

    exact_known : (run : List ℕ) → IfSome (exact c run) FoundKnown
    exact_known run =
        first_all FoundKnown (whole run (operator run) ∷ whole run (option_map Spdx (LookUps.listed c.licenses run)) ∷ whole run (option_map Exception (LookUps.listed_exception c.exceptions run)) ∷ []) (
          length_known (length run) _ (operator_known run),
          (
            length_known (length run) _ (license_known _ (λ r e. listed_is_license c well run r e)),
            (length_known (length run) _ (exception_known _ (λ r e. listed_is_exception c well run r e)), tt),
          ),
        )

    caseless_known : (m : ParseMode) (run : List ℕ) → IfSome (caseless c m run) FoundKnown
    caseless_known m run =
        allowed FoundKnown m.allow_caseless_ids _
        (first_all FoundKnown (whole run (option_map Spdx (LookUps.listed_caseless c.licenses run)) ∷ whole run (option_map Exception (LookUps.listed_exception_caseless c.exceptions run)) ∷ []) (
          length_known (length run) _ (license_known _ (λ r e. caseless_is_license c well run r e)),
          (length_known (length run) _ (exception_known _ (λ r e. caseless_is_exception c well run r e)), tt),
        ))

    referred_known : (run : List ℕ) → IfSome (referred_run run) FoundKnown
    referred_known run =
        first_all FoundKnown (license_reference run ∷ addition_reference run ∷ []) (
          first_all FoundKnown (document_reference (codes "LicenseRef-") LicenseRef run ∷ lexeme_reference (codes "LicenseRef-") LicenseRef run ∷ [])
              (mapped FoundKnown _ (names_behind (codes "LicenseRef-") run) (λ n. tt), (mapped FoundKnown _ (name_behind (codes "LicenseRef-") run) (λ n. tt), tt)),
          (
            first_all FoundKnown (document_reference (codes "AdditionRef-") AdditionRef run ∷ lexeme_reference (codes "AdditionRef-") AdditionRef run ∷ [])
                (mapped FoundKnown _ (names_behind (codes "AdditionRef-") run) (λ n. tt), (mapped FoundKnown _ (name_behind (codes "AdditionRef-") run) (λ n. tt), tt)),
            tt,
          ),
        )

    imprecise_known : (m : ParseMode) (text : List ℕ) → IfSome (imprecise c m text) FoundKnown
    imprecise_known m text = allowed FoundKnown m.allow_imprecise_license_names _ (spelled (LookUps.imprecise_license c text) refl)
      where
        spelled : (o : Option (LicenseRow × ℕ)) → LookUps.imprecise_license c text ≡ o → IfSome (option_map {U = Word × ℕ} (λ (f : LicenseRow × ℕ). (Spdx f.0, f.1)) o) FoundKnown
        spelled None e = tt
        spelled (Some f) e = (imprecise_is_license c well text f.0 f.1 e).0

    lexeme_known : (m : ParseMode) (text : List ℕ) → IfOk (lexeme c m text) FoundKnown
    lexeme_known m text = lexeme_all FoundKnown c m text (sign_known m text) (λ b r e.
        first_all FoundKnown (by_run c m (b ∷ r) ∷ imprecise c m text ∷ unknown m (b ∷ r) ∷ []) (
          first_all FoundKnown (exact c (b ∷ r) ∷ referred_run (b ∷ r) ∷ caseless c m (b ∷ r) ∷ []) (exact_known (b ∷ r), (referred_known (b ∷ r), (caseless_known m (b ∷ r), tt))),
          (imprecise_known m text, (allowed FoundKnown m.allow_unknown _ tt, tt)),
        ))

    go_on_known : (more : ℕ → List Item) → ((next : ℕ) → ItemsKnown (more next)) → (at : ℕ) (r : Result (Word × ℕ) (Fault × ℕ)) → IfOk r FoundKnown → ItemsKnown (go_on more at r)
    go_on_known more h at (Ok found) k = (k, h (at + found.1))
    go_on_known more h at (Err fault) k = (tt, tt)

    cond_known : (b : Bool) (xs ys : List Item) → ItemsKnown xs → ItemsKnown ys → ItemsKnown (cond b xs ys)
    cond_known true xs ys h k = h
    cond_known false xs ys h k = k

    behind_known : (m : ParseMode) (more : ℕ → List Item) → ((next : ℕ) → ItemsKnown (more next)) → (at gap : ℕ) (text : List ℕ) → ItemsKnown (behind c m more at gap text)
    behind_known m more h at gap [] = tt
    behind_known m more h at gap (b ∷ text) = cond_known (nat_lt 0 gap && b == 43) _ _ (tt, tt) (go_on_known more h (at + gap) (lexeme c m (b ∷ text)) (lexeme_known m (b ∷ text)))

    items_known : (m : ParseMode) (from at : ℕ) (text : List ℕ) → ItemsKnown (items c m from at text)
    items_known m from at [] = tt
    items_known m from at (b ∷ text) =
        cond_known (nat_lt at from) _ _ (items_known m from (at + 1) text)
        (behind_known m (λ next. items c m next (at + 1) text) (λ next. items_known m next (at + 1) text) at (white (b ∷ text)) (drop (white (b ∷ text)) (b ∷ text)))

    pub reading_known : (m : ParseMode) (at : ℕ) (text : List ℕ) → ItemsKnown (reading c m at text)
    unfolding reading
    reading_known m at text = items_known m at at text

    -- the words in front of a reading are known
    pub words_known : (m : ParseMode) (text : List ℕ) (read : List Placed) (more : List Item) → reading c m 0 text ≡ map Ok read ++ more → AllKnown (words read)
    words_known m text read more e = front_known read more (subst ItemsKnown e (reading_known m 0 text))

    -- ---- of a tree
    license_is_of_rows : {m : ParseMode} {ws rest : List Word} {l : LicenseTerm} → Threaded.LicenseOf c m ws l rest → AllKnown ws → IsLicenseOf c l × AllKnown rest
    license_is_of_rows (Threaded.plain may) h = h
    license_is_of_rows (Threaded.marked may other) h = (h.0, h.1.1)
    license_is_of_rows (Threaded.later {r = r} {next = next} may gnu allowed bare is) h = (listed_is_license c well (without_only r.name ++ or_later) next is, h.1.1)
    license_is_of_rows Threaded.named h = h
    license_is_of_rows Threaded.unknown h = h

    addition_rows : {ws rest : List Word} {a : Addition} → Threaded.AdditionOf ws a rest → AllKnown ws → IsAdditionOf c (Some a) × AllKnown rest
    addition_rows Threaded.exception h = h
    addition_rows Threaded.named_addition h = h
    addition_rows Threaded.unknown_addition h = h

    leaf_rows : {m : ParseMode} {ws rest : List Word} {r : Requirement} → Threaded.LeafOf c m ws r rest → AllKnown ws → IsOfRows c (Leaf r) × AllKnown rest
    leaf_rows (Threaded.alone d) h = let a = license_is_of_rows d h in ((a.0, tt), a.1)
    leaf_rows (Threaded.joined d e) h = let a = license_is_of_rows d h in let b = addition_rows e a.1.1 in ((a.0, b.0), b.1)

    mutual
      primary_rows : {m : ParseMode} {ws rest : List Word} {t : Tree} → Threaded.PrimaryOf c m ws t rest → AllKnown ws → IsOfRows c t × AllKnown rest
      primary_rows (Threaded.leaf d) h = leaf_rows d h
      primary_rows (Threaded.group d) h = let a = or_rows d h.1 in (a.0, a.1.1)

      and_rows : {m : ParseMode} {ws rest : List Word} {t : Tree} → Threaded.AndOf c m ws t rest → AllKnown ws → IsOfRows c t × AllKnown rest
      and_rows (Threaded.one_primary d) h = primary_rows d h
      and_rows (Threaded.and_more d e) h = let a = primary_rows d h in let b = and_rows e a.1.1 in ((a.0, b.0), b.1)

      or_rows : {m : ParseMode} {ws rest : List Word} {t : Tree} → Threaded.OrOf c m ws t rest → AllKnown ws → IsOfRows c t × AllKnown rest
      or_rows (Threaded.one_and d) h = and_rows d h
      or_rows (Threaded.or_more d e) h = let a = and_rows d h in let b = or_rows e a.1.1 in ((a.0, b.0), b.1)

    -- every row of a tree that known words mean
    pub tree_known : (m : ParseMode) (ws : List Word) (t : Tree) → AllKnown ws → Derives c m ws t → IsOfRows c t
    tree_known m ws t h d = (or_rows (Threaded.threaded c m d) h).0
