-- The laws of a canonical text of which each name is good.
use Rattle.std.proofs.Common.{◌≡◌, ◌↔◌, ℕ, Bool, true, false, cond, not, ◌&&◌, ◌||◌, List, [], ◌∷◌, ◌++◌, map, Option, Some, None, Result, Ok, Err, refl, sym, ◌∙◌, ap, subst, IsTrue, IsSome}
use Rattle.std.specs.Prelude.{codes}
use Rattle.std.specs.Prelude.{unwrap_or}
use Rattle.std.specs.Option.{option_map_or}
use Rattle.spdx_requirement.specs.Rows.{LicenseRow, Rows}
use Rattle.spdx_requirement.specs.Flags.{is_gnu, is_deprecated}
use Rattle.spdx_requirement.specs.Endings.{only, or_later, has_suffix, without_only}
use Rattle.spdx_catalogue.specs.LookUps as LookUps
use Rattle.spdx_requirement.specs.Items.{listed}
use Rattle.spdx_catalogue.specs.RowRules.{is_well_formed}
use Rattle.spdx_lexer.specs.declared.token.ParseMode.{ParseMode}
use Rattle.spdx_lexer.specs.Modes.{strict, lax}
use Rattle.spdx_lexer.specs.Words.{Word, Spdx, LicenseRef, Exception, AdditionRef, Unknown, Plus, OpenParen, CloseParen, With, And, Or, Fault, Item, Unexpected}
use Rattle.spdx_lexer.specs.Reading.{said, reading, Spells}
use Rattle.spdx_parser.specs.Tree.{Tree}
use Rattle.spdx_parser.specs.Grammar.{may_stand, later_row}
use Rattle.spdx_parser.proofs.Threaded.{LicenseOf, plain, marked}
use Rattle.spdx_parser.proofs.Complete.{the_only}
use Rattle.spdx_canonical.specs.Canonical.{gnu_name, canonical_fault, canonical_of, written_name, plus_follows, canonical_text, only_row, canonical_row, canonical_words}
use Rattle.spdx_canonical.proofs.Parts.{fault_at, is_spdx, words_of}
use Rattle.spdx_canonical.specs.NextText.{is_misplaced}
use Rattle.spdx_canonical.specs.Law.{EachName, is_good, only_license, tree_by, Accepts, IsSound, IsFaithful}
use Rattle.spdx_canonical.proofs.Known.{license_named}
use Rattle.spdx_canonical.proofs.Neighbours.{may_follow, AreApart, AreRead, apart}
use Rattle.spdx_canonical.proofs.Terms.{license_term}
use Rattle.spdx_canonical.proofs.Read.{are_read}
use Rattle.spdx_canonical.proofs.Written.{suffixed, plain_row, row_listed}
use Rattle.spdx_canonical.proofs.Says.{EachTerm, spells}
use Rattle.spdx_canonical.proofs.Again.{canonical_word, IsListed, again}
use Rattle.spdx_canonical.proofs.Keeps.{Keeps, EachKept, keeps}

-- ---- where no plus is misplaced

pub placed : (last w : Word) → may_follow last w ≡ true → is_misplaced (is_spdx last) w ≡ false
placed last Plus h = ap not h
placed last _ h = refl

pub record Whole (behind : Bool) (items : List Item) (ws : List Word) : Type 0 where
  pub no_fault : canonical_fault behind items ≡ None
  pub words : words_of items ≡ ws

pub whole : (last : Word) (items : List Item) (ws : List Word) → map said items ≡ map Ok ws → AreApart last ws → Whole (is_spdx last) items ws
whole last [] [] e a = record { no_fault = refl; words = refl }
whole last [] (w ∷ ws) e a = absurd cc
whole last (Err x ∷ items) [] e a = absurd cc
whole last (Err x ∷ items) (w ∷ ws) e a = absurd cc
whole last (Ok x ∷ items) [] e a = absurd cc
whole last (Ok x ∷ items) (w ∷ ws) e a =
    let same : x.0 ≡ w = cc in
    let more : map said items ≡ map Ok ws = cc in
    let rest = whole w items ws more a.1 in
    record {
      no_fault = fault_at (is_spdx last) x.0 x.1 items ∙ ap (λ (v : Word). cond (is_misplaced (is_spdx last) v) (Some (Unexpected (codes "<license>" ∷ []), x.1)) (canonical_fault (is_spdx v) items)) same ∙ ap (λ b. cond b (Some (Unexpected (codes "<license>" ∷ []), x.1)) (canonical_fault (is_spdx w) items)) (placed last w a.0) ∙ rest.no_fault;
      words = ap (λ (v : Word). v ∷ words_of items) same ∙ ap (λ (vs : List Word). w ∷ vs) rest.words;
    }

pub has_text : (c : Rows) (text : List ℕ) (ws : List Word) → Spells c lax text ws → AreApart OpenParen ws → canonical_of c text ≡ Ok (canonical_text ws)
has_text c text ws e a =
    let w = whole OpenParen (reading c lax 0 text) ws e a in
    ap (λ o. option_map_or (λ fault. Err fault) o (Ok (canonical_text (words_of (reading c lax 0 text))))) w.no_fault ∙ ap (λ (vs : List Word). let r : Result (List ℕ) _ = Ok (canonical_text vs) in r) w.words

-- ---- each name is listed

pub each_name : (P Q : List ℕ → Type 0) → ((name : List ℕ) → P name → Q name) → (ws : List Word) → EachName P ws → EachName Q ws
each_name P Q f [] h = tt
each_name P Q f (Spdx r ∷ ws) h = (f _ h.0, each_name P Q f ws h.1)
each_name P Q f (_ ∷ ws) h = each_name P Q f ws h

same_words : (ws vs : List Word) → map {B = Result Word Fault} Ok ws ≡ map Ok vs → ws ≡ vs
same_words [] [] e = refl
same_words [] (v ∷ vs) e = absurd cc
same_words (w ∷ ws) [] e = absurd cc
same_words (w ∷ ws) (v ∷ vs) e =
    let same : w ≡ v = cc in
    let more : map {B = Result Word Fault} Ok ws ≡ map Ok vs = cc in
    ap (λ (x : Word). x ∷ ws) same ∙ ap (λ (xs : List Word). v ∷ xs) (same_words ws vs more)

module _ (c : Rows) (well : IsTrue (is_well_formed c)) where
  pub good_row : (o : Option LicenseRow) → option_map_or (λ (r : LicenseRow). not (is_deprecated r.flags)) o false ≡ true → IsSome o
  good_row None h = absurd cc
  good_row (Some r) h = refl

  pub good_listed : (ws : List Word) → EachName (λ name. IsTrue (is_good c name)) ws → EachName (IsListed c well) ws
  good_listed ws g = each_name (λ name. IsTrue (is_good c name)) (IsListed c well) (λ name h. good_row (LookUps.listed c.licenses name) h) ws g

  terms : (m : ParseMode) (ws : List Word) → AreRead c ws → EachName (IsListed c well) ws → EachTerm c well m (canonical_word c well) ws
  terms m [] d l = tt
  terms m (Spdx r ∷ ws) d l =
      let p = plus_follows ws in
      (license_term c well m (written_name p r) (canonical_row c p r) (row_listed c well p r d.0 l.0), terms m ws d.1 l.1)
  terms m (LicenseRef x y ∷ ws) d l = terms m ws d.1 l
  terms m (Exception r ∷ ws) d l = terms m ws d.1 l
  terms m (AdditionRef x y ∷ ws) d l = terms m ws d.1 l
  terms m (Unknown x ∷ ws) d l = terms m ws d.1 l
  terms m (Plus ∷ ws) d l = terms m ws d.1 l
  terms m (OpenParen ∷ ws) d l = terms m ws d.1 l
  terms m (CloseParen ∷ ws) d l = terms m ws d.1 l
  terms m (With ∷ ws) d l = terms m ws d.1 l
  terms m (And ∷ ws) d l = terms m ws d.1 l
  terms m (Or ∷ ws) d l = terms m ws d.1 l

  -- ---- and may stand

  pub undeprecated : (t : List ℕ) (row : LicenseRow) → LookUps.listed c.licenses t ≡ Some row → IsTrue (is_good c t) → may_stand strict row ≡ true
  undeprecated t row e g = ap (λ b. b || strict.allow_deprecated) (ap (λ (o : Option LicenseRow). option_map_or (λ (r : LicenseRow). not (is_deprecated r.flags)) o false) (sym e) ∙ g)

  stands : (p : Bool) (r : LicenseRow) → LookUps.listed c.licenses r.name ≡ Some r → IsTrue (is_good c (written_name p r)) → may_stand strict (canonical_row c p r) ≡ true
  stands p r d g = undeprecated (written_name p r) (canonical_row c p r) (row_listed c well p r d (good_row (LookUps.listed c.licenses (written_name p r)) g)) g

  -- the row of a name with an ending stays
  pub only_stays : (p : Bool) (n : List ℕ) (row : LicenseRow) → row.name ≡ gnu_name p n → only_row c row ≡ row
  only_stays p n row e = ap (λ b. cond (is_gnu row.flags && not b) (unwrap_or (LookUps.listed c.licenses (row.name ++ only)) row) row) (ap has_suffix e ∙ suffixed p n) ∙ each (is_gnu row.flags)
    where
      each : (g : Bool) → cond (g && false) (unwrap_or (LookUps.listed c.licenses (row.name ++ only)) row) row ≡ row
      each true = refl
      each false = refl

  abbrev KeptBy : Bool → LicenseRow → Type 0
  KeptBy p r = Keeps c lax strict (canonical_word c well) (only_license c) (λ _. refl) p r

  kept_one : (p : Bool) (r : LicenseRow) → LookUps.listed c.licenses r.name ≡ Some r → IsTrue (is_good c (written_name p r)) → KeptBy p r
  kept_one false r d g = λ rest. plain (stands false r d g)
  kept_one true r d g = record {
    marks = λ e rest.
        let own = plain_row c well true r e in
        let bare = plain_row c well false r e in
        subst (λ (x : LicenseRow). LicenseOf c strict (Spdx x ∷ Plus ∷ rest) (listed (only_row c r) true) rest) (sym own)
        (subst (λ (x : LicenseRow). LicenseOf c strict (Spdx r ∷ Plus ∷ rest) (listed x true) rest) (sym bare) (marked (ap (may_stand strict) (sym own) ∙ stands true r d g) e));
    names = λ e next l rest.
        let row : canonical_row c true r ≡ next = ap (λ b. cond b (unwrap_or (later_row c r) r) r) e ∙ ap (λ (o : Option LicenseRow). unwrap_or o r) l in
        let stays = only_stays true r.name next (license_named c well (without_only r.name ++ or_later) next l).same in
        subst (λ (x : LicenseRow). LicenseOf c strict (Spdx x ∷ rest) (listed (only_row c next) false) rest) (sym row)
        (subst (λ (x : LicenseRow). LicenseOf c strict (Spdx next ∷ rest) (listed x false) rest) (sym stays) (plain (ap (may_stand strict) (sym row) ∙ stands true r d g)));
  }

  kept : (ws : List Word) → AreRead c ws → EachName (λ name. IsTrue (is_good c name)) ws → EachKept c lax strict (canonical_word c well) (only_license c) (λ _. refl) ws
  kept [] d g = tt
  kept (Spdx r ∷ ws) d g = (kept_one (plus_follows ws) r d.0 g.0, kept ws d.1 g.1)
  kept (LicenseRef x y ∷ ws) d g = kept ws d.1 g
  kept (Exception r ∷ ws) d g = kept ws d.1 g
  kept (AdditionRef x y ∷ ws) d g = kept ws d.1 g
  kept (Unknown x ∷ ws) d g = kept ws d.1 g
  kept (Plus ∷ ws) d g = kept ws d.1 g
  kept (OpenParen ∷ ws) d g = kept ws d.1 g
  kept (CloseParen ∷ ws) d g = kept ws d.1 g
  kept (With ∷ ws) d g = kept ws d.1 g
  kept (And ∷ ws) d g = kept ws d.1 g
  kept (Or ∷ ws) d g = kept ws d.1 g

  -- ---- the laws

  pub defined : (text : List ℕ) (ws : List Word) (t : Tree) → Accepts c lax text ws t → canonical_of c text ≡ Ok (canonical_text ws)
  defined text ws t a = has_text c text ws a.read (apart c lax ws t a.meant)

  pub faithful : (text : List ℕ) (ws : List Word) (t : Tree) → IsSound c text ws t → IsFaithful c ws t
  faithful text ws t s =
      let a = apart c lax ws t s.accepted.meant in
      let known = are_read c well lax refl OpenParen ws a 0 text s.accepted.read in
      let names = good_listed ws s.good in
      let spelt = λ (m : ParseMode). spells c well m (canonical_word c well) OpenParen ws a known (terms m ws known names) 0 in
      let derived = keeps c lax strict (canonical_word c well) (only_license c) (λ _. refl) ws t s.accepted.meant (kept ws known s.good) in
      let written = again c well OpenParen ws a known names in
      record {
        read = spelt strict;
        meant = the_only c strict (canonical_words c ws) (tree_by (only_license c) t) derived;
        again = has_text c (canonical_text ws) (canonical_words c ws) (spelt lax) (apart c strict (canonical_words c ws) (tree_by (only_license c) t) derived) ∙ ap (λ (x : List ℕ). let r : Result (List ℕ) _ = Ok x in r) written;
        written = written;
      }

  pub telling : (ws vs : List Word) (t u : Tree) → IsFaithful c ws t → IsFaithful c vs u → (canonical_text ws ≡ canonical_text vs) ↔ (canonical_words c ws ≡ canonical_words c vs)
  telling ws vs t u f h = (
    (λ e. same_words (canonical_words c ws) (canonical_words c vs) (sym f.read ∙ ap (λ (x : List ℕ). map said (reading c strict 0 x)) e ∙ h.read)),
    (λ e. sym f.written ∙ ap canonical_text e ∙ h.written),
  )
