-- Words whose licences are replaced mean the tree whose licences are replaced alike.
use Rattle.std.proofs.Common.{◌≡◌, Bool, true, false, List, [], ◌∷◌, Some, None, refl, sym, subst}
use Rattle.spdx_requirement.specs.Rows.{LicenseRow, Rows}
use Rattle.spdx_requirement.specs.Flags.{is_gnu}
use Rattle.spdx_requirement.specs.Items.{Reference, LicenseTerm, listed, referred, Addition, Requirement}
use Rattle.spdx_lexer.specs.declared.token.ParseMode.{ParseMode}
use Rattle.spdx_lexer.specs.Words.{Word, Spdx, LicenseRef, Unknown, Plus}
use Rattle.spdx_parser.specs.Tree.{Tree}
use Rattle.spdx_parser.specs.Grammar.{later_row, Derives}
use Rattle.spdx_parser.proofs.Threaded.{LicenseOf, plain, marked, later, named, unknown, AdditionOf, exception, named_addition, unknown_addition, LeafOf, alone, joined, PrimaryOf, leaf, group, AndOf, one_primary, and_more, OrOf, one_and, or_more, threaded, derives}
use Rattle.spdx_canonical.specs.Canonical.{plus_follows, words_by}
use Rattle.spdx_canonical.specs.Law.{tree_by}

pub any_flag : (word : Bool → LicenseRow → Word) (j k : Bool) (ws : List Word) → plus_follows ws ≡ false → words_by word j ws ≡ words_by word k ws
any_flag word j k [] h = refl
any_flag word j k (Plus ∷ ws) h = absurd cc
any_flag word j k (Spdx r ∷ ws) h = refl
any_flag word j k (_ ∷ ws) h = refl

-- from the mode m to the mode s, where `word` replaces a word and `f` a licence
module _ (c : Rows) (m s : ParseMode) (word : Bool → LicenseRow → Word) (f : LicenseTerm → LicenseTerm) (same : (x : Reference) → f (referred x) ≡ referred x) where
  -- with a plus behind it
  pub record KeepsPlus (r : LicenseRow) : Type 0 where
    pub marks : is_gnu r.flags ≡ false → (rest : List Word) → LicenseOf c s (word true r ∷ Plus ∷ rest) (f (listed r true)) rest
    pub names : is_gnu r.flags ≡ true → (next : LicenseRow) → later_row c r ≡ Some next → (rest : List Word) → LicenseOf c s (word true r ∷ rest) (f (listed next false)) rest

  abbrev pub Keeps : Bool → LicenseRow → Type 0
  Keeps true r = KeepsPlus r
  Keeps false r = (rest : List Word) → LicenseOf c s (word false r ∷ rest) (f (listed r false)) rest

  abbrev pub EachKept : List Word → Type 0
  EachKept [] = Unit {0}
  EachKept (Spdx r ∷ ws) = Keeps (plus_follows ws) r × EachKept ws
  EachKept (_ ∷ ws) = EachKept ws

  plain_at : (p : Bool) (r : LicenseRow) → p ≡ false → Keeps p r → (rest : List Word) → LicenseOf c s (word p r ∷ rest) (f (listed r false)) rest
  plain_at true r n k = absurd cc
  plain_at false r n k = k

  license_keeps : {ws rest : List Word} {l : LicenseTerm} → LicenseOf c m ws l rest → plus_follows rest ≡ false → EachKept ws → (j : Bool) → LicenseOf c s (words_by word j ws) (f l) (words_by word false rest) × EachKept rest
  license_keeps (plain {r = r} {rest = rest} p) n a j =
      let tail = any_flag word (is_gnu r.flags) false rest n in
      (subst (λ (t : List Word). LicenseOf c s (word (plus_follows rest) r ∷ t) (f (listed r false)) (words_by word false rest)) (sym tail) (plain_at (plus_follows rest) r n a.0 (words_by word false rest)), a.1)
  license_keeps (marked {r = r} {rest = rest} p e) n a j =
      (subst (λ b. LicenseOf c s (word true r ∷ words_by word b (Plus ∷ rest)) (f (listed r true)) (words_by word false rest)) (sym e) (a.0.marks e (words_by word false rest)), a.1)
  license_keeps (later {r = r} {next = next} {rest = rest} p e q x l) n a j =
      (subst (λ b. LicenseOf c s (word true r ∷ words_by word b (Plus ∷ rest)) (f (listed next false)) (words_by word false rest)) (sym e) (a.0.names e next l (words_by word false rest)), a.1)
  license_keeps (named {d = d} {n = y} {rest = rest}) n a j = (subst (λ (l : LicenseTerm). LicenseOf c s (LicenseRef d y ∷ words_by word false rest) l (words_by word false rest)) (sym (same (record { document = d; name = y }))) named, a)
  license_keeps (unknown {n = y} {rest = rest}) n a j = (subst (λ (l : LicenseTerm). LicenseOf c s (Unknown y ∷ words_by word false rest) l (words_by word false rest)) (sym (same (record { document = None; name = y }))) unknown, a)

  addition_keeps : {ws rest : List Word} {a : Addition} → AdditionOf ws a rest → EachKept ws → AdditionOf (words_by word false ws) a (words_by word false rest) × EachKept rest
  addition_keeps exception a = (exception, a)
  addition_keeps named_addition a = (named_addition, a)
  addition_keeps unknown_addition a = (unknown_addition, a)

  leaf_keeps : {ws rest : List Word} {r : Requirement} → LeafOf c m ws r rest → plus_follows rest ≡ false → EachKept ws → LeafOf c s (words_by word false ws) (record { license = f r.license; addition = r.addition }) (words_by word false rest) × EachKept rest
  leaf_keeps (alone d) n a = let k = license_keeps d n a false in (alone k.0, k.1)
  leaf_keeps (joined d e) n a =
      let k = license_keeps d refl a false in
      let l = addition_keeps e k.1 in
      (joined k.0 l.0, l.1)

  mutual
    primary_keeps : {ws rest : List Word} {t : Tree} → PrimaryOf c m ws t rest → plus_follows rest ≡ false → EachKept ws → PrimaryOf c s (words_by word false ws) (tree_by f t) (words_by word false rest) × EachKept rest
    primary_keeps (leaf d) n a = let k = leaf_keeps d n a in (leaf k.0, k.1)
    primary_keeps (group d) n a = let k = or_keeps d refl a in (group k.0, k.1)

    and_keeps : {ws rest : List Word} {t : Tree} → AndOf c m ws t rest → plus_follows rest ≡ false → EachKept ws → AndOf c s (words_by word false ws) (tree_by f t) (words_by word false rest) × EachKept rest
    and_keeps (one_primary d) n a = let k = primary_keeps d n a in (one_primary k.0, k.1)
    and_keeps (and_more d e) n a =
        let k = primary_keeps d refl a in
        let l = and_keeps e n k.1 in
        (and_more k.0 l.0, l.1)

    or_keeps : {ws rest : List Word} {t : Tree} → OrOf c m ws t rest → plus_follows rest ≡ false → EachKept ws → OrOf c s (words_by word false ws) (tree_by f t) (words_by word false rest) × EachKept rest
    or_keeps (one_and d) n a = let k = and_keeps d n a in (one_and k.0, k.1)
    or_keeps (or_more d e) n a =
        let k = and_keeps d refl a in
        let l = or_keeps e n k.1 in
        (or_more k.0 l.0, l.1)

  pub keeps : (ws : List Word) (t : Tree) → Derives c m ws t → EachKept ws → Derives c s (words_by word false ws) (tree_by f t)
  keeps ws t d a = derives c s (or_keeps (threaded c m d) refl a).0
