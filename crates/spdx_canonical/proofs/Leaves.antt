-- What is known of each requirement of a tree that was read strictly: its words are read, they mean it, and their text
-- is its own.
use Rattle.std.proofs.Common.{◌≡◌, ℕ, true, false, cond, List, [], ◌∷◌, ◌++◌, Option, Some, None, refl, sym, ◌∙◌, ap, subst, append_assoc, append-nil}
use Rattle.std.specs.Prelude.{codes}
use Rattle.std.specs.Option.{option_map_or}
use Rattle.spdx_requirement.specs.Rows.{Rows}
use Rattle.spdx_requirement.specs.Flags.{is_deprecated}
use Rattle.spdx_requirement.specs.Items.{LicenseTerm, listed, referred, Addition, excepted, added, Requirement}
use Rattle.spdx_requirement.specs.Texts.{license_text, addition_text, requirement_text, reference_text}
use Rattle.spdx_lexer.specs.Modes.{strict}
use Rattle.spdx_lexer.specs.Words.{Word, Spdx, LicenseRef, Exception, AdditionRef, Plus, With}
use Rattle.spdx_parser.specs.Tree.{Tree}
use Rattle.spdx_parser.proofs.Threaded.{LicenseOf, plain, marked, later, named, unknown, AdditionOf, exception, named_addition, unknown_addition, LeafOf, alone, joined, PrimaryOf, leaf, group, AndOf, one_primary, and_more, OrOf, one_and, or_more}
use Rattle.spdx_canonical.proofs.Neighbours.{AreRead}
use Rattle.spdx_canonical.proofs.Plain.{words_text, text-append}
use Rattle.spdx_canonical.specs.NormalLaw.{EachLeaf}

-- ---- the words of a requirement

abbrev pub license_words : LicenseTerm → List Word
license_words (listed r false) = Spdx r ∷ []
license_words (listed r true) = Spdx r ∷ Plus ∷ []
license_words (referred x) = LicenseRef x.document x.name ∷ []

abbrev pub addition_words : Option Addition → List Word
addition_words None = []
addition_words (Some (excepted r)) = With ∷ Exception r ∷ []
addition_words (Some (added x)) = With ∷ AdditionRef x.document x.name ∷ []

abbrev pub requirement_words : Requirement → List Word
requirement_words r = license_words r.license ++ addition_words r.addition

abbrev with_text : Option Addition → List ℕ
with_text a = option_map_or (λ a. codes " WITH " ++ addition_text a) a []

module _ (c : Rows) where
  -- ---- what is known of a requirement that was read

  pub record IsGoodLicense (l : LicenseTerm) : Type 0 where
    pub read : AreRead c (license_words l)
    pub means : (more : List Word) → LicenseOf c strict (license_words l ++ more) l more
    pub text : words_text (license_words l) ≡ license_text l

  pub record IsGoodAddition (a : Option Addition) : Type 0 where
    pub read : AreRead c (addition_words a)
    pub means : (l : LicenseTerm) (more : List Word) → ((rest : List Word) → LicenseOf c strict (license_words l ++ rest) l rest) → LeafOf c strict (license_words l ++ (addition_words a ++ more)) (record { license = l; addition = a }) more
    pub text : words_text (addition_words a) ≡ with_text a

  license_good : {ws rest : List Word} {l : LicenseTerm} → LicenseOf c strict ws l rest → AreRead c ws → IsGoodLicense l × AreRead c rest
  license_good (plain {r = r} p) h = (record { read = (h.0, tt); means = λ more. plain p; text = append-nil r.name }, h.1)
  license_good (marked {r = r} p e) h = (record { read = (h.0, (tt, tt)); means = λ more. marked p e; text = ap (λ b. r.name ++ cond b (cond (is_deprecated r.flags) (codes "-or-later") []) (codes "+")) (sym e) }, h.1.1)
  license_good (later p e q s l) h = absurd cc
  license_good (named {d = d} {n = y}) h = (record { read = (h.0, tt); means = λ more. named; text = append-nil (reference_text (codes "LicenseRef-") d y) }, h.1)
  license_good unknown h = absurd h.0

  none_good : IsGoodAddition None
  none_good = record { read = tt; means = λ l more f. alone (f more); text = refl }

  addition_good : {ws rest : List Word} {a : Addition} → AdditionOf ws a rest → AreRead c ws → IsGoodAddition (Some a) × AreRead c rest
  addition_good (exception {r = r}) h = (record { read = (tt, (h.0, tt)); means = λ l more f. joined (f (With ∷ Exception r ∷ more)) exception; text = ap (λ (t : List ℕ). codes " WITH " ++ t) (append-nil r.name) }, h.1)
  addition_good (named_addition {d = d} {n = y}) h = (record { read = (tt, (h.0, tt)); means = λ l more f. joined (f (With ∷ AdditionRef d y ∷ more)) named_addition; text = ap (λ (t : List ℕ). codes " WITH " ++ t) (append-nil (reference_text (codes "AdditionRef-") d y)) }, h.1)
  addition_good unknown_addition h = absurd h.0

  -- its words, on which a strict reader and the grammar agree
  pub record IsGood (r : Requirement) : Type 0 where
    pub read : AreRead c (requirement_words r)
    pub means : (more : List Word) → LeafOf c strict (requirement_words r ++ more) r more
    pub text : words_text (requirement_words r) ≡ requirement_text r

  pub read_append : (xs ys : List Word) → AreRead c xs → AreRead c ys → AreRead c (xs ++ ys)
  read_append [] ys h k = k
  read_append (x ∷ xs) ys h k = (h.0, read_append xs ys h.1 k)

  good : (l : LicenseTerm) (a : Option Addition) → IsGoodLicense l → IsGoodAddition a → IsGood (record { license = l; addition = a })
  good l a h k = record {
    read = read_append (license_words l) (addition_words a) h.read k.read;
    means = λ more. subst (λ (ws : List Word). LeafOf c strict ws (record { license = l; addition = a }) more) (sym (append_assoc (license_words l) (addition_words a) more)) (k.means l more h.means);
    text = text-append (license_words l) (addition_words a) ∙ ap (λ (t : List ℕ). t ++ words_text (addition_words a)) h.text ∙ ap (λ (t : List ℕ). license_text l ++ t) k.text;
  }

  leaf_good : {ws rest : List Word} {r : Requirement} → LeafOf c strict ws r rest → AreRead c ws → IsGood r × AreRead c rest
  leaf_good (alone {l = l} d) h = let k = license_good d h in (good l None k.0 none_good, k.1)
  leaf_good (joined {l = l} {a = a} d e) h =
      let k = license_good d h in
      let n = addition_good e k.1.1 in
      (good l (Some a) k.0 n.0, n.1)

  mutual
    primary_good : {ws rest : List Word} {t : Tree} → PrimaryOf c strict ws t rest → AreRead c ws → EachLeaf IsGood t × AreRead c rest
    primary_good (leaf d) h = leaf_good d h
    primary_good (group d) h = let k = or_good d h.1 in (k.0, k.1.1)

    and_good : {ws rest : List Word} {t : Tree} → AndOf c strict ws t rest → AreRead c ws → EachLeaf IsGood t × AreRead c rest
    and_good (one_primary d) h = primary_good d h
    and_good (and_more d e) h =
        let k = primary_good d h in
        let n = and_good e k.1.1 in
        ((k.0, n.0), n.1)

    pub or_good : {ws rest : List Word} {t : Tree} → OrOf c strict ws t rest → AreRead c ws → EachLeaf IsGood t × AreRead c rest
    or_good (one_and d) h = and_good d h
    or_good (or_more d e) h =
        let k = and_good d h in
        let n = or_good e k.1.1 in
        ((k.0, n.0), n.1)
