-- A text is judged as its canonical text is.
use Rattle.std.proofs.Common.{◌≡◌, ℕ, ◌+◌, Bool, true, false, not, ◌&&◌, cond, List, [], ◌∷◌, ◌++◌, Option, Some, None, Result, Ok, Err, map, length, take, drop, unwrap_or, refl, sym, ap, subst, ◌∙◌, IsTrue}
use Rattle.std.specs.Prelude.{bytes_eq, option_map}
use Rattle.std.specs.List.{position}
use Rattle.std.proofs.lemmas.List.{map-append, length-append}
use Rattle.spdx_requirement.specs.Rows.{Rows, LicenseRow}
use Rattle.spdx_requirement.specs.Flags.{is_gnu}
use Rattle.spdx_requirement.specs.Endings.{only, has_suffix}
use Rattle.spdx_requirement.specs.Items.{LicenseTerm, listed, referred, Addition, Requirement}
use Rattle.spdx_catalogue.specs.LookUps as LookUps
use Rattle.spdx_catalogue.specs.Names.{without_plus}
use Rattle.spdx_catalogue.proofs.Caseless.{find_passes, bytes_same}
use Rattle.spdx_lexer.specs.Words.{Word, Fault, Span, Item, Placed, words}
use Rattle.spdx_lexer.specs.Modes.{strict, lax}
use Rattle.spdx_lexer.specs.Reading.{reading, said, Spells}
use Rattle.spdx_lexer.specs.declared.token.ParseMode.{ParseMode}
use Rattle.spdx_parser.specs.declared.node.ExprNode.{ExprNode}
use Rattle.spdx_parser.specs.Tree.{Tree, Leaf, Join, leaves}
use Rattle.spdx_parser.specs.Faults.{HasNoTree}
use Rattle.spdx_parser.specs.Meaning.{IsParsed}
use Rattle.spdx_parser.specs.Grammar.{Derives}
use Rattle.spdx_evaluation.specs.Truth.{joined, truth_of, holds}
use Rattle.spdx_canonical.specs.Canonical as canon
use Rattle.spdx_canonical.specs.Canonical.{canonical_text, canonical_words}
use Rattle.spdx_canonical.specs.Law.{tree_by, only_license}
use Rattle.spdx_canonical.proofs.Written.{suffixed}
use Rattle.spdx_canonical.proofs.Laws.{laws}
use Rattle.spdx_catalogue.specs.RowRules.{is_well_formed}
use Rattle.spdx_licensee.specs.Replacements.{KnownReplacement}
use Rattle.spdx_licensee.specs.Sense as sensed
use Rattle.spdx_licensee.proofs.Unique.{oks_once}
use Rattle.spdx_policy.specs.declared.decision.Decision.{Decision}
use Rattle.spdx_policy.specs.declared.decision.Decision.TheVariants as decision
use Rattle.spdx_policy.specs.declared.decision.Entry.{Entry}
use Rattle.spdx_policy.specs.declared.decision.Entry.TheVariants as entry
use Rattle.spdx_policy.specs.Decisions.{or_else, frees, flag_frees, exempted_by, allowed_among, denied_among, decision_among, decision_of, ways_of}
use Rattle.spdx_licensee.specs.Ways.{ways}
use Rattle.spdx_policy.specs.Rules.{Rules, allowed_by}
use Rattle.spdx_gate.specs.declared.judgement.Outcome.{Outcome}
use Rattle.spdx_gate.specs.declared.judgement.Outcome.TheVariants as outcome
use Rattle.spdx_why.specs.Marks.{allows}
use Rattle.spdx_gate.specs.Allowing.{mark_of, allowed_in}
use Rattle.spdx_gate.specs.Judging.{mode_of, verdict_of, IsOutcome}
use Rattle.spdx_gate.specs.Verdicts.{verdict_by}
use Rattle.spdx_gate.specs.Spelling.{strictly, NoSpellingMatters}

-- ---- a bare GNU name and the one with `-only` mean the same

only_same : (c : Rows) (r : LicenseRow) → sensed.only_row c r ≡ canon.only_row c r
only_same c r = by (is_gnu r.flags) (has_suffix r.name)
  where
    by : (g s : Bool) → cond (g && not s) (unwrap_or (cond s (LookUps.listed c.licenses (without_plus r.name)) (LookUps.listed c.licenses (r.name ++ only))) r) r ≡ cond (g && not s) (unwrap_or (LookUps.listed c.licenses (r.name ++ only)) r) r
    by true true = refl
    by true false = refl
    by false s = refl

keeps_suffixed : (c : Rows) (r : LicenseRow) → has_suffix r.name ≡ true → canon.only_row c r ≡ r
keeps_suffixed c r e = ap (λ b. cond (is_gnu r.flags && not b) (unwrap_or (LookUps.listed c.licenses (r.name ++ only)) r) r) e ∙ by (is_gnu r.flags)
  where
    by : (g : Bool) → cond (g && false) (unwrap_or (LookUps.listed c.licenses (r.name ++ only)) r) r ≡ r
    by true = refl
    by false = refl

listed_name : (c : Rows) (name : List ℕ) (r : LicenseRow) → LookUps.listed c.licenses name ≡ Some r → r.name ≡ name
listed_name c name r h = bytes_same r.name name (find_passes (λ (y : LicenseRow). bytes_eq y.name name) c.licenses r (sym h))

only_again : (c : Rows) (r : LicenseRow) → canon.only_row c (canon.only_row c r) ≡ canon.only_row c r
only_again c r = by (is_gnu r.flags) (has_suffix r.name) (LookUps.listed c.licenses (r.name ++ only)) refl refl refl
  where
    by : (g s : Bool) (o : Option LicenseRow) → is_gnu r.flags ≡ g → has_suffix r.name ≡ s → LookUps.listed c.licenses (r.name ++ only) ≡ o
        → canon.only_row c (cond (g && not s) (unwrap_or o r) r) ≡ cond (g && not s) (unwrap_or o r) r
    by false s o eg es eo = ap (λ b. cond (b && not (has_suffix r.name)) (unwrap_or (LookUps.listed c.licenses (r.name ++ only)) r) r) eg
    by true true o eg es eo = keeps_suffixed c r es
    by true false None eg es eo =
        ap (λ b. cond (b && not (has_suffix r.name)) (unwrap_or (LookUps.listed c.licenses (r.name ++ only)) r) r) eg
        ∙ ap (λ b. cond (not b) (unwrap_or (LookUps.listed c.licenses (r.name ++ only)) r) r) es
        ∙ ap (λ (z : Option LicenseRow). unwrap_or z r) eo
    by true false (Some q) eg es eo =
        let name : q.name ≡ r.name ++ only = listed_name c (r.name ++ only) q eo in
        let written : canon.gnu_name false r.name ≡ r.name ++ only = ap (λ b. cond b r.name (r.name ++ only)) es in
        keeps_suffixed c q (ap has_suffix (name ∙ sym written) ∙ suffixed false r.name)

same_sense : (c : Rows) (hs : List KnownReplacement) (l : LicenseTerm) (a : Option Addition) → sensed.sense_of c hs (only_license c l) a ≡ sensed.sense_of c hs l a
same_sense c hs (referred r) a = refl
same_sense c hs (listed r mark) a =
    let same : sensed.only_row c (canon.only_row c r) ≡ sensed.only_row c r = only_same c (canon.only_row c r) ∙ only_again c r ∙ sym (only_same c r) in
    ap (λ (z : LicenseRow). sensed.sense_behind c hs mark (sensed.replaced z a (sensed.succeeds hs z))) same

-- ---- the decisions and the verdict of a tree

same_decision : (p : Rules) (tables : List ℕ) (r : Requirement) → decision_of p tables (record { license = only_license p.list r.license; addition = r.addition }) ≡ decision_of p tables r
same_decision p tables r = ap (λ (z : Requirement). decision_among p tables (ways p.list z)) (same_sense p.list p.replacements r.license r.addition)

same_decisions : (p : Rules) (tables : List ℕ) (t : Tree) → map (decision_of p tables) (leaves (tree_by (only_license p.list) t)) ≡ map (decision_of p tables) (leaves t)
same_decisions p tables (Leaf r) = ap (λ (d : Decision). d ∷ []) (same_decision p tables r)
same_decisions p tables (Join o l r) =
    map-append (decision_of p tables) (leaves (tree_by (only_license p.list) l)) (leaves (tree_by (only_license p.list) r))
    ∙ ap (λ (z : List Decision). z ++ map (decision_of p tables) (leaves (tree_by (only_license p.list) r))) (same_decisions p tables l)
    ∙ ap (λ (z : List Decision). map (decision_of p tables) (leaves l) ++ z) (same_decisions p tables r)
    ∙ sym (map-append (decision_of p tables) (leaves l) (leaves r))

as_many : (f : LicenseTerm → LicenseTerm) (t : Tree) → length (leaves (tree_by f t)) ≡ length (leaves t)
as_many f (Leaf r) = refl
as_many f (Join o l r) =
    length-append (leaves (tree_by f l)) (leaves (tree_by f r)) ∙ ap (λ n. n + length (leaves (tree_by f r))) (as_many f l) ∙ ap (λ n. length (leaves l) + n) (as_many f r) ∙ sym (length-append (leaves l) (leaves r))

same_truth : (f : LicenseTerm → LicenseTerm) (t : Tree) (bs : List Bool) → truth_of (tree_by f t) bs ≡ truth_of t bs
same_truth f (Leaf r) bs = refl
same_truth f (Join o l r) bs =
    ap (λ n. joined o (truth_of (tree_by f l) (take n bs)) (truth_of (tree_by f r) (drop n bs))) (as_many f l)
    ∙ ap (λ b. joined o b (truth_of (tree_by f r) (drop (length (leaves l)) bs))) (same_truth f l (take (length (leaves l)) bs))
    ∙ ap (λ b. joined o (truth_of l (take (length (leaves l)) bs)) b) (same_truth f r (drop (length (leaves l)) bs))

same_allowed : (p : Rules) (tables : List ℕ) (t : Tree) → map (allowed_in p tables) (leaves (tree_by (only_license p.list) t)) ≡ map (allowed_in p tables) (leaves t)
same_allowed p tables (Leaf r) = ap (λ (d : Decision). allows (mark_of d) ∷ []) (same_decision p tables r)
same_allowed p tables (Join o l r) =
    map-append (allowed_in p tables) (leaves (tree_by (only_license p.list) l)) (leaves (tree_by (only_license p.list) r))
    ∙ ap (λ (z : List Bool). z ++ map (allowed_in p tables) (leaves (tree_by (only_license p.list) r))) (same_allowed p tables l)
    ∙ ap (λ (z : List Bool). map (allowed_in p tables) (leaves l) ++ z) (same_allowed p tables r)
    ∙ sym (map-append (allowed_in p tables) (leaves l) (leaves r))

same_holds : (p : Rules) (tables : List ℕ) (t : Tree) → holds (allowed_in p tables) (tree_by (only_license p.list) t) ≡ holds (allowed_in p tables) t
same_holds p tables t =
    same_truth (only_license p.list) t (map (allowed_in p tables) (leaves (tree_by (only_license p.list) t))) ∙ ap (truth_of t) (same_allowed p tables t)

same_verdict : (p : Rules) (tables : List ℕ) (t : Tree) → verdict_of p tables (tree_by (only_license p.list) t) ≡ verdict_of p tables t
same_verdict p tables t = ap (λ b. verdict_by b (holds (allowed_in p []) (tree_by (only_license p.list) t))) (same_holds p tables t) ∙ ap (verdict_by (holds (allowed_in p tables) t)) (same_holds p [] t)

-- ---- reading strictly changes nothing of what a tree's requirements are

pub map_same : {A B : Type 0} (f g : A → B) (xs : List A) → ((x : A) → f x ≡ g x) → map f xs ≡ map g xs
map_same f g [] e = refl
map_same f g (x ∷ xs) e = ap (λ y. y ∷ map f xs) (e x) ∙ ap (λ ys. g x ∷ ys) (map_same f g xs e)

exempted_strictly : (p : Rules) (held tables : List ℕ) (ws : List Requirement) → exempted_by (strictly p) held tables ws ≡ exempted_by p held tables ws
exempted_strictly p held [] ws = refl
exempted_strictly p held (table ∷ tables) ws = ap (or_else (option_map (entry.Exception table) (position (frees p held ws) (allowed_by p table)))) (exempted_strictly p held tables ws)

denied_strictly : (p : Rules) (tables : List ℕ) (ws : List Requirement) → denied_among (strictly p) tables ws ≡ denied_among p tables ws
denied_strictly p tables [] = refl
denied_strictly p tables (w ∷ ws) = refl

pub decision_strictly : (p : Rules) (tables : List ℕ) (r : Requirement) → decision_of (strictly p) tables r ≡ decision_of p tables r
decision_strictly p tables r =
    let ws = ways_of p r in
    ap (λ (e : Option Entry). unwrap_or (or_else (option_map decision.Allowed (or_else e (or_else (option_map entry.Allow (position (frees p tables ws) p.allow)) (option_map entry.AllowIf (position (flag_frees p tables ws) p.allow_if))))) (option_map decision.Denied (denied_among (strictly p) tables ws))) decision.Open)
    (exempted_strictly p tables tables ws)
    ∙ ap (λ (d : Option Entry). unwrap_or (or_else (option_map decision.Allowed (allowed_among p tables ws)) (option_map decision.Denied d)) decision.Open) (denied_strictly p tables ws)

holds_strictly : (p : Rules) (tables : List ℕ) (t : Tree) → holds (allowed_in (strictly p) tables) t ≡ holds (allowed_in p tables) t
holds_strictly p tables t = ap (truth_of t) (map_same (allowed_in (strictly p) tables) (allowed_in p tables) (leaves t) (λ r. ap (λ (d : Decision). allows (mark_of d)) (decision_strictly p tables r)))

pub verdict_strictly : (p : Rules) (tables : List ℕ) (t : Tree) → verdict_of (strictly p) tables t ≡ verdict_of p tables t
verdict_strictly p tables t = ap (λ b. verdict_by b (holds (allowed_in (strictly p) []) t)) (holds_strictly p tables t) ∙ ap (verdict_by (holds (allowed_in p tables) t)) (holds_strictly p [] t)

-- ---- the tree that a text means

pub said_words : (read : List Placed) → map said (let items : List Item = map Ok read in items) ≡ map Ok (words read)
said_words [] = refl
said_words (r ∷ read) = ap (λ (z : List (Result Word Fault)). (let w : Result Word Fault = Ok r.0 in w) ∷ z) (said_words read)

-- what words are read, where each is said
record Reads (items : List Item) (ws : List Word) : Type 0 where
  read : List Placed
  reads : items ≡ map Ok read
  are : words read ≡ ws

one_read : (w : Word) (s : Span) (items : List Item) (ws : List Word) → Reads items ws → Reads (Ok (w, s) ∷ items) (w ∷ ws)
one_read w s items ws h = record {
  read = (w, s) ∷ h.read;
  reads = ap (λ (z : List Item). let i : Item = Ok (w, s) in i ∷ z) h.reads;
  are = ap (λ (z : List Word). w ∷ z) h.are;
}

word_once : (w v : Word) → (let r : Result Word Fault = Ok w in r) ≡ Ok v → w ≡ v
word_once w v e = cc

reads_of : (items : List Item) (ws : List Word) → map said items ≡ map Ok ws → Reads items ws
reads_of [] [] e = record { read = []; reads = refl; are = refl }
reads_of [] (w ∷ ws) e = absurd (cc)
reads_of (i ∷ items) [] e = absurd (cc)
reads_of (Ok (w, s) ∷ items) (v ∷ ws) e =
    let head : (let r : Result Word Fault = Ok w in r) ≡ Ok v = cc in
    let tail : map said items ≡ map Ok ws = cc in
    let same : w ≡ v = word_once w v head in
    subst (λ (z : Word). Reads (Ok (w, s) ∷ items) (z ∷ ws)) same (one_read w s items ws (reads_of items ws tail))
reads_of (Err (f, s) ∷ items) (v ∷ ws) e = let head : (let r : Result Word Fault = Err f in r) ≡ Ok v = cc in absurd (cc)

spelt_words : (c : Rows) (m : ParseMode) (text : List ℕ) (ws : List Word) (read : List Placed) → Spells c m text ws → reading c m 0 text ≡ map Ok read → words read ≡ ws
spelt_words c m text ws read spells reads = oks_once (words read) ws (sym (said_words read) ∙ ap (map said) (sym reads) ∙ spells)

-- the tree of a text that was read, where its words mean one
pub tree_once : (c : Rows) (m : ParseMode) (text : List ℕ) (ws : List Word) (t : Tree) (nodes : List ExprNode) (v : IsParsed c m text nodes) → Spells c m text ws → Derives c m ws t → t ≡ v.tree
tree_once c m text ws t nodes v spells derived =
    v.meant.only t (subst (λ (z : List Word). Derives c m z t) (sym (spelt_words c m text ws v.read spells v.reads)) derived)

-- such a text has a tree
pub not_unread : (c : Rows) (m : ParseMode) (text : List ℕ) (ws : List Word) (t : Tree) → Spells c m text ws → Derives c m ws t → HasNoTree c m text → ⊥
not_unread c m text ws t spells derived none =
    let r = reads_of (reading c m 0 text) ws spells in
    none r.read t r.reads (subst (λ (z : List Word). Derives c m z t) (sym r.are) derived)

lax_mode : (p : Rules) → p.lax ≡ true → mode_of p ≡ lax
lax_mode p e = ap (λ b. cond b lax strict) e

pub no_spelling : (c : Rows) → IsTrue (is_well_formed c) → (p : Rules) (tables text : List ℕ) (o : Outcome) → IsOutcome c p tables text o → NoSpellingMatters c p tables text o
no_spelling c well p tables text (outcome.Unreadable f) h is_lax list ws t sound canonical k =
    absurd (not_unread c lax text ws t sound.accepted.read sound.accepted.meant (subst (λ (m : ParseMode). HasNoTree c m text) (lax_mode p is_lax) h.no_tree))
no_spelling c well p tables text (outcome.Judged j) h is_lax list ws t sound (outcome.Unreadable f) k =
    let faithful = (laws c well text).faithful ws t sound in
    absurd (not_unread c strict (canonical_text ws) (canonical_words c ws) (tree_by (only_license c) t) faithful.read faithful.meant.derived k.no_tree)
no_spelling c well p tables text (outcome.Judged j) h is_lax list ws t sound (outcome.Judged k) kk =
    let faithful = (laws c well text).faithful ws t sound in
    let spells : Spells c (mode_of p) text ws = subst (λ (m : ParseMode). Spells c m text ws) (sym (lax_mode p is_lax)) sound.accepted.read in
    let derived : Derives c (mode_of p) ws t = subst (λ (m : ParseMode). Derives c m ws t) (sym (lax_mode p is_lax)) sound.accepted.meant in
    let own : t ≡ h.parsed.tree = tree_once c (mode_of p) text ws t j.nodes.items h.parsed spells derived in
    let other : tree_by (only_license c) t ≡ kk.parsed.tree =
    tree_once c strict (canonical_text ws) (canonical_words c ws) (tree_by (only_license c) t) k.nodes.items kk.parsed faithful.read faithful.meant.derived in
    let by_list : tree_by (only_license p.list) t ≡ kk.parsed.tree = ap (λ (z : Rows). tree_by (only_license z) t) list ∙ other in (
      kk.decided.decisions_are
          ∙ map_same (decision_of (strictly p) tables) (decision_of p tables) (leaves kk.parsed.tree) (decision_strictly p tables)
          ∙ ap (λ (z : Tree). map (decision_of p tables) (leaves z)) (sym by_list)
          ∙ same_decisions p tables t
          ∙ ap (λ (z : Tree). map (decision_of p tables) (leaves z)) own
          ∙ sym h.decided.decisions_are,
      kk.decided.verdict_is
          ∙ verdict_strictly p tables kk.parsed.tree
          ∙ ap (verdict_of p tables) (sym by_list)
          ∙ same_verdict p tables t
          ∙ ap (verdict_of p tables) own
          ∙ sym h.decided.verdict_is,
    )
