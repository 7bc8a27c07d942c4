-- A text that reads strictly reads so where a `/` may mean OR as well.
use Rattle.std.proofs.Common.{◌≡◌, ℕ, ◌+◌, ◌&&◌, ◌==◌, Bool, true, false, cond, List, [], ◌∷◌, map, drop, Some, None, Result, Ok, Err, refl, sym, ap, subst, arith, nat_lt}
use Rattle.std.specs.Prelude.{option_map}
use Rattle.std.proofs.lemmas.Bool.Decides.{nat_tests}
use Rattle.spdx_requirement.specs.Rows.{Rows}
use Rattle.spdx_requirement.specs.Items.{LicenseTerm, Requirement}
use Rattle.spdx_lexer.specs.declared.token.ParseMode.{ParseMode}
use Rattle.spdx_lexer.specs.Modes.{strict}
use Rattle.spdx_lexer.specs.Words.{Word, Plus, OpenParen, CloseParen, Or, Fault, Span, span, Item}
use Rattle.spdx_lexer.specs.Text.{run_at, white}
use Rattle.spdx_lexer.specs.Lexeme.{rules, lexeme_of, lexeme}
use Rattle.spdx_lexer.specs.Groups.{Found}
use Rattle.spdx_lexer.specs.Reading.{go_on, behind, items, reading, said, Spells}
use Rattle.spdx_parser.specs.Tree.{Tree}
use Rattle.spdx_parser.specs.Grammar.{LicenseIs, LeafIs, PrimaryIs, AndIs, Derives, plain, marked, later, named, unknown, alone, joined, leaf, group, one_primary, and_more, one_and, or_more}
use Rattle.spdx_canonical.specs.Fix.{Reads, IsFix}
use Rattle.manifests.specs.declared.form.Form.{Form}
use Rattle.manifests.specs.Sites.{reads_slash}
use Rattle.std.specs.Str.{IsUtf8}
use Rattle.file_fixes.specs.ManifestFixing.{mode_of, IsMendedBy}

-- strictly, but for a `/` where that is allowed
abbrev pub slashed : Bool → ParseMode
slashed allowed = record strict { allow_slash_as_or_operator = allowed }

-- ---- one word

slash_begins_no_run : (b : ℕ) (text : List ℕ) → b ≡ 47 → run_at (b ∷ text) ≡ []
slash_begins_no_run b text e = ap (λ (x : ℕ). run_at (x ∷ text)) e

nothing_found : (text run : List ℕ) (o : Found) (found : Word × ℕ) → run ≡ [] → lexeme_of text run None o ≡ Ok found → ⊥
nothing_found text [] o found r e = cc
nothing_found text (b ∷ run) o found r e = cc

-- a sign by four tests of a byte, the last one for `/`
abbrev sign_by : Bool → Bool → Bool → Bool → Found
sign_by plus left right slash = option_map (λ w. (w, 1)) (cond plus (Some Plus) (cond left (Some OpenParen) (cond right (Some CloseParen) (cond slash (Some Or) None))))

sign_same : (c : Rows) (allowed : Bool) (b : ℕ) (text : List ℕ) (plus left right slash : Bool) → (b == 47) ≡ slash → (found : Word × ℕ) → lexeme_of (b ∷ text) (run_at (b ∷ text)) (sign_by plus left right (slash && false)) (rules c strict (b ∷ text) (run_at (b ∷ text))) ≡ Ok found → lexeme_of (b ∷ text) (run_at (b ∷ text)) (sign_by plus left right (slash && allowed)) (rules c (slashed allowed) (b ∷ text) (run_at (b ∷ text))) ≡ Ok found
sign_same c allowed b text true left right slash s found e = e
sign_same c allowed b text false true right slash s found e = e
sign_same c allowed b text false false true slash s found e = e
sign_same c allowed b text false false false true s found e =
    let is : b ≡ 47 = grind (arith, nat_tests, s) in
    absurd (nothing_found (b ∷ text) (run_at (b ∷ text)) (rules c strict (b ∷ text) (run_at (b ∷ text))) found (slash_begins_no_run b text is) e)
sign_same c allowed b text false false false false s found e = e

lexeme_same : (c : Rows) (allowed : Bool) (b : ℕ) (text : List ℕ) (found : Word × ℕ) → lexeme c strict (b ∷ text) ≡ Ok found → lexeme c (slashed allowed) (b ∷ text) ≡ Ok found
lexeme_same c allowed b text found e = sign_same c allowed b text (b == 43) (b == 40) (b == 41) (b == 47) refl found e

-- ---- all words

-- what says words alone says the same words there
abbrev Same : List Item → List Item → Type 0
Same xs ys = (ws : List Word) → map said xs ≡ map Ok ws → map said ys ≡ map Ok ws

cond_same : (b : Bool) (x x' y y' : List Item) → Same x x' → Same y y' → Same (cond b x y) (cond b x' y')
cond_same true x x' y y' h k = h
cond_same false x x' y y' h k = k

one_same : (w : Word) (s : Span) (xs ys : List Item) → Same xs ys → Same (Ok (w, s) ∷ xs) (Ok (w, s) ∷ ys)
one_same w s xs ys h [] e = absurd cc
one_same w s xs ys h (v ∷ ws) e =
    let same : w ≡ v = cc in
    let rest : map said xs ≡ map Ok ws = cc in
    let more = h ws rest in cc

no_fault : (fault : Fault) (s : Span) (rest ys : List Item) → Same (Err (fault, s) ∷ rest) ys
no_fault fault s rest ys [] e = absurd cc
no_fault fault s rest ys (w ∷ ws) e = absurd cc

go_on_same : (more more' : ℕ → List Item) → ((next : ℕ) → Same (more next) (more' next)) → (at : ℕ) (r r' : Result (Word × ℕ) (Fault × ℕ)) → ((found : Word × ℕ) → r ≡ Ok found → r' ≡ Ok found) → Same (go_on more at r) (go_on more' at r')
go_on_same more more' h at (Err fault) r' k = no_fault fault.0 (span at fault.1) [] (go_on more' at r')
go_on_same more more' h at (Ok found) r' k =
    subst (λ (x : Result (Word × ℕ) (Fault × ℕ)). Same (go_on more at (Ok found)) (go_on more' at x)) (sym (k found refl))
    (one_same found.0 (span at found.1) (more (at + found.1)) (more' (at + found.1)) (h (at + found.1)))

behind_same : (c : Rows) (allowed : Bool) (more more' : ℕ → List Item) → ((next : ℕ) → Same (more next) (more' next)) → (at gap : ℕ) (text : List ℕ) → Same (behind c strict more at gap text) (behind c (slashed allowed) more' at gap text)
behind_same c allowed more more' h at gap [] = λ ws e. e
behind_same c allowed more more' h at gap (b ∷ text) =
    cond_same (nat_lt 0 gap && b == 43) _ _ _ _ (λ ws e. e) (go_on_same more more' h (at + gap) (lexeme c strict (b ∷ text)) (lexeme c (slashed allowed) (b ∷ text)) (lexeme_same c allowed b text))

items_same : (c : Rows) (allowed : Bool) (from at : ℕ) (text : List ℕ) → Same (items c strict from at text) (items c (slashed allowed) from at text)
items_same c allowed from at [] = λ ws e. e
items_same c allowed from at (b ∷ text) =
    cond_same (nat_lt at from) _ _ _ _ (items_same c allowed from (at + 1) text)
    (behind_same c allowed (λ next. items c strict next (at + 1) text) (λ next. items c (slashed allowed) next (at + 1) text) (λ next. items_same c allowed next (at + 1) text) at (white (b ∷ text)) (drop (white (b ∷ text)) (b ∷ text)))

spelt : (c : Rows) (allowed : Bool) (text : List ℕ) (ws : List Word) → Spells c strict text ws → Spells c (slashed allowed) text ws
unfolding reading
spelt c allowed text ws e = items_same c allowed 0 0 text ws e

-- ---- the tree

license : (c : Rows) (allowed : Bool) {ws : List Word} {l : LicenseTerm} → LicenseIs c strict ws l → LicenseIs c (slashed allowed) ws l
license c allowed (plain may) = plain may
license c allowed (marked may gnu) = marked may gnu
license c allowed (later may gnu plus ends next) = later may gnu plus ends next
license c allowed named = named
license c allowed unknown = unknown

requirement : (c : Rows) (allowed : Bool) {ws : List Word} {r : Requirement} → LeafIs c strict ws r → LeafIs c (slashed allowed) ws r
requirement c allowed (alone l) = alone (license c allowed l)
requirement c allowed (joined l a) = joined (license c allowed l) a

mutual
  primary : (c : Rows) (allowed : Bool) {ws : List Word} {t : Tree} → PrimaryIs c strict ws t → PrimaryIs c (slashed allowed) ws t
  primary c allowed (leaf l) = leaf (requirement c allowed l)
  primary c allowed (group d) = group (derived c allowed d)

  conjunction : (c : Rows) (allowed : Bool) {ws : List Word} {t : Tree} → AndIs c strict ws t → AndIs c (slashed allowed) ws t
  conjunction c allowed (one_primary p) = one_primary (primary c allowed p)
  conjunction c allowed (and_more p a) = and_more (primary c allowed p) (conjunction c allowed a)

  derived : (c : Rows) (allowed : Bool) {ws : List Word} {t : Tree} → Derives c strict ws t → Derives c (slashed allowed) ws t
  derived c allowed (one_and a) = one_and (conjunction c allowed a)
  derived c allowed (or_more a d) = or_more (conjunction c allowed a) (derived c allowed d)

-- a text that reads strictly reads in manifests of each form
pub reads_there : (c : Rows) (form : Form) (text : List ℕ) → Reads c strict text → Reads c (mode_of form) text
reads_there c form text r =
    let allowed = reads_slash form in
    (r.0, r.1, record { read = spelt c allowed text r.0 r.2.read; meant = derived c allowed r.2.meant })

-- an expression that is refused, and its fix
pub mended_by : (c : Rows) (form : Form) (text fix : List ℕ) → IsFix c text fix → IsUtf8 fix → (Reads c (mode_of form) text → ⊥) → IsMendedBy c form text fix
mended_by c form text fix is utf8 refused = record {
  refused = λ r. refused r.1;
  is_fix = is;
  reads = (utf8, reads_there c form fix is.mended);
}
