-- A text that reads strictly without a fault reads loosely as the same words, so an accepted text has a canonical text.
use Rattle.std.proofs.Common.{◌≡◌, ◌⊎◌, inl, inr, ℕ, ◌+◌, ◌&&◌, ◌==◌, Bool, true, false, cond, List, [], ◌∷◌, map, length, drop, Option, Some, None, Result, Ok, Err, refl, sym, ◌∙◌, ap, subst, arith, nat_lt}
use Rattle.std.specs.Prelude.{option_map, ok_or}
use Rattle.std.proofs.lemmas.Bool.Decides.{nat_tests}
use Rattle.spdx_requirement.specs.Rows.{Rows}
use Rattle.spdx_lexer.specs.Modes.{strict, lax}
use Rattle.spdx_lexer.specs.Words.{Word, Plus, OpenParen, CloseParen, Or, Fault, UnknownTerm, Span, span, Item, Placed, words}
use Rattle.spdx_lexer.specs.Text.{run_at, white}
use Rattle.spdx_lexer.specs.Lexeme.{first_of, rules, lexeme_of, lexeme}
use Rattle.spdx_lexer.specs.Groups.{Found, exact, referred, caseless, imprecise, unknown}
use Rattle.spdx_lexer.proofs.Table.{rules_grouped}
use Rattle.spdx_lexer.proofs.Said.{said_words}
use Rattle.spdx_lexer.specs.Reading.{go_on, behind, items, reading, said, Spells}
use Rattle.spdx_parser.specs.Tree.{Tree}
use Rattle.spdx_parser.specs.Grammar.{Derives}
use Rattle.spdx_canonical.specs.Canonical.{canonical_text, canonical_of}
use Rattle.spdx_canonical.proofs.Neighbours.{apart}
use Rattle.spdx_canonical.proofs.Sound.{has_text}
use Rattle.spdx_lexer.specs.declared.token.ParseMode.{ParseMode}

-- ---- one word

-- what the rules of the strict form find, they find in every mode
more_rules : (e r f g h : Found) (found : Word × ℕ) → first_of (first_of (e ∷ r ∷ None ∷ []) ∷ None ∷ None ∷ []) ≡ Some found → first_of (first_of (e ∷ r ∷ f ∷ []) ∷ g ∷ h ∷ []) ≡ Some found
more_rules (Some x) r f g h found e = e
more_rules None (Some x) f g h found e = e
more_rules None None f g h found e = absurd cc

ok_some : {A B : Type 0} (o : Option A) (other : B) (x : A) → ok_or o other ≡ Ok x → o ≡ Some x
ok_some (Some y) other x e = cc
ok_some None other x e = absurd cc

run_same : (c : Rows) (text run : List ℕ) (found : Word × ℕ) → lexeme_of text run None (rules c strict text run) ≡ Ok found → lexeme_of text run None (rules c lax text run) ≡ Ok found
run_same c text [] found e = absurd cc
run_same c text (b ∷ run) found e =
    let k = ok_some (rules c strict text (b ∷ run)) (UnknownTerm, length (b ∷ run)) found e in
    ap (λ (o : Found). ok_or o (UnknownTerm, length (b ∷ run)))
    (rules_grouped c lax text (b ∷ run)
    ∙ more_rules (exact c (b ∷ run)) (referred (b ∷ run)) (caseless c lax (b ∷ run)) (imprecise c lax text) (unknown lax (b ∷ run)) found (sym (rules_grouped c strict text (b ∷ run)) ∙ k))

slash_begins_no_run : (b : ℕ) (text : List ℕ) → b ≡ 47 → run_at (b ∷ text) ≡ []
slash_begins_no_run b text e = ap (λ (x : ℕ). run_at (x ∷ text)) e

nothing_found : (text run : List ℕ) (o : Found) (found : Word × ℕ) → run ≡ [] → lexeme_of text run None o ≡ Ok found → ⊥
nothing_found text [] o found r e = cc
nothing_found text (b ∷ run) o found r e = cc

-- a sign by four tests of a byte, the last one for `/`
abbrev sign_by : Bool → Bool → Bool → Bool → Found
sign_by plus left right slash = option_map (λ w. (w, 1)) (cond plus (Some Plus) (cond left (Some OpenParen) (cond right (Some CloseParen) (cond slash (Some Or) None))))

sign_same : (c : Rows) (b : ℕ) (text : List ℕ) (plus left right slash : Bool) → (b == 47) ≡ slash → (found : Word × ℕ) → lexeme_of (b ∷ text) (run_at (b ∷ text)) (sign_by plus left right (slash && false)) (rules c strict (b ∷ text) (run_at (b ∷ text))) ≡ Ok found → lexeme_of (b ∷ text) (run_at (b ∷ text)) (sign_by plus left right (slash && true)) (rules c lax (b ∷ text) (run_at (b ∷ text))) ≡ Ok found
sign_same c b text true left right slash s found e = e
sign_same c b text false true right slash s found e = e
sign_same c b text false false true slash s found e = e
sign_same c b text false false false true s found e =
    let is : b ≡ 47 = grind (arith, nat_tests, s) in
    absurd (nothing_found (b ∷ text) (run_at (b ∷ text)) (rules c strict (b ∷ text) (run_at (b ∷ text))) found (slash_begins_no_run b text is) e)
sign_same c b text false false false false s found e = run_same c (b ∷ text) (run_at (b ∷ text)) found e

lexeme_same : (c : Rows) (b : ℕ) (text : List ℕ) (found : Word × ℕ) → lexeme c strict (b ∷ text) ≡ Ok found → lexeme c lax (b ∷ text) ≡ Ok found
lexeme_same c b text found e = sign_same c b text (b == 43) (b == 40) (b == 41) (b == 47) refl found e

-- ---- all words

-- a list of words alone is the other list too
abbrev Same : List Item → List Item → Type 0
Same xs ys = (read : List Placed) → xs ≡ map Ok read → ys ≡ map Ok read

cond_same : (b : Bool) (x x' y y' : List Item) → Same x x' → Same y y' → Same (cond b x y) (cond b x' y')
cond_same true x x' y y' h k = h
cond_same false x x' y y' h k = k

one_same : (first : Item) (xs ys : List Item) → Same xs ys → Same (first ∷ xs) (first ∷ ys)
one_same first xs ys h [] e = absurd cc
one_same first xs ys h (p ∷ read) e =
    let same : first ≡ Ok p = cc in
    let rest : xs ≡ map Ok read = cc in
    let more = h read rest in cc

no_fault : (fault : Fault × Span) (rest ys : List Item) → Same (Err fault ∷ rest) ys
no_fault fault rest ys [] e = absurd cc
no_fault fault rest ys (p ∷ read) e = absurd cc

go_on_same : (more more' : ℕ → List Item) → ((next : ℕ) → Same (more next) (more' next)) → (at : ℕ) (r r' : Result (Word × ℕ) (Fault × ℕ)) → ((found : Word × ℕ) → r ≡ Ok found → r' ≡ Ok found) → Same (go_on more at r) (go_on more' at r')
go_on_same more more' h at (Err fault) r' k = no_fault _ _ _
go_on_same more more' h at (Ok found) r' k =
    subst (λ (x : Result (Word × ℕ) (Fault × ℕ)). Same (go_on more at (Ok found)) (go_on more' at x)) (sym (k found refl))
    (one_same (Ok (found.0, span at found.1)) _ _ (h (at + found.1)))

behind_same : (c : Rows) (more more' : ℕ → List Item) → ((next : ℕ) → Same (more next) (more' next)) → (at gap : ℕ) (text : List ℕ) → Same (behind c strict more at gap text) (behind c lax more' at gap text)
behind_same c more more' h at gap [] = λ read e. e
behind_same c more more' h at gap (b ∷ text) =
    cond_same (nat_lt 0 gap && b == 43) _ _ _ _ (λ read e. e) (go_on_same more more' h (at + gap) (lexeme c strict (b ∷ text)) (lexeme c lax (b ∷ text)) (lexeme_same c b text))

items_same : (c : Rows) (from at : ℕ) (text : List ℕ) → Same (items c strict from at text) (items c lax from at text)
items_same c from at [] = λ read e. e
items_same c from at (b ∷ text) =
    cond_same (nat_lt at from) _ _ _ _ (items_same c from (at + 1) text)
    (behind_same c (λ next. items c strict next (at + 1) text) (λ next. items c lax next (at + 1) text) (λ next. items_same c next (at + 1) text) at (white (b ∷ text)) (drop (white (b ∷ text)) (b ∷ text)))

reads_same : (c : Rows) (text : List ℕ) → Same (reading c strict 0 text) (reading c lax 0 text)
unfolding reading
reads_same c text = items_same c 0 0 text

reads_loosely : (c : Rows) (m : ParseMode) (text : List ℕ) → (m ≡ strict) ⊎ (m ≡ lax) → Same (reading c m 0 text) (reading c lax 0 text)
reads_loosely c m text (inl e) = subst (λ (x : ParseMode). Same (reading c x 0 text) (reading c lax 0 text)) (sym e) (reads_same c text)
reads_loosely c m text (inr e) = subst (λ (x : ParseMode). Same (reading c x 0 text) (reading c lax 0 text)) (sym e) (λ read e. e)

-- the canonical text of an accepted text
pub canonical_found : (c : Rows) (m : ParseMode) (text : List ℕ) (read : List Placed) (t : Tree) → (m ≡ strict) ⊎ (m ≡ lax) → reading c m 0 text ≡ map Ok read → Derives c m (words read) t → canonical_of c text ≡ Ok (canonical_text (words read))
canonical_found c m text read t is r d =
    let spelt : Spells c lax text (words read) = ap (λ (xs : List Item). map said xs) (reads_loosely c m text is read r) ∙ said_words read in
    has_text c text (words read) spelt (apart c m (words read) t d)
