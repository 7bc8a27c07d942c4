-- What the parser says of a text, as a reader's acceptance or refusal.
use Rattle.std.proofs.Common.{◌≡◌, ℕ, List, [], ◌∷◌, map, Result, Ok, Err, refl, sym, ◌∙◌, ap, subst}
use Rattle.spdx_requirement.specs.Rows.{Rows}
use Rattle.spdx_lexer.specs.declared.token.ParseMode.{ParseMode}
use Rattle.spdx_lexer.specs.Words.{Word, Fault, Item, Placed, words}
use Rattle.spdx_lexer.specs.Reading.{said, reading}
use Rattle.spdx_lexer.proofs.Said.{said_words}
use Rattle.spdx_parser.specs.Grammar.{Derives}
use Rattle.spdx_parser.specs.Faults.{HasNoTree}
use Rattle.spdx_parser.specs.Meaning.{IsParsed}
use Rattle.spdx_parser.specs.declared.node.ExprNode.{ExprNode}
use Rattle.spdx_canonical.specs.Fix.{Reads}

-- the words of a text that is read without a fault, with their places
record Places (items : List Item) (ws : List Word) : Type 0 where
  pub read : List Placed
  pub reads : items ≡ map Ok read
  pub words_are : words read ≡ ws

places : (items : List Item) (ws : List Word) → map said items ≡ map Ok ws → Places items ws
places [] [] e = record { read = []; reads = refl; words_are = refl }
places [] (w ∷ ws) e = absurd cc
places (Err x ∷ items) [] e = absurd cc
places (Err x ∷ items) (w ∷ ws) e = absurd cc
places (Ok x ∷ items) [] e = absurd cc
places (Ok x ∷ items) (w ∷ ws) e =
    let same : x.0 ≡ w = cc in
    let more : map said items ≡ map Ok ws = cc in
    let rest = places items ws more in
    record {
      read = x ∷ rest.read;
      reads = ap (λ (xs : List Item). Ok x ∷ xs) rest.reads;
      words_are = ap (λ (v : Word). v ∷ words rest.read) same ∙ ap (λ (vs : List Word). w ∷ vs) rest.words_are;
    }

pub parsed_reads : (c : Rows) (m : ParseMode) (text : List ℕ) (nodes : List ExprNode) → IsParsed c m text nodes → Reads c m text
parsed_reads c m text nodes p =
    (words p.read, p.tree, record { read = ap (map said) p.reads ∙ said_words p.read; meant = p.meant.derived })

pub refused_reads : (c : Rows) (m : ParseMode) (text : List ℕ) → HasNoTree c m text → Reads c m text → ⊥
refused_reads c m text none r =
    let found = places (reading c m 0 text) r.0 r.2.read in
    none found.read r.1 found.reads (subst (λ ws. Derives c m ws r.1) (sym found.words_are) r.2.meant)
