-- An accepted line has a canonical text.
use Rattle.std.proofs.Common.{◌≡◌, ◌⊎◌, inl, inr, ℕ, List, map, Ok, refl}
use Rattle.spdx_requirement.specs.Rows.{Rows}
use Rattle.spdx_lexer.specs.Modes.{strict, lax}
use Rattle.spdx_lexer.specs.Words.{Placed, words}
use Rattle.spdx_lexer.specs.Reading.{reading}
use Rattle.spdx_parser.specs.Tree.{Tree}
use Rattle.spdx_parser.specs.Grammar.{Derives}
use Rattle.spdx_canonical.specs.Canonical.{canonical_text, canonical_of}
use Rattle.spdx_canonical.proofs.Laxer as laxer
use Rattle.spdx_lines.specs.declared.lines.LineMode.{LineMode}
use Rattle.spdx_lines.specs.declared.lines.LineMode.TheVariants.{Strict, Lax, Normal}
use Rattle.spdx_lines.specs.Verdict.{parse_mode}

-- lines are read strictly or loosely
pub one_of_two : (mode : LineMode) → (parse_mode mode ≡ strict) ⊎ (parse_mode mode ≡ lax)
one_of_two Strict = inl refl
one_of_two Lax = inr refl
one_of_two Normal = inl refl

pub canonical_found : (c : Rows) (mode : LineMode) (text : List ℕ) (read : List Placed) (t : Tree) → reading c (parse_mode mode) 0 text ≡ map Ok read → Derives c (parse_mode mode) (words read) t → canonical_of c text ≡ Ok (canonical_text (words read))
canonical_found c mode text read t r d = laxer.canonical_found c (parse_mode mode) text read t (one_of_two mode) r d
