use Rattle.std.proofs.Common.{◌≡◌, List, option_map, string_bytes, sym, ◌∙◌, ap, subst}
use Rattle.spdx_lexer.specs.Words.{Placed, OpenParen, words}
use Rattle.spdx_parser.proofs.Loop.{same_words}
use Rattle.spdx_parser.specs.Heard.{HearsAll}
use Rattle.spdx_canonical.specs.Canonical.{answer_to}
use Rattle.spdx_canonical.specs.Draft.{Drafted}
use Rattle.spdx_canonical.proofs.Neighbours.{AreApart, apart}
use Rattle.spdx_canonical.proofs.Laxer.{canonical_found}
use Rattle.spdx_canonical.proofs.Heard.{Writes, answered}
use Rattle.spdx_canonical.proofs.parsed.parse_canonical.Goals as goal

pub returns-clause-written : goal.returns-clause-written
returns-clause-written c = λ read is.
    let p = c.in_ok-nodes.ensures.ok in
    let same : p.read ≡ read = same_words p.read read (sym p.reads ∙ is) in
    let fits = subst (λ (xs : List Placed). AreApart OpenParen (words xs)) same (apart c.args.catalogue.now c.args.mode (words p.read) p.tree p.meant.derived) in
    let heard = subst (λ (d : Drafted). HearsAll Writes d (words read) c.parse_heard.new.listener) c.new-draft.ensures (c.in_ok-nodes.ensures.heard read is) in
    answered c.args.text.now (words read) c.parse_heard.new.listener (option_map string_bytes c.in_ok-canonical.canonical) fits heard c.in_ok-canonical.ensures.ok

pub returns-clause-canonical : goal.returns-clause-canonical
returns-clause-canonical c = λ mode.
    let p = c.in_ok-nodes.ensures.ok in
    ap (answer_to c.args.text.now) (canonical_found c.args.catalogue.now c.args.mode c.args.text.now p.read p.tree mode p.reads p.meant.derived)
    ∙ returns-clause-written c p.read p.reads
