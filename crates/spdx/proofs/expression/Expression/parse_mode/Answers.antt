use Rattle.std.proofs.Common.{sym, ◌∙◌, subst, rules}
use Rattle.spdx_lexer.specs.Reading.{reading}
use Rattle.spdx_lexer.specs.Faults.{fault_of}
use Rattle.spdx_lexer.specs.Code.{span_of}
use Rattle.spdx_lexer.proofs.Laid.{reading_laid, laid_places}
use Rattle.spdx_parser.proofs.Places.{fault_place}
use Rattle.std.specs.List.{All}
use Rattle.spdx_lexer.specs.Layout.{IsPlace}
use Rattle.spdx.proofs.Leaves.{if_refused}
use Rattle.spdx.proofs.ReadFrom.{are_postfix, read_from}
use Rattle.spdx.proofs.expression.Expression.parse_mode.Goals as goal

pub from_nodes-requires : goal.from_nodes-requires
from_nodes-requires c = are_postfix c.args.catalogue.now c.args.mode c.args.text.now _ c.in_ok-nodes.ensures.ok

pub returns-clause-ok : goal.returns-clause-ok
returns-clause-ok c =
    read_from c.args.catalogue.now c.args.mode c.args.text.now _ c.in_ok-nodes.ensures.ok c.from_nodes.result c.from_nodes.ensures.tree c.from_nodes.ensures.spans (c.from_nodes.ensures.text ∙ c.in_ok-original.ensures.ok)

pub returns-in_err-nodes-clause-place : goal.returns-in_err-nodes-clause-place
returns-in_err-nodes-clause-place c =
    let catalogue = c.args.catalogue.now in
    let text = c.args.text.now in
    let laid = reading_laid catalogue c.is_well_formed.ensures c.has_text_prefixes.ensures c.args.mode text c.utf8.text in
    let all = laid_places catalogue c.args.mode text 0 (reading catalogue c.args.mode 0 text) laid in
    let place = if_refused c.parse_nodes.result c.parse_nodes.ensures.err (λ e r. fault_place text c.utf8.text catalogue c.args.mode all (fault_of e.reason) (span_of e.span) r.fault_is) in
    let told = rw (c.in_err-nodes.was) at place in
    search (rules, told)

pub returns-clause-spans : goal.returns-clause-spans
returns-clause-spans c = subst (All (IsPlace c.args.text.now)) (sym c.from_nodes.ensures.spans) c.in_ok-nodes.ensures.spans
