use Rattle.std.proofs.Common.{rules, subst}
use Rattle.spdx_requirement.specs.Failures.{IfRefused}
use Rattle.spdx_lexer.specs.Modes.{strict}
use Rattle.spdx_canonical.proofs.FixRead.{parsed_reads, refused_reads}
use Rattle.file_fixes.proofs.fixing.reads.Goals as goal
use Rattle.file_fixes.proofs.fixing.reads.Goals.{in-Ok, in-Err-Refused, in-Err-Memory}

pub returns-clause-yes : goal.returns-clause-yes
returns-clause-yes c = elim c.match-parse_nodes.branch [
  | in-Ok w ↦ let reads = parsed_reads c.args.catalogue.now strict c.args.text.now w.in-Ok.field-0.items w.in-Ok.ensures.ok in search (rules, reads)
  | in-Err-Refused w ↦ search rules
  | in-Err-Memory w ↦ search rules
]

pub returns-clause-no : goal.returns-clause-no
returns-clause-no c = elim c.match-parse_nodes.branch [
  | in-Ok w ↦ search rules
  | in-Err-Refused w ↦
      let told = subst (IfRefused _) w.in-Err-Refused.field-0-is w.in-Err-Refused.ensures.err in
      let not = refused_reads c.args.catalogue.now strict c.args.text.now told.no_tree in
      search (rules, not)
  | in-Err-Memory w ↦ search rules
]
