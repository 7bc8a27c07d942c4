use Rattle.std.proofs.Common.{rules, []}
use Rattle.line_engine.specs.declared.lines.RunFault.TheVariants.{Memory}
use Rattle.spdx_lines.specs.Program.{IsTheMeaning, plan_of}
use Rattle.spdx_lines.specs.Ending.{fault_line, stop_line}
use Rattle.spdx_lines.specs.Found.{found}
use Rattle.spdx_lines.proofs.Licensee.{the_licensee}
use Rattle.spdx_lines.proofs.Verdict.{the_verdict}
use Rattle.spdx_lines.proofs.Ends.{appends_nothing, falls_short, unless_failed}
use Rattle.spdx_lines.proofs.program.serve.Goals as goal

found_is_meant : IsTheMeaning found
found_is_meant = record { licensees = the_licensee; verdicts = the_verdict }

pub returns-in-Ok : goal.returns-in-Ok
returns-in-Ok g c = record {
  by = found;
  is_meant = found_is_meant;
  line = [];
  ends = search rules;
  tells = λ _. appends_nothing _;
}

pub returns-in-Ok-line_of : goal.returns-in-Ok-line_of
returns-in-Ok-line_of g c = record {
  by = found;
  is_meant = found_is_meant;
  line = stop_line c.in-Err.stop;
  ends = search rules;
  tells = search rules;
}

pub returns-in-Err-line_of : goal.returns-in-Err-line_of
returns-in-Err-line_of g c = record {
  by = found;
  is_meant = found_is_meant;
  line = fault_line Memory;
  ends = falls_short (plan_of found c.args.words c.args.catalogue) _ _ _ c.in-Err.ensures;
  tells = unless_failed c.write_all-in-Err-line_of.result _ _ c.write_all-in-Err-line_of.ensures.all c.write_all-in-Err-line_of.ensures.failed;
}
