use Rattle.std.proofs.Common.{ap, map, ◌∙◌}
use Rattle.gate_told.specs.Texts.{telling_in}
use Rattle.gate_program.specs.Scopes.{scope_in}
use Rattle.gate_program.specs.Texts.{are_passed, told_text}
use Rattle.gate_program.proofs.Scopes.{passed_same, text_same}
use Rattle.gate_program.proofs.Zips.{told_of_each}
use Rattle.gate_program.proofs.told.gate_text.Goals as goal

pub returns : goal.returns
returns c =
    let breakdowns = rw c.deref-2.ensures.value at c.in_ok-breakdowns.ensures in
    let judged = told_of_each c.args.catalogue.now c.args.policy.now c.in_ok-shown.shown.items c.in_ok-breakdowns.breakdowns.items c.in_ok-shown.ensures.each breakdowns in
    let are = rw c.scope_in.ensures at (rw c.deref-6.ensures.value at (rw c.deref-5.ensures.value at (rw c.deref-4.ensures.value at c.in_ok-told.ensures))) in
    record {
      told = are.all;
      known = c.known.result;
      known_are = c.known.ensures;
      told_are = record {
        tellings = map telling_in c.in_ok-breakdowns.breakdowns.items;
        packages = c.in_ok-packages.packages.items;
        tells = rw c.deref.ensures.value at (rw c.in_ok-shown.ensures.of at judged);
        named = rw c.deref-3.ensures.value at c.in_ok-packages.ensures;
        exact = are.exact;
        each = are.each;
      };
      bytes_are =
          (rw c.new-bytes.ensures.items at (rw c.deref-7.ensures.value at c.in_ok-put_told.ensures))
          ∙ ap (told_text c.args.look c.args.policy.now c.args.path.now c.args.gated.now) are.told_are
          ∙ text_same c.args.look c.args.policy.now c.args.path.now c.args.gated.now are.all;
      passed =
          (rw c.deref-8.ensures.value at c.are_passed-is_passed.ensures)
          ∙ ap are_passed are.told_are ∙ passed_same (scope_in c.args.look) are.all;
    }
