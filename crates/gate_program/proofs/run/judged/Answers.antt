use Rattle.std.proofs.Common.{List, ap, refl, ◌∙◌}
use Rattle.std.specs.Option.{option_copied}
use Rattle.package_files.specs.declared.listed.Listed.{Listed}
use Rattle.gate_program.specs.Run.{end_of}
use Rattle.gate_program.proofs.run.judged.Goals as goal

pub returns : goal.returns
returns c = record {
  files_are = c.in_ok-gated.ensures.files_are;
  left_out_are = refl;
  ends = (
    c.in_ok-text.text,
    record { gated = c.in_ok-gated.gated; judges = c.in_ok-gated.ensures; tells = c.in_ok-text.ensures },
    c.end_of-end.ensures ∙ ap (λ (fs : List Listed). end_of c.in_ok-text.text (option_copied c.args.request.look.explain) fs) (c.deref.ensures.value ∙ c.in_ok-gated.ensures.files_are),
  );
}
