use Rattle.std.proofs.Common.{◌≡◌, [], map, drop, refl, sym, ◌∙◌, append-nil, arith}
use Rattle.std.proofs.Math.ListN.{drop_of_length-le}
use Rattle.std.proofs.lemmas.List.{length-map}
use Rattle.spdx_check.specs.Checking.{replacements_in}
use Rattle.spdx_check.specs.Found.{finding_of}
use Rattle.spdx_check.proofs.Findings.{the_finding}
use Rattle.check_sources.specs.Findings.{findings_text, refused_count}
use Rattle.check_sources.specs.Stood.{source_of, stood}
use Rattle.check_sources.proofs.Texts.{clean, tells}
use Rattle.check_sources.proofs.findings.findings_of.Goals as goal

pub returns : goal.returns
returns c =
    let check = c.args.check.now in
    let finding = finding_of check.catalogue.now (replacements_in check) check.mode in
    let source = source_of c.args.source in
    let ws = map stood c.args.all.now in
    let none : drop c.loop-written.written-index c.args.all.now ≡ [] = drop_of_length-le c.args.all.now (omega arith) in
    let ended = rw none at c.loop-written.invariant in
    let written : c.loop-written.text.items ≡ findings_text finding check.format c.args.is_first source ws = sym (append-nil _) ∙ ended.0 in
    let nobody : refused_count finding [] ≡ 0 = refl in
    let refused : c.loop-written.refused ≡ refused_count finding ws = omega (arith, ended.1, nobody) in
    record {
      finding = finding;
      findings = λ bytes. the_finding check.catalogue.now (replacements_in check) check.mode bytes;
      written = written;
      lines = sym (length-map c.args.all.now stood);
      refused = refused;
      tells = tells finding check.format source c.args.is_first ws _ written;
      clean = λ h. written ∙ clean finding check.format source c.args.is_first ws (sym refused ∙ h);
    }
