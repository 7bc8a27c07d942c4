use Rattle.std.proofs.Common.{◌≡◌, ◌+◌, ◌≤◌, ◌++◌, drop, map}
use Rattle.spdx_check.specs.Checking.{replacements_in}
use Rattle.spdx_check.specs.Found.{finding_of}
use Rattle.check_sources.specs.Findings.{findings_text, refused_count}
use Rattle.check_sources.specs.Stood.{source_of, stood}
use Rattle.check_sources.proofs.Texts.{is_next}
use Rattle.check_sources.proofs.findings.findings_of.Given as goal

abbrev pub invariant-loop-written : goal.invariant-loop-written
invariant-loop-written l =
    let check = l.check in
    let finding = finding_of check.catalogue.now (replacements_in check) check.mode in
    let source = source_of l.source in
    let rest = map stood (drop l.written-index l.all) in
    (l.text.items ++ findings_text finding check.format (is_next l.is_first l.refused) source rest ≡ findings_text finding check.format l.is_first source (map stood l.all))
    × (l.refused + refused_count finding rest ≡ refused_count finding (map stood l.all))
    × (l.refused ≤ l.written-index)
    × (l.cursor.bytes.now ≡ l.source.bytes.now)
