use Rattle.std.proofs.Common.{arith, codes, option_map, string_bytes}
use Rattle.std.proofs.lemmas.Grind.{common_steps}
use Rattle.spdx_requirement.proofs.Documents.{reference_is}
use Rattle.spdx_requirement.proofs.reference.AdditionRefDisplay.fmt.Goals as goal

pub returns-clause-writes : goal.returns-clause-writes
returns-clause-writes g c =
    let text = reference_is (codes "AdditionRef-") (option_map string_bytes c.args.self.now.doc_ref) (string_bytes c.args.self.now.add_ref) in
    rw text (grind (arith, common_steps))
