use Rattle.std.proofs.Common.{Some, option_map, string_bytes, ap, ◌∙◌}
use Rattle.std.specs.Option.{option_copied}
use Rattle.spdx_policy.proofs.Members.{first_unknown-keys}
use Rattle.spdx_policy.proofs.reading.shape.first_unknown.Goals as goal

pub returns-in_err-key : goal.returns-in_err-key
returns-in_err-key c =
    ap option_copied c.from_residual.ensures ∙ ap (option_map string_bytes) c.in_err-key.ensures ∙ first_unknown-keys c.args.known.now c.args.members.now.entries

pub returns : goal.returns
returns c =
    ap Some c.as_str.ensures.value ∙ ap (option_map string_bytes) c.in_ok-key.ensures ∙ first_unknown-keys c.args.known.now c.args.members.now.entries
