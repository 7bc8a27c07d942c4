use Rattle.std.proofs.Common.{codes, refl, ap, ◌∙◌}
use Rattle.std.proofs.lemmas.Result.{IfOk-weaker}
use Rattle.clap.specs.Walk.{texts}
use Rattle.spdx_words.specs.Commands as table
use Rattle.spdx_words.specs.Options.{with_value}
use Rattle.spdx_words.proofs.Building.{added_to, at_first, joined}
use Rattle.spdx_words.proofs.packages.command.page.Goals as goal

pub returns : goal.returns
returns c =
    let formats : table.These table.page_formats = (c.as_slice.result, ap texts c.as_slice.ensures) in
    IfOk-weaker c.arg-6.result _ _ (λ r adds. (
      formats,
      c.in_ok-sources.ensures.0,
      λ options is.
          let start = at_first options c.args.notice is in
          let plain = added_to options _ _ _ start c.in_ok-arg.ensures c.flag.ensures refl in
          let lax = added_to options _ _ _ plain c.in_ok-arg-2.ensures c.accept_lax.ensures refl in
          let one = added_to options _ _ _ lax c.in_ok-arg-3.ensures c.flag-2.ensures refl in
          let format = added_to options _ _ _ one c.in_ok-notice.ensures (c.with_value.ensures ∙ ap (with_value (codes "text")) c.choice-format.ensures) refl in
          let from = joined options _ (table.sources c.in_ok-sources.ensures.0.0) _ (c.in_ok-sources.ensures.1 _ _ format) in
          let list = added_to options _ _ _ from c.in_ok-arg-4.ensures c.list_file.ensures refl in
          added_to options _ _ r list adds c.paths.ensures refl,
    )) c.arg-6.ensures
