use Rattle.std.proofs.Common.{List, [], ◌∷◌, ◌++◌, ◌∙◌, ap, map, sym}
use Rattle.std.specs.Borrow.{Bor}
use Rattle.std.specs.Option.{option_copied}
use Rattle.std.specs.Prelude.{Option}
use Rattle.std.proofs.lemmas.List.{append-nil}
use Rattle.std.proofs.lemmas.Result.{on_ok_weaker}
use Rattle.gate_forms.specs.declared.reports.Report.{Report}
use Rattle.spdx_gate.specs.declared.report.Row.{Row}
use Rattle.gate_told.specs.Packages.{row_told}
use Rattle.gate_told.specs.Texts.{telling_in}
use Rattle.gate_told.proofs.Scopes.{none_told}
use Rattle.gate_told.proofs.packages.add_told.Goals as goal

pub returns-in-Some : goal.returns-in-Some
returns-in-Some c =
    let row = row_told c.args.policy.now (map telling_in c.args.breakdowns.now) c.args.named.now c.args.baseline in
    on_ok_weaker c.add_in.result
    (λ added. (
      c.report_of.result ∷ [],
      ap (λ (r : Report). r ∷ []) c.report_of.ensures ∙ ap (λ (o : Option (Bor Row)). row (option_copied o)) (sym c.in-Some.is),
      added,
    ))
    c.add_in.ensures

pub returns-in-None : goal.returns-in-None
returns-in-None c =
    let row = row_told c.args.policy.now (map telling_in c.args.breakdowns.now) c.args.named.now c.args.baseline in (
      [],
      ap (λ (o : Option (Bor Row)). row (option_copied o)) (sym c.in-None.is),
      sym (append-nil c.args.told.now.items) ∙ ap (λ (rs : List Report). c.args.told.now.items ++ rs) (none_told c.args.scope),
    )
