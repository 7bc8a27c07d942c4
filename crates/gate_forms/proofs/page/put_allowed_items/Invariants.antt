use Rattle.std.proofs.Common.{◌≡◌, ◌++◌, take, flat_map}
use Rattle.foreign_text.specs.PageText.{page_text}
use Rattle.gate_forms.specs.Page.{in_allowed}
use Rattle.gate_forms.proofs.page.put_allowed_items.Given as goal

abbrev pub invariant-loop-report : goal.invariant-loop-report
invariant-loop-report l =
    l.page.items ≡ l.initial.page.items ++ flat_map (λ r. in_allowed page_text r r.verdict) (take l.report-index l.reports)
