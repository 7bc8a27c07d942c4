use Rattle.std.proofs.Common.{List, ap, map, subst, ◌∙◌}
use Rattle.package_changes.specs.declared.package.Package.{Package}
use Rattle.package_changes.specs.Pairing.{changes}
use Rattle.package_changes.specs.Rows.{ChangeRow, change_row, Row, row_of}
use Rattle.changes_program.specs.Packages.{row_in}
use Rattle.changes_program.specs.Said.{AreSaid, said_row}
use Rattle.changes_program.proofs.run.told_between.Goals as goal

pub returns : goal.returns
returns c =
    let before = map row_in c.args.older.now in
    let found =
    ap (map change_row) c.deref-3.ensures.value ∙ c.in_ok-changes.ensures.exact
    ∙ ap (λ (ps : List Package). changes (map row_of ps) (map row_of c.deref-2.result.now)) c.deref.ensures.value
    ∙ ap (λ (rs : List Row). changes rs (map row_of c.deref-2.result.now)) c.in_ok-before.ensures
    ∙ ap (λ (ps : List Package). changes before (map row_of ps)) c.deref-2.ensures.value
    ∙ ap (λ (rs : List Row). changes before rs) c.in_ok-now.ensures in
    record {
      said = map said_row c.in_ok-said.said.items;
      tellings = c.in_ok-tellings.tellings.items;
      says = subst (λ (xs : List ChangeRow). AreSaid c.args.catalogue.now xs (map said_row c.in_ok-said.said.items)) found c.in_ok-said.ensures;
      tells = rw c.deref-4.ensures.value at c.in_ok-tellings.ensures;
      text_is = rw c.new-text.ensures.items at (rw c.deref-5.ensures.value at c.in_ok-put_changes.ensures.ok);
      totals_are = rw c.deref-6.ensures.value at c.totals_of.ensures;
      refused_is = rw c.deref-7.ensures.value at c.is_any_refused.ensures;
    }
