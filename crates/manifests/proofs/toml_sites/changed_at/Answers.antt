use Rattle.std.proofs.Common.{rules, ap, ◌∙◌, arith}
use Rattle.std.proofs.lemmas.Option.{slice_get-map}
use Rattle.std.specs.Prelude.{option_map}
use Rattle.toml.specs.View.{table_view}
use Rattle.manifests.specs.Steps.{toml_steps}
use Rattle.manifests.proofs.TomlWays.{no_change_nowhere, no_change_of_other, no_change_refused}
use Rattle.manifests.proofs.toml_sites.changed_at.Goals as goal

pub returns-in_default-clause-none : goal.returns-in_default-clause-none
returns-in_default-clause-none c = λ mended change.
    let p = c.args.placed.now in
    no_change_nowhere p.text.now (table_view p.document.now) p.paths.now c.args.number c.args.old.now c.args.new.now mended c.in_default.ensures.nowhere change

pub returns-then-not-says-clause-none : goal.returns-then-not-says-clause-none
returns-then-not-says-clause-none c = λ mended change.
    let p = c.args.placed.now in
    no_change_of_other p.text.now (table_view p.document.now) p.paths.now c.args.number c.in-Some.path.now c.args.old.now c.args.new.now mended
    c.in-Some.ensures.path (λ same. let is = c.says.ensures.1 same in let not = c.if-not-says.true in absurd (cc)) change

pub returns-in-Some-2-clause-changed : goal.returns-in-Some-2-clause-changed
returns-in-Some-2-clause-changed c = record {
  steps = c.in-Some.path.now.steps.items;
  span = c.in-Some.span;
  path = slice_get-map toml_steps c.args.placed.now.paths.now c.args.number ∙ ap (option_map toml_steps) c.in-Some.ensures.path;
  stands = c.in-Some.ensures.stands;
  text = c.says.ensures.0 c.if-not-says.false;
  mends = search rules;
}

pub returns-in-None-clause-none : goal.returns-in-None-clause-none
returns-in-None-clause-none c = λ mended change.
    let p = c.args.placed.now in
    no_change_refused p.text.now (table_view p.document.now) p.paths.now c.args.number c.in-Some.path.now c.args.old.now c.args.new.now mended c.in-Some.span
    (omega arith) c.in-Some.ensures.path c.in-Some.ensures.stands (rw c.in-None.is at c.in_ok-mended.ensures.refused) change
