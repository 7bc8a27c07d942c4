use Rattle.std.proofs.Common.{arith, ◌≡◌, Some, map, ap, ◌∙◌}
use Rattle.std.proofs.lemmas.Option.{slice_get-map}
use Rattle.std.specs.Prelude.{option_map}
use Rattle.std.proofs.lemmas.Grind.{common_steps}
use Rattle.toml.specs.View.{table_view}
use Rattle.toml_places.specs.Paths.{text_at}
use Rattle.manifests.specs.Steps.{toml_steps}
use Rattle.manifests.proofs.TomlWays.{no_site_nowhere, no_site_of_other}
use Rattle.manifests.proofs.toml_sites.site_at.Goals as goal

pub returns-in_default-clause-none : goal.returns-in_default-clause-none
returns-in_default-clause-none c = λ site is there.
    let p = c.args.placed.now in
    no_site_nowhere p.text.now (table_view p.document.now) (map (λ t. t.now) c.args.texts.now) p.paths.now c.args.number site
    c.in_default.ensures.nowhere is there

pub returns-then-not-says-clause-none : goal.returns-then-not-says-clause-none
returns-then-not-says-clause-none c = λ site is there.
    let p = c.args.placed.now in
    no_site_of_other p.text.now (table_view p.document.now) (map (λ t. t.now) c.args.texts.now) p.paths.now c.args.number c.in-Some.path.now c.args.text.now site
    c.in-Some.ensures.path c.requires.number (λ same. let says = c.says.ensures.1 same in let not = c.if-not-says.true in absurd (cc)) is there

pub returns-clause-place : goal.returns-clause-place
returns-clause-place c =
    let says : text_at c.in-Some.path.now.steps.items (table_view c.args.placed.now.document.now) ≡ Some c.args.text.now =
    c.says.ensures.0 c.if-not-says.false in
    let bytes : c.extend_from_slice.new.self.items ≡ c.args.text.now = grind (arith, common_steps) in
    record {
      number = rw bytes c.requires.number;
      steps = c.in-Some.path.now.steps.items;
      path = slice_get-map toml_steps c.args.placed.now.paths.now c.args.number ∙ ap (option_map toml_steps) c.in-Some.ensures.path;
      text = rw bytes says;
      stands = c.in-Some.ensures.stands;
      quotes = grind (arith, common_steps);
    }
