use Rattle.manifests.specs.declared.form.Form.{Form}
use Rattle.manifests.specs.declared.form.Form.TheVariants.{Cargo, Pyproject}
use Rattle.manifests.specs.Sites.{paths_of_toml}
use Rattle.manifests.specs.Steps.{IsToldOnce}
use Rattle.toml.specs.Data.{Members}
use Rattle.manifests.proofs.Apart.{json_ways_apart, told_once}
use Rattle.manifests.proofs.ApartToml.{cargo_ways_apart, pyproject_ways_apart, reuse_ways_apart}
use Rattle.manifests.proofs.laws.ways_are_told_once.Goals as goal

of_form : (form : Form) (document : Members) → IsToldOnce (paths_of_toml form document)
of_form Cargo document = told_once _ (cargo_ways_apart document)
of_form Pyproject document = told_once _ (pyproject_ways_apart document)
of_form form document = told_once _ (reuse_ways_apart document)

pub returns : goal.returns
returns c = record {
  json = λ document. told_once _ (json_ways_apart document);
  toml = of_form;
}
