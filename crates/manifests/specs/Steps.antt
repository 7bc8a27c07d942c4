-- The way to a text of a document, by the names and numbers that it is told by.
use Rattle.std.specs.Prelude.{◌≡◌, ℕ, List, Some, map, slice_get}
use Rattle.json_places.specs.declared.path.Path as json_path
use Rattle.json_places.specs.declared.path.Step as json
use Rattle.json_places.specs.declared.path.Step.TheVariants as json_step
use Rattle.toml_places.specs.declared.path.Path as toml_path
use Rattle.toml_places.specs.declared.path.Step as toml
use Rattle.toml_places.specs.declared.path.Step.TheVariants as toml_step

-- to the member of this name, or to the item of this number in a list, counted from 0
pub data Step : Type 0 where
  Key : List ℕ → Step
  Item : ℕ → Step

abbrev pub of_json : json.Step → Step
of_json (json_step.Key key) = Key key.now
of_json (json_step.Item index) = Item index

abbrev pub of_toml : toml.Step → Step
of_toml (toml_step.Key key) = Key key.now
of_toml (toml_step.Item index) = Item index

-- the steps of a path
abbrev pub json_steps : json_path.Path → List Step
json_steps path = map of_json path.steps.items

abbrev pub toml_steps : toml_path.Path → List Step
toml_steps path = map of_toml path.steps.items

-- two numbers have two ways
abbrev pub IsToldOnce : List (List Step) → Type 0
IsToldOnce ways = (n m : ℕ) (way : List Step) →
    slice_get ways n ≡ Some way → slice_get ways m ≡ Some way → n ≡ m
