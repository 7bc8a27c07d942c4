-- Packages that have no choice.
use Rattle.std.specs.Prelude.{◌≡◌, ℕ, List, ◌++◌, Option, None, Some, codes, option_map, string_bytes}
use Rattle.package_items.specs.declared.package.Package.{Package}
use Rattle.choice_program.specs.declared.unchosen.Unchosen.{Unchosen}
use Rattle.choice_program.specs.declared.unchosen.Why.{Why}

abbrev pub with_version : List ℕ → Option (List ℕ) → List ℕ
with_version name None = name
with_version name (Some version) = name ++ (codes " " ++ version)

-- a package by its name, and by its version where it has one
abbrev pub told_name : Package → List ℕ
told_name p = with_version (string_bytes p.name) (option_map string_bytes p.version)

-- it is told of the package, for such a reason
pub record IsUnchosen (p : Package) (IsWhy : Why → Type 0) (u : Unchosen) : Type 0 where
  pub name_is : string_bytes u.name ≡ told_name p
  pub why_is : IsWhy u.why
