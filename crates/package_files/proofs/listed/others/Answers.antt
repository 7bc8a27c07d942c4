use Rattle.std.proofs.Common.{rules, tests, map, ap, ◌∙◌}
use Rattle.std.specs.Prelude.{not}
use Rattle.std.proofs.lemmas.Fn.{filter_same}
use Rattle.package_items.specs.declared.package.Package.{Package}
use Rattle.package_items.specs.Rows.{PackageRow, row_of}
use Rattle.package_files.proofs.Parts.{filter-map}
use Rattle.package_files.proofs.listed.others.Goals as goal

pub returns-clause-packages : goal.returns-clause-packages
returns-clause-packages c =
    ap (map row_of) (filter_same _ (λ (p : Package). not p.is_own) _ (λ x b f' k. search (rules, tests)) _ _ c.retain.ensures.filtered)
    ∙ filter-map (λ (r : PackageRow). not r.is_own) row_of c.args.listed.packages.items
