use Rattle.std.proofs.Common.{rules, List, Some, string_bytes, subst, sym, ◌∙◌}
use Rattle.spdx_requirement.specs.declared.row.License.{License}
use Rattle.spdx_requirement.specs.declared.row.Exception.{Exception}
use Rattle.spdx_requirement.specs.declared.row.ImpreciseName.{ImpreciseName}
use Rattle.spdx_catalogue.specs.Index.{whole_front}
use Rattle.spdx_catalogue.specs.CatalogueModel.{IsIndexed, IsLicenseIndex}
use Rattle.spdx_catalogue.proofs.catalogue.Catalogue.new.Goals as goal

pub first_fault-requires : goal.first_fault-requires
first_fault-requires c = subst (λ (xs : List License). IsLicenseIndex xs c.index_of-license_index.result) (c.deref.ensures.value ∙ sym c.deref-2.ensures.value) c.index_of-license_index.ensures

pub invariant_of-result : goal.invariant_of-result
invariant_of-result c = record {
  rules = search rules;
  licenses = subst (λ (xs : List License). IsIndexed (λ r. Some (string_bytes r.name)) xs c.index_of-license_index.result) c.deref.ensures.value c.index_of-license_index.ensures;
  exceptions = subst (λ (xs : List Exception). IsIndexed (λ r. Some (string_bytes r.name)) xs c.index_of-exception_index.result) c.deref-in-None.ensures.value c.index_of-exception_index.ensures;
  prefixes = subst (λ (xs : List ImpreciseName). IsIndexed (λ r. whole_front (string_bytes r.prefix)) xs c.index_of-prefix_index.result) c.deref-in-None-2.ensures.value c.index_of-prefix_index.ensures;
}
