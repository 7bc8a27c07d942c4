-- What is written of a manifest.
use Rattle.std.proofs.Common.{◌≡◌, ℕ, Bool, List, map, subst}
use Rattle.line_engine.specs.declared.lines.Summary.{Summary}
use Rattle.manifests.specs.declared.form.Form.{Form}
use Rattle.manifests.specs.declared.site.Site.{Site}
use Rattle.manifests.specs.Sites.{AreSites}
use Rattle.spdx_check.specs.declared.check.Check.{Check}
use Rattle.check_sources.specs.Findings.{ChecksWritten, Source}
use Rattle.check_sources.specs.Manifests.{AreOrdered, ChecksSites, check_in, declared_at}

-- what is written is of the sites that are handed back
pub of_sites : (check : Check) (is_first : Bool) (form : Form) (source : Source) (sites ordered read : List Site) (text : List ℕ) (summary : Summary) → AreSites form source.bytes sites
    → AreOrdered sites ordered → read ≡ ordered → ChecksWritten (check_in form check) is_first source (map declared_at read) text summary → ChecksSites check is_first form source ordered text summary
of_sites check is_first form source sites ordered read text summary are order e h = record {
  are = record { sites = sites; are = are; order = order };
  finds = subst (λ (xs : List Site). ChecksWritten (check_in form check) is_first source (map declared_at xs) text summary) e h;
}
