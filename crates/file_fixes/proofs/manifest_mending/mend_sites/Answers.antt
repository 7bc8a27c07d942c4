use Rattle.std.proofs.Common.{◌≡◌, [], ◌∷◌, List, refl, ap, subst, arith}
use Rattle.std.proofs.lemmas.Grind.{common_steps}
use Rattle.std.proofs.lemmas.List.Elements.{All-nil}
use Rattle.manifests.specs.declared.site.Site.{Site}
use Rattle.file_fixes.specs.ManifestFixing.{Change, HasFate, old_text, begin}
use Rattle.file_fixes.specs.ManifestProgress.{IsSoFar, texts_in}
use Rattle.file_fixes.proofs.SoFar.{IsSoFar-next}
use Rattle.file_fixes.proofs.manifest_mending.mend_sites.Goals as goal

pub loop-site-init : goal.loop-site-init
loop-site-init c = record {
  changes = [];
  sites = c.into_iter-site-iterator.ensures.into_iter_gives.0;
  goes = record {
    fates = All-nil (λ (x : Change). HasFate c.args.manifest.now.catalogue.now c.args.manifest.now.form (old_text x) x.fate);
    steps = begin;
  };
  texts = ap texts_in c.new.ensures.items;
  left = refl;
  some = refl;
}

pub loop-site-preserved : goal.loop-site-preserved
loop-site-preserved c =
    let rows = c.args.manifest.now.catalogue.now in
    let form = c.args.manifest.now.form in
    let old = c.args.manifest.now.bytes.now in
    let later : List Site = c.next.new.self.rest.items in
    let first : c.loop-site.site-iterator.rest.items ≡ c.in-Some.site ∷ later = grind (arith, common_steps) in
    IsSoFar-next rows form old c.args.found.items later c.in-Some.site c.loop-site.mending c.mend_site.new.mending
    (subst (λ (xs : List Site). IsSoFar rows form old c.args.found.items xs c.loop-site.mending) first c.loop-site.invariant)
    c.in_ok-mend_site.ensures.ok
