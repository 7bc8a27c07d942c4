use Rattle.std.proofs.Common.{ap, map, string_bytes}
use Rattle.check_files.specs.Noted.{site_text}
use Rattle.check_files.proofs.Needed.{begun, further_site}
use Rattle.check_files.proofs.noted.add_sites.Goals as goal

pub loop-site-init : goal.loop-site-init
loop-site-init c = begun c.args.catalogue.now c.args.mode (map string_bytes c.args.used.now.items)

pub loop-site-preserved : goal.loop-site-preserved
loop-site-preserved c =
    further_site c.args.catalogue.now c.args.mode c.args.sites.now c.loop-site.site-index _ (site_text c.site-item.result) _ _ _ c.loop-site-test.true c.loop-site.invariant (ap site_text c.site-item.is) c.in_ok-add_site.ensures
