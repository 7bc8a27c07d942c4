use Rattle.std.proofs.Common.{◌++◌, List}
use Rattle.manifests.specs.declared.site.Site.{Site}
use Rattle.manifests.specs.Sites.{AreEach}
use Rattle.manifests.proofs.plain.sites_from.Given as goal

abbrev pub invariant-loop-site : goal.invariant-loop-site
invariant-loop-site l =
    (later : List Site) → AreEach l.site-iterator.rest.items later → AreEach l.fn.found.items (l.sites.items ++ later)
