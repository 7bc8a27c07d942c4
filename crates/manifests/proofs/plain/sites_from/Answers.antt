use Rattle.std.proofs.Common.{◌≡◌, [], List, subst, sym, append-nil, arith}
use Rattle.std.proofs.lemmas.Grind.{common_steps}
use Rattle.plain_manifests.specs.declared.sites.PlainSite.{PlainSite}
use Rattle.manifests.specs.Sites.{AreEach}
use Rattle.manifests.proofs.plain.sites_from.Goals as goal

pub returns : goal.returns
returns c =
    let none : c.loop-site.site-iterator.rest.items ≡ [] = grind (arith, common_steps) in
    let last : AreEach c.loop-site.site-iterator.rest.items [] = subst (λ (found : List PlainSite). AreEach found []) (sym none) tt in
    subst (AreEach c.args.found.items) (append-nil c.loop-site.sites.items) (c.loop-site.invariant [] last)
