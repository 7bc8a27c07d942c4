use Rattle.plain_manifests.specs.declared.sites.PlainSite.{PlainSite}
use Rattle.plain_manifests.specs.Sites.{numbers_of}
use Rattle.plain_manifests.proofs.Ascending.{next_instead, pushed}
use Rattle.plain_manifests.proofs.sites.push_site.Goals as goal

pub returns-in_ok-push-clause-ascend : goal.returns-in_ok-push-clause-ascend
returns-in_ok-push-clause-ascend c =
    pushed (λ (s : PlainSite). s.number) c.args.sites.now.items _ _ c.args.number c.in_ok-push.ensures.items c.in_ok-site_at.ensures.number

pub returns-else-is_expression-clause-ascend : goal.returns-else-is_expression-clause-ascend
returns-else-is_expression-clause-ascend c = next_instead (numbers_of c.args.sites.now.items) c.args.number
