use Rattle.std.proofs.Common.{ℕ, List, [], Bor, map, refl}
use Rattle.toml.specs.View.{table_view}
use Rattle.manifests.specs.declared.site.Site.{Site}
use Rattle.manifests.specs.Steps.{toml_steps}
use Rattle.manifests.specs.Sites.{IsInToml, numbers_of}
use Rattle.plain_manifests.proofs.Ascending as ascending
use Rattle.manifests.proofs.SoFar.{all_pushed, declared_at, pushed_any}
use Rattle.manifests.proofs.toml_sites.sites_of.Goals as goal

pub returns-in_default-clause-lacks : goal.returns-in_default-clause-lacks
returns-in_default-clause-lacks c = record {
  number = c.loop-number.number;
  text = _;
  declared = declared_at c.args.texts.now c.loop-number.number (record { ref_ptr = (0, 0); now = [] }) c.loop-number-test.true;
  expression = refl;
  nowhere = rw c.in_default.is at c.in_ok-site.ensures.none;
}

pub loop-number-preserved : goal.loop-number-preserved
loop-number-preserved c = record {
  texts =
      pushed_any c.args.texts.now c.loop-number.number _ c.loop-number.sites.items _ c.in-Some.site _ c.loop-number-test.true
      (rw c.in-Some.is at c.in_ok-site.ensures.text) c.in_ok-push.ensures.items c.loop-number.invariant.texts;
  places =
      all_pushed
      (IsInToml c.args.placed.now.text.now (table_view c.args.placed.now.document.now) (map (λ (t : Bor (List ℕ)). t.now) c.args.texts.now) (map toml_steps c.args.placed.now.paths.now))
      c.loop-number.sites.items _ c.in-Some.site c.in_ok-push.ensures.items c.loop-number.invariant.places (rw c.in-Some.is at c.in_ok-site.ensures.place);
  ascend =
      ascending.pushed (λ (s : Site). s.number) c.loop-number.sites.items _ c.in-Some.site c.loop-number.number c.in_ok-push.ensures.items
      (rw c.in-Some.is at c.in_ok-site.ensures.number) c.loop-number.invariant.ascend;
}

pub returns-clause-ascend : goal.returns-clause-ascend
returns-clause-ascend c = ascending.so_far (numbers_of c.loop-number.sites.items) c.loop-number.number c.loop-number.invariant.ascend
