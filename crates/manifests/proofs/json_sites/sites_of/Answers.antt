use Rattle.std.proofs.Common.{ℕ, List, Bor, map, sym, ◌∙◌}
use Rattle.serde_json.specs.View.{view}
use Rattle.manifests.specs.declared.site.Site.{Site}
use Rattle.manifests.specs.Steps.{json_steps}
use Rattle.manifests.specs.Sites.{IsInJson, is_expression, numbers_of}
use Rattle.plain_manifests.proofs.Ascending as ascending
use Rattle.manifests.proofs.SoFar.{all_pushed, declared_at, passed, pushed}
use Rattle.manifests.proofs.json_sites.sites_of.Goals as goal
use Rattle.manifests.proofs.json_sites.sites_of.Goals.{then-is_expression+in_ok-site+in-Some+in_ok-push, else-is_expression}

pub returns-in_default-clause-lacks : goal.returns-in_default-clause-lacks
returns-in_default-clause-lacks c = record {
  number = c.loop-number.number;
  text = _;
  declared = declared_at c.args.texts.now c.loop-number.number _ c.loop-number-test.true;
  expression = sym c.is_expression.ensures ∙ c.if-is_expression.true;
  nowhere = rw c.in_default.is at c.in_ok-site.ensures.none;
}

pub loop-number-preserved : goal.loop-number-preserved
loop-number-preserved c =
    elim c.if-is_expression.branch [
      | then-is_expression+in_ok-site+in-Some+in_ok-push w ↦ rw w.sites-is (record {
        texts =
            pushed (is_expression c.args.form) c.args.texts.now c.loop-number.number _ c.loop-number.sites.items _ w.in-Some.site _
            c.loop-number-test.true (sym c.is_expression.ensures ∙ w.if-is_expression.true) (rw w.in-Some.is at w.in_ok-site.ensures.text)
            w.in_ok-push.ensures.items c.loop-number.invariant.texts;
        places = all_pushed
            (IsInJson c.args.placed.now.bytes.now (view c.args.placed.now.document.now) (map (λ (t : Bor (List ℕ)). t.now) c.args.texts.now) (map json_steps c.args.placed.now.paths.now))
            c.loop-number.sites.items _ w.in-Some.site w.in_ok-push.ensures.items c.loop-number.invariant.places (rw w.in-Some.is at w.in_ok-site.ensures.place);
        ascend = ascending.pushed (λ (s : Site). s.number) c.loop-number.sites.items _ w.in-Some.site c.loop-number.number w.in_ok-push.ensures.items
            (rw w.in-Some.is at w.in_ok-site.ensures.number) c.loop-number.invariant.ascend;
      })
      | else-is_expression w ↦ rw w.sites-is (record {
        texts = passed (is_expression c.args.form) c.args.texts.now c.loop-number.number _ c.loop-number.sites.items _ c.loop-number-test.true
            (sym c.is_expression.ensures ∙ w.if-is_expression.false) c.loop-number.invariant.texts;
        places = c.loop-number.invariant.places;
        ascend = ascending.next_instead (numbers_of c.loop-number.sites.items) c.loop-number.number c.loop-number.invariant.ascend;
      })
    ]

pub returns-clause-ascend : goal.returns-clause-ascend
returns-clause-ascend c = ascending.so_far (numbers_of c.loop-number.sites.items) c.loop-number.number c.loop-number.invariant.ascend
