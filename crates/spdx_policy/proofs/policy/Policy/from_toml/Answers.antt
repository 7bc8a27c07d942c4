use Rattle.toml.specs.View.{table_view}
use Rattle.spdx_policy.specs.Drawn.{draft_rows}
use Rattle.spdx_policy.specs.Refused.{IsRefusedDraft}
use Rattle.spdx_policy.proofs.NoPolicy.{no_policy, each_refusal}
use Rattle.spdx_policy.proofs.policy.Policy.from_toml.Goals as goal

pub returns-clause-none : goal.returns-clause-none
returns-clause-none c =
    each_refusal (IsRefusedDraft c.args.catalogue.now (draft_rows c.in_ok-draft.draft)) _ c.policy_of.result
    (λ f blame p is. no_policy c.args.catalogue.now c.args.replacements c.args.text.now f (record {
      utf8 = c.in_ok-table.ensures.utf8;
      members = table_view c.in_ok-table.table;
      document = c.in_ok-table.ensures.ok;
      draft = draft_rows c.in_ok-draft.draft;
      shape = c.in_ok-draft.ensures.ok;
      refused = blame;
    }) p is) c.policy_of.ensures.err
