use Rattle.std.proofs.Common.{◌≡◌, Err, None, List, String, Global, map, rules, sym, subst, ◌∙◌, string_bytes}
use Rattle.spdx_policy.specs.declared.reading.draft.ExceptionDraft.{ExceptionDraft}
use Rattle.spdx_policy.specs.declared.reading.draft.ClarifyDraft.{ClarifyDraft}
use Rattle.spdx_policy.specs.declared.error.Key.TheVariants as key
use Rattle.spdx_policy.specs.declared.error.Section.TheVariants as section
use Rattle.spdx_policy.specs.Blame.{BlamesNames, BlamesExempted, BlamesExempting, BlamesClarified}
use Rattle.spdx_policy.specs.Meant.{unknown_flag}
use Rattle.spdx_policy.specs.Refused.{IsRefusedDraft, by_list, in_allow, in_deny, in_ranges, in_exceptions, in_clarifications}
use Rattle.spdx_policy.specs.Drawn.{draft_rows, exception_row, clarify_row}
use Rattle.spdx_policy.proofs.Blamed.{blamed, nothing, entries_there, ranges_there, names_there}
use Rattle.spdx_policy.proofs.reading.from_toml.policy_of.Goals as goal

pub returns-in_err-allow-clause-err : goal.returns-in_err-allow-clause-err
returns-in_err-allow-clause-err c =
    let rows = c.args.catalogue.now in
    let d = draft_rows c.args.draft in
    let known : unknown_flag rows d ≡ None = sym c.unknown_flag.ensures ∙ c.in_default.is in
    let same : c.from_residual.result ≡ Err c.in_err-allow.field-0.0 = search rules in
    blamed (BlamesNames rows section.Policy key.Allow (map string_bytes c.deref.result.now)) (IsRefusedDraft rows d) c.from_residual.result c.in_err-allow.field-0.0 same c.in_err-allow.ensures.err
    (λ f b. in_allow (record { flags = known; allowed = nothing rows; denied = nothing rows }) (subst (λ (ts : List (String Global)). BlamesNames rows section.Policy key.Allow (map string_bytes ts) f) c.deref.ensures.value b))

pub returns-in_err-deny-clause-err : goal.returns-in_err-deny-clause-err
returns-in_err-deny-clause-err c =
    let rows = c.args.catalogue.now in
    let d = draft_rows c.args.draft in
    let known : unknown_flag rows d ≡ None = sym c.unknown_flag.ensures ∙ c.in_default.is in
    let allow = entries_there rows _ c.deref.result.now c.args.draft.allow.items _ c.deref.ensures.value c.in_ok-allow.ensures.ok in
    let same : c.from_residual-in_err-deny.result ≡ Err c.in_err-deny.field-0.0 = search rules in
    blamed (BlamesNames rows section.Policy key.Deny (map string_bytes c.deref-2.result.now)) (IsRefusedDraft rows d) c.from_residual-in_err-deny.result c.in_err-deny.field-0.0 same c.in_err-deny.ensures.err
    (λ f b. in_deny (record { flags = known; allowed = allow; denied = nothing rows }) (subst (λ (ts : List (String Global)). BlamesNames rows section.Policy key.Deny (map string_bytes ts) f) c.deref-2.ensures.value b))

pub returns-in_err-exempted-clause-err : goal.returns-in_err-exempted-clause-err
returns-in_err-exempted-clause-err c =
    let rows = c.args.catalogue.now in
    let d = draft_rows c.args.draft in
    let known : unknown_flag rows d ≡ None = sym c.unknown_flag.ensures ∙ c.in_default.is in
    let allow = entries_there rows _ c.deref.result.now c.args.draft.allow.items _ c.deref.ensures.value c.in_ok-allow.ensures.ok in
    let deny = entries_there rows _ c.deref-2.result.now c.args.draft.deny.items _ c.deref-2.ensures.value c.in_ok-deny.ensures.ok in
    let same : c.from_residual-in_err-exempted.result ≡ Err c.in_err-exempted.field-0.0 = search rules in
    blamed (BlamesExempted (map exception_row c.deref-3.result.now)) (IsRefusedDraft rows d) c.from_residual-in_err-exempted.result c.in_err-exempted.field-0.0 same c.in_err-exempted.ensures.err
    (λ f b. in_ranges (record { flags = known; allowed = allow; denied = deny }) (subst (λ (es : List ExceptionDraft). BlamesExempted (map exception_row es) f) c.deref-3.ensures.value b))

pub returns-in_err-exempting-clause-err : goal.returns-in_err-exempting-clause-err
returns-in_err-exempting-clause-err c =
    let rows = c.args.catalogue.now in
    let d = draft_rows c.args.draft in
    let known : unknown_flag rows d ≡ None = sym c.unknown_flag.ensures ∙ c.in_default.is in
    let allow = entries_there rows _ c.deref.result.now c.args.draft.allow.items _ c.deref.ensures.value c.in_ok-allow.ensures.ok in
    let deny = entries_there rows _ c.deref-2.result.now c.args.draft.deny.items _ c.deref-2.ensures.value c.in_ok-deny.ensures.ok in
    let ranges = ranges_there c.deref-3.result.now c.args.draft.exceptions.items _ c.deref-3.ensures.value c.in_ok-exempted.ensures.ok in
    let same : c.from_residual-in_err-exempting.result ≡ Err c.in_err-exempting.field-0.0 = search rules in
    blamed (BlamesExempting rows (map exception_row c.deref-4.result.now)) (IsRefusedDraft rows d) c.from_residual-in_err-exempting.result c.in_err-exempting.field-0.0 same c.in_err-exempting.ensures.err
    (λ f b. in_exceptions (record { flags = known; allowed = allow; denied = deny }) ranges (subst (λ (es : List ExceptionDraft). BlamesExempting rows (map exception_row es) f) c.deref-4.ensures.value b))

pub returns-in_err-clarified-clause-err : goal.returns-in_err-clarified-clause-err
returns-in_err-clarified-clause-err c =
    let rows = c.args.catalogue.now in
    let d = draft_rows c.args.draft in
    let known : unknown_flag rows d ≡ None = sym c.unknown_flag.ensures ∙ c.in_default.is in
    let allow = entries_there rows _ c.deref.result.now c.args.draft.allow.items _ c.deref.ensures.value c.in_ok-allow.ensures.ok in
    let deny = entries_there rows _ c.deref-2.result.now c.args.draft.deny.items _ c.deref-2.ensures.value c.in_ok-deny.ensures.ok in
    let ranges = ranges_there c.deref-3.result.now c.args.draft.exceptions.items _ c.deref-3.ensures.value c.in_ok-exempted.ensures.ok in
    let names = names_there rows _ c.deref-4.result.now c.args.draft.exceptions.items _ c.deref-4.ensures.value c.in_ok-exempting.ensures.ok in
    let same : c.from_residual-in_err-clarified.result ≡ Err c.in_err-clarified.field-0.0 = search rules in
    blamed (BlamesClarified (map clarify_row c.deref-5.result.now)) (IsRefusedDraft rows d) c.from_residual-in_err-clarified.result c.in_err-clarified.field-0.0 same c.in_err-clarified.ensures.err
    (λ f b. in_clarifications (record { flags = known; allowed = allow; denied = deny }) ranges names (subst (λ (es : List ClarifyDraft). BlamesClarified (map clarify_row es) f) c.deref-5.ensures.value b))

pub returns-clause-ok : goal.returns-clause-ok
returns-clause-ok c =
    let known : unknown_flag c.args.catalogue.now (draft_rows c.args.draft) ≡ None = sym c.unknown_flag.ensures ∙ c.in_default.is in
    record {
      list = search rules;
      replacements = search rules;
      flags_known = known;
      lax = search rules;
      unstated = search rules;
      allow = search rules;
      allow_if = search rules;
      deny = search rules;
      deny_if = search rules;
      exempted = search rules;
      exempting = search rules;
      reasons = search rules;
      clarified = search rules;
      expressions = search rules;
    }

pub returns-in-Some-clause-err : goal.returns-in-Some-clause-err
returns-in-Some-clause-err c = by_list c.in-Some.place (sym c.unknown_flag.ensures ∙ c.in-Some.is)
