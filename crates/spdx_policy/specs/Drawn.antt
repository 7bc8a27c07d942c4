-- What drafts show.
use Rattle.std.specs.Prelude.{option_map, map, string_bytes}
use Rattle.spdx_policy.specs.declared.reading.draft.ExceptionDraft.{ExceptionDraft}
use Rattle.spdx_policy.specs.declared.reading.draft.ClarifyDraft.{ClarifyDraft}
use Rattle.spdx_policy.specs.declared.reading.draft.Draft.{Draft}
use Rattle.spdx_policy.specs.Drafts.{ExceptionRow, ClarifyRow, DraftRows}

abbrev pub exception_row : ExceptionDraft → ExceptionRow
exception_row e =
    record {
      name = string_bytes e.name;
      versions = option_map string_bytes e.versions;
      allow = map string_bytes e.allow.items;
      reason = option_map string_bytes e.reason;
    }

abbrev pub clarify_row : ClarifyDraft → ClarifyRow
clarify_row c =
    record {
      name = string_bytes c.name;
      versions = option_map string_bytes c.versions;
      expression = string_bytes c.expression;
    }

abbrev pub draft_rows : Draft → DraftRows
draft_rows d = record {
  lax = d.lax;
  unstated = d.unstated;
  allow = map string_bytes d.allow.items;
  allow_if = d.allow_if.items;
  deny = map string_bytes d.deny.items;
  deny_if = d.deny_if.items;
  exceptions = map exception_row d.exceptions.items;
  clarifications = map clarify_row d.clarifications.items;
}
