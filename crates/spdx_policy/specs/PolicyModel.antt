-- What a policy shows.
use Rattle.std.specs.Prelude.{List, Vec, option_map, map, string_bytes}
use Rattle.std.specs.declared.alloc.Global.{Global}
use Rattle.spdx_policy.specs.declared.named.Named.{Named}
use Rattle.spdx_policy.specs.declared.policy.Policy.TheInside.{Inside}
use Rattle.spdx_policy.specs.Rules.{NamedRow, Rules}
use Rattle.spdx_policy.specs.Named.{named_row}

-- a list of entries
abbrev pub named_rows : Vec Named Global → List NamedRow
named_rows names = map named_row names.items

-- a policy shows its lists
abbrev pub rules_shown : Inside → Rules
rules_shown p = record {
  list = p.catalogue.now;
  replacements = p.replacements;
  lax = p.lax;
  unstated = p.unstated;
  allow = map named_row p.allow.items;
  allow_if = p.allow_if.items;
  deny = map named_row p.deny.items;
  deny_if = p.deny_if.items;
  exempted = p.exempted;
  exempting = map named_rows p.exempting.items;
  reasons = map (option_map string_bytes) p.reasons.items;
  clarified = p.clarified;
  expressions = map string_bytes p.expressions.items;
}
