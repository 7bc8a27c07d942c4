-- What is written in place of a name isn't the name itself, unless the extras say so.
use Rattle.std.proofs.Common.{◌≡◌, ℕ, List, [], inl, inr, ap, sym, subst, ◌∙◌}
use Rattle.std.specs.Prelude.{Option, None, Some, String, option_map, string_bytes}
use Rattle.std.specs.Option.{IfSome}
use Rattle.std.specs.declared.alloc.Global.{Global}
use Rattle.spdx_requirement.specs.Rows.{Rows}
use Rattle.spdx_lexer.specs.Modes.{strict}
use Rattle.spdx_canonical.specs.Fix.{IsFixOf, Reads}
use Rattle.spdx_list.specs.Files.{ExtraRows}
use Rattle.list_told.specs.Replacements.{IsReplacementOf, Succeeds, fix_or_said}

abbrev inner : Option (List ℕ) → List ℕ
inner None = []
inner (Some text) = text

succeeds : (c : Rows) (x : ExtraRows) (name replacement : List ℕ) (fix : Option (List ℕ))
    → IsFixOf c name fix → Some replacement ≡ fix_or_said fix x name → Succeeds c x name replacement
succeeds c x name replacement (Some fix) is e =
    let read : Reads c strict replacement = subst (Reads c strict) (sym (ap inner e)) is.mended in
    inl (read, λ same. is.refused (subst (Reads c strict) same read))
succeeds c x name replacement None none e = inr (none, sym e)

pub if_some : (c : Rows) (x : ExtraRows) (name : List ℕ) (replacement : Option (String Global))
    → IsReplacementOf c x name (option_map string_bytes replacement) → IfSome replacement (λ other. Succeeds c x name (string_bytes other))
if_some c x name None is = tt
if_some c x name (Some other) is = succeeds c x name (string_bytes other) is.fix is.fix_is is.replacement_is
