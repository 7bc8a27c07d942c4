-- What the code knows of expressions, borrows aside.
use Rattle.std.specs.Prelude.{string_bytes}
use Rattle.finding_forms.specs.Finding.{Aid, nothing, write, names, note}
use Rattle.spdx_hints.specs.Borrowed.{nows}
use Rattle.spdx_check.specs.declared.refusals.Refusal.{Refusal}
use Rattle.spdx_check.specs.declared.refusals.Remedy.{Remedy}
use Rattle.spdx_check.specs.declared.refusals.Remedy.TheVariants.{Nothing, Write, Names, Note}
use Rattle.spdx_check.specs.Finding.{Wrong}

abbrev pub aid_in : Remedy → Aid
aid_in Nothing = nothing
aid_in (Write mended) = write (string_bytes mended)
aid_in (Names listed rule) = names (nows listed.items) rule.now
aid_in (Note words) = note (string_bytes words)

abbrev pub wrong_of : Refusal → Wrong
wrong_of r = record {
  shown = string_bytes r.shown;
  place = record { from = r.start; to = r.end };
  reason = string_bytes r.reason;
  aid = aid_in r.remedy;
}
