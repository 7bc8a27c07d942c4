-- Judgements with the texts that are told of them. Only private clauses cite it.
use Rattle.std.specs.Prelude.{◌≡◌, map, string_bytes}
use Rattle.spdx_requirement.specs.Rows.{Rows}
use Rattle.spdx_policy.specs.Rules.{Rules}
use Rattle.spdx_gate.specs.declared.judgement.Judgement.{Judgement}
use Rattle.gate_told.specs.declared.breakdowns.Breakdown.{Breakdown}
use Rattle.gate_told.specs.Texts.{IsShown, owned_leaf, leaves_in, telling_in}
use Rattle.gate_told.specs.Told.{telling_of}
use Rattle.gate_program.specs.declared.tellings.TextsOf.{TextsOf}

abbrev pub judgement_in : TextsOf → Judgement
judgement_in s = s.judgement.now

-- the texts are those of the judgement
abbrev pub IsShownIn : Rows → Rules → TextsOf → Type 0
IsShownIn c p s = IsShown c p s.judgement.now s.shown

-- the breakdown is of the judgement with these texts, where they are its own
abbrev pub IsBreakdownOf : TextsOf → Breakdown → Type 0
IsBreakdownOf s d =
    (p : Rules) →
    map owned_leaf s.shown.requirements.items ≡ leaves_in p s.judgement.now.outcome →
    telling_in d ≡ telling_of p (string_bytes s.shown.reason) s.judgement.now
