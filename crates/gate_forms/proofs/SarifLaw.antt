-- The log of refused packages reads back: it has no number, and nests little.
use Rattle.std.proofs.Common.{◌≤◌, List, [], ◌∷◌, map, arith}
use Rattle.std.proofs.Common.{codes, ◌≡◌, ◌++◌, ◌∙◌, ap, append_assoc, refl}
use Rattle.json.specs.Token.{Token}
use Rattle.finding_forms.proofs.Tokens.{Wrote}
use Rattle.json.specs.Json.{Members, array, item, member, no_items, no_members}
use Rattle.json.specs.Tree.{depth, items_depth, members_tokens, members_depth, HasNumbers, ItemsHaveNumbers, MembersHaveNumbers}
use Rattle.foreign_text.specs.declared.sinks.Sink.TheVariants.{Message}
use Rattle.finding_forms.specs.SarifLog.{text_object}
use Rattle.gate_forms.specs.Report.{message_text}
use Rattle.gate_forms.specs.declared.reports.Baseline.{Baseline}
use Rattle.gate_forms.specs.declared.reports.Baseline.TheVariants.{Absent, New, Known}
use Rattle.finding_forms.specs.SarifLog.{items_of}
use Rattle.finding_forms.proofs.SarifLogLaw as log
use Rattle.gate_forms.specs.declared.reports.Report.{Report}
use Rattle.gate_forms.specs.Sarif.{level_members, level_tokens, location, result_of, LogReadsBack}

level_numbers : (b : Baseline) (more : Members) → MembersHaveNumbers more → MembersHaveNumbers (level_members b more)
level_numbers Absent more h = (tt, h)
level_numbers New more h = (tt, (tt, h))
level_numbers Known more h = (tt, (tt, h))

result_numbers : (r : Report) → HasNumbers (result_of r)
result_numbers r = (tt, level_numbers r.baseline _ ((tt, tt), (((((tt, tt), tt), tt), tt), tt)))

results_numbers : (rs : List Report) → ItemsHaveNumbers (items_of (map result_of rs))
results_numbers [] = tt
results_numbers (r ∷ rs) = (result_numbers r, results_numbers rs)

-- the members of the level are its tokens
pub level_are : (b : Baseline) (more : Members) → members_tokens (level_members b more) ≡ level_tokens b ++ members_tokens more
level_are Absent more = refl
level_are New more = refl
level_are Known more = refl

-- what was written before the level, the level, and what was written behind it
pub spliced : {old before level now ps rs : List Token} → (ls : List Token) → Wrote old before ps → level ≡ before ++ ls → Wrote level now rs → now ≡ old ++ (ps ++ (ls ++ rs))
spliced {old = old} {ps = ps} {rs = rs} ls a b c =
    c.is ∙ ap (λ (ts : List Token). ts ++ rs) (b ∙ ap (λ (ts : List Token). ts ++ ls) a.is) ∙ append_assoc (old ++ ps) ls rs ∙ append_assoc old ps (ls ++ rs)

level_depth : (b : Baseline) (more : Members) → members_depth more ≤ 12 → members_depth (level_members b more) ≤ 12
level_depth Absent more h = omega (arith, h)
level_depth New more h = omega (arith, h)
level_depth Known more h = omega (arith, h)

abbrev pub rest_of : Report → Members
rest_of r =
    member (codes "message") (text_object (message_text Message r)) (member (codes "locations") (array (item (location r) no_items)) no_members)

rest_depth : (r : Report) → members_depth (rest_of r) ≤ 12
rest_depth r = omega arith

result_depth : (r : Report) → depth (result_of r) ≤ 13
result_depth r = omega (arith, level_depth r.baseline (rest_of r) (rest_depth r))

results_depth : (rs : List Report) → items_depth (items_of (map result_of rs)) ≤ 13
results_depth [] = omega arith
results_depth (r ∷ rs) = omega (arith, result_depth r, results_depth rs)

pub log_reads_back : LogReadsBack
log_reads_back version rs = log.log_reads_back version (map result_of rs) (results_numbers rs) (results_depth rs)
