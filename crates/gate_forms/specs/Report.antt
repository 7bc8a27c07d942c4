-- A verdict, and what is said of it in words.
use Rattle.std.specs.Prelude.{ℕ, List, [], ◌∷◌, ◌++◌, Bool, true, false, Option, None, Some, codes, decimal, flat_map, if◌then◌else◌}
use Rattle.std.specs.Borrow.{Bor}
use Rattle.foreign_text.specs.declared.sinks.Sink.{Sink}
use Rattle.gate_forms.specs.declared.reports.Mark.{Mark}
use Rattle.gate_forms.specs.declared.reports.Mark.TheVariants.{Accepted, Denied, Open}
use Rattle.gate_forms.specs.declared.reports.Leaf.{Leaf}
use Rattle.gate_forms.specs.declared.reports.Part.{Part}
use Rattle.gate_forms.specs.declared.reports.Part.TheVariants.{License, And, Or}
use Rattle.gate_forms.specs.declared.reports.Advice.{Advice}
use Rattle.gate_forms.specs.declared.reports.Advice.TheVariants.{Unmet, Allow, NotSought}
use Rattle.gate_forms.specs.declared.reports.Verdict.{Verdict}
use Rattle.gate_forms.specs.declared.reports.Verdict.TheVariants.{Allowed, ByException, Refused, Unstated}
use Rattle.gate_forms.specs.declared.reports.Why.{Why}
use Rattle.gate_forms.specs.declared.reports.Why.TheVariants.{Nothing, Fault, Missing}
use Rattle.gate_forms.specs.declared.reports.Report.{Report}
use Rattle.foreign_text.specs.Written.{text_for}

abbrev pub is_refused : Verdict → Bool
is_refused Allowed = false
is_refused ByException = false
is_refused Refused = true
is_refused (Unstated allowed) = if allowed then false else true

abbrev pub is_accepted : Mark → Bool
is_accepted Accepted = true
is_accepted Denied = false
is_accepted Open = false

abbrev pub is_part_accepted : Part → Bool
is_part_accepted (License leaf) = is_accepted leaf.mark
is_part_accepted (And accepted) = accepted
is_part_accepted (Or accepted) = accepted

-- ---- lists

-- commas between what is written of each
abbrev pub separated : {X : Type 0} → (X → List ℕ) → List X → List ℕ
separated f [] = []
separated f (x ∷ xs) = f x ++ flat_map (λ y. codes ", " ++ f y) xs

-- ---- words

abbrev pub version_text : Sink → Option (Bor (List ℕ)) → List ℕ
version_text how None = []
version_text how (Some version) = 32 ∷ text_for how version.now

-- the name and the version of the package
abbrev pub package_text : Sink → Report → List ℕ
package_text how r = text_for how r.name.now ++ version_text how r.version

abbrev pub verdict_by : Sink → List ℕ → Verdict → List ℕ
verdict_by how policy Allowed = codes "allowed by " ++ text_for how policy
verdict_by how policy ByException = codes "allowed by an exception of " ++ text_for how policy
verdict_by how policy Refused = codes "refused by " ++ text_for how policy
verdict_by how policy (Unstated allowed) = codes "without a licence"

abbrev pub verdict_text : Sink → Report → List ℕ
verdict_text how r = verdict_by how r.policy.now r.verdict

abbrev pub by_text : Sink → List ℕ → List ℕ
by_text how [] = []
by_text how (b ∷ bs) = codes " by " ++ text_for how (b ∷ bs)

-- what the policy says of a requirement, and which entry said it
abbrev pub decided_text : Sink → Mark → List ℕ → List ℕ
decided_text how Accepted by = codes "allowed" ++ by_text how by
decided_text how Denied by = codes "denied" ++ by_text how by
decided_text how Open by = codes "not allowed"

abbrev pub leaf_decided : Sink → Leaf → List ℕ
leaf_decided how leaf = decided_text how leaf.mark leaf.by.now

abbrev pub leaf_text : Sink → Leaf → List ℕ
leaf_text how leaf = text_for how leaf.text.now ++ (32 ∷ leaf_decided how leaf)

abbrev pub name_text : Sink → Bor (List ℕ) → List ℕ
name_text how name = text_for how name.now

abbrev pub not_sought_text : ℕ → List ℕ
not_sought_text entries =
    codes "what makes it pass was not sought among " ++ (decimal entries ++ codes " entries")

abbrev pub advice_text : Sink → Advice → List ℕ
advice_text how Unmet = codes "nothing that may be allowed makes it pass"
advice_text how (Allow names) = codes "to pass, also allow: " ++ separated (name_text how) names.now
advice_text how (NotSought entries) = not_sought_text entries

-- behind the verdict, why
abbrev pub why_text : Sink → Why → List ℕ
why_text how Nothing = []
why_text how (Fault reason start end) = codes ": " ++ text_for how reason.now
why_text how (Missing leaves advice) =
    codes ": " ++ (separated (leaf_text how) leaves.now ++ (codes "; " ++ advice_text how advice))

-- the package, the verdict and why
abbrev pub message_text : Sink → Report → List ℕ
message_text how r =
    package_text how r ++ (codes ": " ++ (verdict_text how r ++ why_text how r.why))

-- the operator, or the requirement and what decided it
abbrev pub part_text : Sink → Part → List ℕ
part_text how (License leaf) = text_for how leaf.text.now ++ (codes ": " ++ leaf_decided how leaf)
part_text how (And accepted) = codes "AND"
part_text how (Or accepted) = codes "OR"
