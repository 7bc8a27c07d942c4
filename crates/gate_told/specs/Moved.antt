-- What is told, as if all its texts lay in one place: so it doesn't matter where they lie.
use Rattle.std.specs.Prelude.{ℕ, List, map}
use Rattle.std.specs.Borrow.{Bor}
use Rattle.gate_forms.specs.declared.reports.Advice.{Advice}
use Rattle.gate_forms.specs.declared.reports.Advice.TheVariants as advice
use Rattle.gate_forms.specs.declared.reports.Leaf.{Leaf}
use Rattle.gate_forms.specs.declared.reports.Node.{Node}
use Rattle.gate_forms.specs.declared.reports.Part.{Part}
use Rattle.gate_forms.specs.declared.reports.Part.TheVariants as part
use Rattle.gate_forms.specs.declared.reports.Why.{Why}
use Rattle.gate_forms.specs.declared.reports.Why.TheVariants as why
use Rattle.gate_told.specs.Borrowed.{borrowed}

abbrev pub moved : Leaf → Leaf
moved x =
    record {
      text = borrowed x.text.now;
      start = x.start;
      end = x.end;
      mark = x.mark;
      by = borrowed x.by.now;
    }

abbrev pub moved_part : Part → Part
moved_part (part.License x) = part.License (moved x)
moved_part (part.And accepted) = part.And accepted
moved_part (part.Or accepted) = part.Or accepted

abbrev pub moved_node : Node → Node
moved_node n = record { depth = n.depth; part = moved_part n.part }

abbrev pub moved_text : Bor (List ℕ) → Bor (List ℕ)
moved_text x = borrowed x.now

abbrev pub moved_advice : Advice → Advice
moved_advice advice.Unmet = advice.Unmet
moved_advice (advice.Allow names) = advice.Allow (borrowed (map moved_text names.now))
moved_advice (advice.NotSought n) = advice.NotSought n

abbrev pub moved_why : Why → Why
moved_why why.Nothing = why.Nothing
moved_why (why.Fault reason start end) = why.Fault (moved_text reason) start end
moved_why (why.Missing xs a) = why.Missing (borrowed (map moved xs.now)) (moved_advice a)
