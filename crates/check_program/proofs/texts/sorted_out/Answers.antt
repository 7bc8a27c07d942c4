use Rattle.std.proofs.Common.{map, string_bytes}
use Rattle.check_program.proofs.Sorting.{one_more_sorted}
use Rattle.check_program.proofs.texts.sorted_out.Goals as goal

pub loop-seen-preserved : goal.loop-seen-preserved
loop-seen-preserved c =
    one_more_sorted c.loop-seen.yielded c.in-Some.seen (map string_bytes c.loop-seen.texts.files.items) (map string_bytes c.add.new.texts.files.items) c.loop-seen.texts.troubles.items
    c.add.new.texts.troubles.items c.loop-seen.invariant c.in_ok-add.ensures.files c.in_ok-add.ensures.troubles
