use Rattle.std.proofs.Common.{◌<◌, ◌+◌, sym, ap, ◌∙◌, refl, Bor, List, ℕ, length, map, drop, string_bytes, arith}
use Rattle.check_sources.specs.Owed.{after, name_of, unused_at, whole_of}
use Rattle.check_sources.proofs.Unused.{is_called, is_other, next_files, told_more, told_same, whole_put}
use Rattle.check_sources.proofs.owed.unused_in.Goals.{then-is_some+in_ok-unused_text+in_ok-push, else-is_some}
use Rattle.check_sources.proofs.owed.unused_in.Goals as goal

pub loop-file-preserved : goal.loop-file-preserved
loop-file-preserved c =
    let all = c.args.files.now in
    let i = c.loop-file.file-index in
    let lt : i < length all = omega arith in
    let path = string_bytes c.file-item.result in
    let paths = map string_bytes (drop (i + 1) all) in
    let rest = map (λ (t : Bor (List ℕ)). t.now) c.loop-file.rest.now in
    let next = map (λ (t : Bor (List ℕ)). t.now) c.unwrap_or-rest.result.now in
    let files = map string_bytes (drop i all) in
    let more = next_files all i c.file-item.result c.file-item.is lt in
    let found = c.after-others.ensures ∙ ap (after rest) (c.name_of.ensures ∙ ap name_of c.as_str-path.ensures.value) in
    elim c.if-is_some.branch [
      | then-is_some+in_ok-unused_text+in_ok-push w ↦
          rw w.wholes-is (told_more _ (map whole_of c.loop-file.wholes.items) _ rest next files paths path more c.loop-file.invariant
          (is_called rest path paths c.after-others.result _ c.unwrap_or-rest.result found (sym c.is_some.ensures ∙ w.if-is_some.true) c.unwrap_or-rest.ensures)
          (whole_put c.loop-file.wholes.items _ _ path w.in_ok-push.ensures.items (w.in_ok-unused_text.ensures ∙ ap unused_at c.as_str-path.ensures.value)))
      | else-is_some w ↦
          rw w.wholes-is (told_same _ (map whole_of c.loop-file.wholes.items) rest next files paths path more c.loop-file.invariant
          (is_other rest path paths c.after-others.result _ c.unwrap_or-rest.result found (sym c.is_some.ensures ∙ w.if-is_some.false) c.unwrap_or-rest.ensures refl))
    ]
