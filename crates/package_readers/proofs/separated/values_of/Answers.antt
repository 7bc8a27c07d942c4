use Rattle.std.proofs.Common.{sym, refl, Bor, List, ℕ, ◌∷◌, []}
use Rattle.std.proofs.lemmas.List.{map-append}
use Rattle.csv.specs.Records.{fields_of}
use Rattle.package_readers.proofs.Tables.{none_past, one_more}
use Rattle.package_readers.proofs.separated.values_of.Goals as goal
use Rattle.package_readers.proofs.separated.values_of.Goals.{in-Some+in_ok-push, in_default}

pub loop-index-preserved : goal.loop-index-preserved
loop-index-preserved c =
    elim c.match-get.branch [
      | in-Some+in_ok-push w ↦
          let at = sym (rw w.in-Some.is at c.get.ensures.value) in
          let items = map-append (λ (x : Bor (List ℕ)). x.now) c.loop-index.values.items (w.in-Some.value ∷ []) in
          rw (w.values-is, w.in_ok-push.ensures.items, items, c.loop-index.invariant, one_more (fields_of c.args.row.now) c.loop-index.index w.in-Some.value.now at) refl
      | in_default w ↦ absurd (none_past (fields_of c.args.row.now) c.loop-index.index (rw c.len-index-end.ensures at c.loop-index-test.true) (sym w.in_default.ensures.value))
    ]
