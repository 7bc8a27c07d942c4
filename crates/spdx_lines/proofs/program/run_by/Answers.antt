use Rattle.std.proofs.Common.{Ok, Err, ap, subst, sym, ◌∙◌}
use Rattle.line_engine.specs.Device.{devices}
use Rattle.spdx_lines.specs.Program.{planned, plan_of}
use Rattle.spdx_lines.specs.Found.{found}
use Rattle.spdx_lines.specs.Ending.{EndsBy, refused}
use Rattle.spdx_lines.proofs.Ends.{still_moved, memory_wanted, plan_is, words_behind, no_words, no_task, no_catalogue, two_words}
use Rattle.spdx_lines.proofs.program.run_by.Goals as goal

pub returns-in_default : goal.returns-in_default
returns-in_default g c = refused (no_words _ _ c.in_default.not-Some) (still_moved (g.I.Source.told c.args.input.now) (g.O.Sink.told c.args.output.now))

pub returns-in_default-task_of : goal.returns-in_default-task_of
returns-in_default-task_of g c =
    refused (no_task _ c.args.catalogue c.in-Some.words c.task_of.result c.in-Some.is (sym c.task_of.ensures) c.in_default-task_of.not-Some)
    (still_moved (g.I.Source.told c.args.input.now) (g.O.Sink.told c.args.output.now))

pub returns-in_default-catalogue : goal.returns-in_default-catalogue
returns-in_default-catalogue g c =
    refused (no_catalogue _ _ c.in-Some.words c.in-Some-task_of.task c.in-Some.is (sym c.task_of.ensures ∙ c.in-Some-task_of.is) c.in_default-catalogue.not-Some)
    (still_moved (g.I.Source.told c.args.input.now) (g.O.Sink.told c.args.output.now))

pub slice_bounds-run_with-count : goal.slice_bounds-run_with-count
slice_bounds-run_with-count g c = two_words _ c.in-Some-task_of.task (sym c.task_of.ensures ∙ c.in-Some-task_of.is)

pub slice_bounds-run_with-start : goal.slice_bounds-run_with-start
slice_bounds-run_with-start g c = two_words _ c.in-Some-task_of.task (sym c.task_of.ensures ∙ c.in-Some-task_of.is)

pub returns-in-Ok : goal.returns-in-Ok
returns-in-Ok g c =
    let rows = c.in-Ok.catalogue in
    let task = c.in-Some-task_of.task in
    let read = c.in-Ok.ensures.ok in
    let plan = plan_is c.args.words c.args.catalogue c.in-Some.words task c.in-Some-catalogue.bytes (Ok rows) c.in-Some.is (sym c.task_of.ensures ∙ c.in-Some-task_of.is) c.in-Some-catalogue.is read in
    let d = devices (g.I.Source.told c.args.input.now) (g.I.Source.told c.run_with.new.input) (g.O.Sink.told c.args.output.now) (g.O.Sink.told c.run_with.new.output) in
    subst (λ p. EndsBy p d c.run_with.result) (sym (plan ∙ ap (λ texts. planned found rows task texts) (words_behind c.in-Some.words.now))) c.run_with.ensures

pub returns-in-Err-Refused : goal.returns-in-Err-Refused
returns-in-Err-Refused g c =
    let read = rw c.in-Err-Refused.field-0-is at c.in-Err-Refused.ensures.err in
    rw c.in-Err-Refused.field-0-is
    (refused (plan_is c.args.words c.args.catalogue c.in-Some.words c.in-Some-task_of.task c.in-Some-catalogue.bytes (Err c.in-Err-Refused.fault) c.in-Some.is (sym c.task_of.ensures ∙ c.in-Some-task_of.is) c.in-Some-catalogue.is read) (still_moved (g.I.Source.told c.args.input.now) (g.O.Sink.told c.args.output.now)))

pub returns-in-Err-Memory : goal.returns-in-Err-Memory
returns-in-Err-Memory g c =
    memory_wanted (plan_of found c.args.words c.args.catalogue) (g.I.Source.told c.args.input.now) (g.O.Sink.told c.args.output.now) c.from.result c.from.ensures
