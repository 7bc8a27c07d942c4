use Rattle.std.proofs.Common.{◌∙◌, sym, subst, Bool, List, String, is_some, map, string_bytes}
use Rattle.std.specs.declared.alloc.Global.{Global}
use Rattle.std.specs.Option.{option_copied}
use Rattle.source_trees.specs.Readings.{is_all}
use Rattle.check_files.specs.Noted.{notes_of}
use Rattle.check_files.specs.Tally.{tally_of}
use Rattle.check_files.proofs.Steps.{on_ok}
use Rattle.check_files.specs.Told.{Does, Writes}
use Rattle.check_program.specs.Ends.{IsBareStep, IsTextsStep}
use Rattle.check_program.proofs.Ending.{all_ended, left_alone}
use Rattle.line_engine.proofs.Known.{OnErr-always}
use Rattle.check_files.proofs.Begun.{on_err}
use Rattle.check_program.specs.TreeBegun.{IsBareBegun, IsTextsStepBegun}
use Rattle.check_program.proofs.TreeBegun.{end_in_bare, end_in_left, end_in_texts}
use Rattle.check_program.proofs.ends.end_folder.Goals as goal

pub returns-then-not-is_all-clause-ok : goal.returns-then-not-is_all-clause-ok
returns-then-not-is_all-clause-ok g c =
    left_alone (is_all c.args.below.taken) (g.S.Shelf.told c.args.shelf.now) c.args.check.now c.args.is_told (option_copied c.args.below.folder) (notes_of c.args.noted) (g.O.Sink.told c.args.output.now)
    (g.T.Telling.told c.args.teller.now) (g.T.Telling.told c.tell_left.new.teller) (tally_of c.args.sums.now) (sym c.is_all.ensures ∙ c.if-not-is_all.true) c.in_ok-tell_left.ensures.all

pub returns-clause-ok : goal.returns-clause-ok
returns-clause-ok g c =
    let s = g.S.Shelf.told c.args.shelf.now in
    let check = c.args.check.now in
    let noted = notes_of c.args.noted in
    let a = g.O.Sink.told c.args.output.now in
    let b = g.O.Sink.told c.tell_texts.new.output in
    let d = g.O.Sink.told c.tell_bare.new.output in
    let k = g.T.Telling.told c.tell_left.new.teller in
    let l = g.T.Telling.told c.tell_texts.new.teller in
    let old = tally_of c.args.sums.now in
    let between = tally_of c.tell_texts.new.sums in
    let new = tally_of c.tell_bare.new.sums in
    let folder = option_copied c.args.below.folder in
    let texts =
    subst (λ (u : List (String Global)). Does a b k l (λ text told. IsTextsStep s check folder (map string_bytes u) old text told between)) c.deref.ensures.value c.in_ok-tell_texts.ensures.ok in
    on_ok c.tell_bare.result _ _
    (λ w.
    all_ended (is_all c.args.below.taken) s check c.args.is_told folder noted a b d (g.T.Telling.told c.args.teller.now) k l old between new (sym c.is_all.ensures ∙ c.if-not-is_all.false)
    c.in_ok-tell_left.ensures.all texts
    (subst (λ (u : List (String Global)). Writes b d (λ text. IsBareStep c.args.is_told check (is_some folder) (map string_bytes u) between text new)) c.deref-2.ensures.value
    (subst (λ (has : Bool). Writes b d (λ text. IsBareStep c.args.is_told check has (map string_bytes c.deref-2.result.now) between text new)) c.is_there.ensures w)))
    c.tell_bare.ensures.ok

pub returns-in_err-tell_left-clause-begun : goal.returns-in_err-tell_left-clause-begun
returns-in_err-tell_left-clause-begun g c =
    OnErr-always c.from_residual.result _
    (end_in_left (is_all c.args.below.taken) (g.S.Shelf.told c.args.shelf.now) c.args.check.now c.args.is_told (option_copied c.args.below.folder) (notes_of c.args.noted) (tally_of c.args.sums.now)
    (g.O.Sink.told c.args.output.now) (g.T.Telling.told c.args.teller.now) (g.T.Telling.told c.tell_left.new.teller) c.in_err-tell_left.ensures.begun)

pub returns-in_err-tell_texts-clause-begun : goal.returns-in_err-tell_texts-clause-begun
returns-in_err-tell_texts-clause-begun g c =
    let s = g.S.Shelf.told c.args.shelf.now in
    let check = c.args.check.now in
    let a = g.O.Sink.told c.args.output.now in
    let b = g.O.Sink.told c.tell_texts.new.output in
    let k = g.T.Telling.told c.tell_left.new.teller in
    let l = g.T.Telling.told c.tell_texts.new.teller in
    let old = tally_of c.args.sums.now in
    let folder = option_copied c.args.below.folder in
    OnErr-always c.from_residual-in_err-tell_texts.result _
    (end_in_texts (is_all c.args.below.taken) s check c.args.is_told folder (notes_of c.args.noted) old (sym c.is_all.ensures ∙ c.if-not-is_all.false) a b (g.T.Telling.told c.args.teller.now) k l
    c.in_ok-tell_left.ensures.all
    (subst (λ (u : List (String Global)). Does a b k l (λ text told. IsTextsStepBegun s check folder (map string_bytes u) old text told)) c.deref.ensures.value c.in_err-tell_texts.ensures.begun))

pub returns-clause-begun : goal.returns-clause-begun
returns-clause-begun g c =
    let s = g.S.Shelf.told c.args.shelf.now in
    let check = c.args.check.now in
    let a = g.O.Sink.told c.args.output.now in
    let b = g.O.Sink.told c.tell_texts.new.output in
    let d = g.O.Sink.told c.tell_bare.new.output in
    let k = g.T.Telling.told c.tell_left.new.teller in
    let l = g.T.Telling.told c.tell_texts.new.teller in
    let old = tally_of c.args.sums.now in
    let between = tally_of c.tell_texts.new.sums in
    let folder = option_copied c.args.below.folder in
    let texts =
    subst (λ (u : List (String Global)). Does a b k l (λ text told. IsTextsStep s check folder (map string_bytes u) old text told between)) c.deref.ensures.value c.in_ok-tell_texts.ensures.ok in
    on_err c.tell_bare.result _ _
    (λ w.
    end_in_bare (is_all c.args.below.taken) s check c.args.is_told folder (notes_of c.args.noted) old (sym c.is_all.ensures ∙ c.if-not-is_all.false) a b (g.T.Telling.told c.args.teller.now) k l
    c.in_ok-tell_left.ensures.all d between texts
    (subst (λ (u : List (String Global)). Writes b d (IsBareBegun c.args.is_told check (map string_bytes u) between)) c.deref-2.ensures.value w))
    c.tell_bare.ensures.begun
