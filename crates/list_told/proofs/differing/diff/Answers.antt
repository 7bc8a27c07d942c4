use Rattle.std.proofs.lemmas.Result.{IfErr-weaker, IfOk-weaker}
use Rattle.list_program.specs.Named.{inside_of}
use Rattle.list_told.proofs.Lines.{each_row, no_replacements, tells_same}
use Rattle.list_told.proofs.differing.diff.Goals as goal

pub returns-clause-err : goal.returns-clause-err
returns-clause-err g c =
    IfErr-weaker c.diff_by.result _ _
    (λ t why. no_replacements (g.S.Shelf.told c.args.shelf.now) (inside_of c.args.inside.list.now c.args.inside.extras.now) c.args.replacements.now c.args.lists
    c.in_ok-old.old c.in_ok-new.new t c.in_ok-old.ensures.ok c.in_ok-new.ensures.ok why)
    c.diff_by.ensures.err

pub returns-clause-each : goal.returns-clause-each
returns-clause-each g c =
    IfOk-weaker c.diff_by.result _ _
    (λ text is. each_row (g.S.Shelf.told c.args.shelf.now) (inside_of c.args.inside.list.now c.args.inside.extras.now) c.args.replacements.now c.args.lists text.items
    (record {
      old = c.in_ok-old.old;
      new = c.in_ok-new.new;
      lists = record { old_is = c.in_ok-old.ensures.ok; new_is = c.in_ok-new.ensures.ok };
      diff_is = is;
    }))
    c.diff_by.ensures.ok

pub returns-clause-same : goal.returns-clause-same
returns-clause-same g c =
    IfOk-weaker c.diff_by.result _ _
    (λ text is. record {
      old = c.in_ok-old.old;
      new = c.in_ok-new.new;
      lists = record { old_is = c.in_ok-old.ensures.ok; new_is = c.in_ok-new.ensures.ok };
      same = tells_same c.in_ok-old.old c.in_ok-new.new is.0 text.items c.is_well_formed.ensures is.2;
    })
    c.diff_by.ensures.ok

pub returns-clause-ok : goal.returns-clause-ok
returns-clause-ok g c =
    IfOk-weaker c.diff_by.result _ _
    (λ text is. record {
      old = c.in_ok-old.old;
      new = c.in_ok-new.new;
      lists = record { old_is = c.in_ok-old.ensures.ok; new_is = c.in_ok-new.ensures.ok };
      diff_is = is;
    })
    c.diff_by.ensures.ok
