use Rattle.test_rows.proofs.Numbers.{number_read, number_unread}
use Rattle.test_rows.proofs.short.number.Goals as goal

pub returns-in-Ok : goal.returns-in-Ok
returns-in-Ok c = record { value = number_read c.args.text.now c.in-Ok.number c.in-Ok.ensures.value.0 }

pub returns-in-Err : goal.returns-in-Err
returns-in-Err c = record { value = number_unread c.args.text.now c.in-Err.ensures.value.0 }
