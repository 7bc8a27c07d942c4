use Rattle.std.proofs.Common.{◌∙◌, sym}
use Rattle.package_commands.proofs.Ends.{none_named}
use Rattle.package_commands.proofs.shared.tell_names.Goals as goal

pub returns-then-is_empty : goal.returns-then-is_empty
returns-then-is_empty g c = none_named c.args.names.now (g.T.Listener.heard c.args.listener.now) (sym c.if-is_empty.true ∙ c.is_empty.ensures)
