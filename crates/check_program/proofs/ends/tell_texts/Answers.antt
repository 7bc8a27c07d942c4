use Rattle.std.proofs.Common.{ap, map, string_bytes}
use Rattle.std.specs.Option.{option_copied}
use Rattle.check_files.specs.Tally.{tally_of}
use Rattle.check_program.proofs.Ending.{no_texts}
use Rattle.check_program.proofs.ends.tell_texts.Goals as goal

pub returns-in-None-clause-ok : goal.returns-in-None-clause-ok
returns-in-None-clause-ok g c =
    no_texts (g.S.Shelf.told c.args.shelf.now) c.args.check.now (option_copied c.args.folder) (map string_bytes c.args.used.now) (g.O.Sink.told c.args.output.now) (g.T.Telling.told c.args.teller.now)
    (tally_of c.args.sums.now) (ap option_copied c.in-None.is)
