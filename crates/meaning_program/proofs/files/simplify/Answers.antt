use Rattle.std.proofs.Common.{map}
use Rattle.meaning_program.specs.Files.{path_in}
use Rattle.meaning_program.proofs.Ends.{each_meant}
use Rattle.meaning_program.proofs.files.simplify.Goals as goal

pub returns-clause-passes : goal.returns-clause-passes
returns-clause-passes g c low = record {
  catalogue = c.in_ok-catalogue.catalogue;
  list_is = c.in_ok-catalogue.ensures.ok;
  each = each_meant (g.S.Shelf.told c.args.shelf.now) c.in_ok-catalogue.catalogue c.args.request.is_lax (map path_in c.args.request.paths.now) (record { files = c.in_ok-files.files }) c.in_ok-files.ensures low;
}
