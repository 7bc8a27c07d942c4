use Rattle.std.proofs.Common.{option_map, string_bytes}
use Rattle.spdx_list.specs.Diff.{nows}
use Rattle.list_told.proofs.Listing.{tells_listed}
use Rattle.list_told.proofs.shown.show.Goals as goal

pub returns-clause-listed : goal.returns-clause-listed
returns-clause-listed g c = record {
  catalogue = c.in_ok-catalogue.catalogue;
  list_is = c.in_ok-catalogue.ensures.ok;
  listed = tells_listed c.in_ok-catalogue.catalogue (option_map string_bytes c.in_ok-day.day) c.args.replacements.now (nows c.args.asked.names.now) c.in_ok-shown.shown c.in_ok-shown.ensures.ok;
}
