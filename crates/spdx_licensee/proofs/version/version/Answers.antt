use Rattle.std.proofs.Common.{◌≡◌, rules}
use Rattle.std.proofs.lemmas.Iterator.Splits.{YieldsList-from_slice_split}
use Rattle.std.proofs.lemmas.Iterator.Search.{find_from_yields_List}
use Rattle.std.specs.Option.{option_copied}
use Rattle.spdx_requirement.specs.Versions as spec
use Rattle.spdx_licensee.proofs.Marks.{is_hyphen}
use Rattle.spdx_licensee.proofs.Pieces.{version_passes}
use Rattle.spdx_licensee.proofs.version.version.Goals as goal

pub returns : goal.returns
returns c =
    let found : option_copied c.find.result ≡ spec.version c.args.name.now = find_from_yields_List spec.is_version _ _ _ c.find.ensures.ran
    (YieldsList-from_slice_split _ is_hyphen c.args.name.now c.split.ensures.rest c.split.ensures.done c.split.ensures.closure (λ x b q k. search rules))
    (λ x b q k. search rules) in
    record { first = found; version = version_passes c.args.name.now c.find.result found }
