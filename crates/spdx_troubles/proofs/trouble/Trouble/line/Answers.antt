use Rattle.std.proofs.Common.{rules, ◌++◌, codes}
use Rattle.package_items.specs.Faults.{shown}
use Rattle.spdx_troubles.proofs.Shown.{named_safe}
use Rattle.spdx_troubles.proofs.trouble.Trouble.line.Goals as goal

pub returns-clause-one : goal.returns-clause-one
returns-clause-one c =
    let told = shown c.as_str-2.result.now in record {
      front = codes "spdx: " ++ told;
      ends = search rules;
      is_shown = named_safe told c.put_shown.ensures.safe;
    }
