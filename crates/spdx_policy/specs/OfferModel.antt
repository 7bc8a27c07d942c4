-- What an offer shows.
use Rattle.spdx_policy.specs.declared.offer.Offer.TheInside.{Inside}
use Rattle.spdx_policy.specs.Named.{named_row}
use Rattle.spdx_policy.specs.Rules.{NamedRow}

-- it shows its entry
abbrev pub offer_shown : Inside → NamedRow
offer_shown o = named_row o.named
