use Rattle.spdx_catalogue.proofs.Ordered.{licenses_by_name}
use Rattle.spdx_catalogue.proofs.order.compare_license_ids.Goals as goal

pub returns-clause-names : goal.returns-clause-names
returns-clause-names c = licenses_by_name _ _ _ c.cmp.ensures
