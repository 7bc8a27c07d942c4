use Rattle.spdx_catalogue.proofs.Ordered.{exceptions_by_name}
use Rattle.spdx_catalogue.proofs.order.compare_exception_ids.Goals as goal

pub returns-clause-names : goal.returns-clause-names
returns-clause-names c = exceptions_by_name _ _ _ c.cmp.ensures
