use Rattle.spdx_meaning.proofs.Meaning.{both_ask, equivalent_asks}
use Rattle.spdx_meaning.proofs.laws.asking_is_an_order.Goals as goal

pub returns-clause-itself : goal.returns-clause-itself
returns-clause-itself c = λ t h ok e. e

pub returns-clause-passed_on : goal.returns-clause-passed_on
returns-clause-passed_on c = λ t u v a b h ok e. b h ok (a h ok e)

pub returns-clause-both : goal.returns-clause-both
returns-clause-both c = λ t u. ((λ same. equivalent_asks t u same), (λ asks. both_ask t u asks.0 asks.1))
