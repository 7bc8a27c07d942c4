use Rattle.std.proofs.Common.{◌≡◌, Bool, true, sym, subst}
use Rattle.std.specs.Prelude.{◌↔◌}
use Rattle.spdx_meaning.specs.Meaning.{IsEquivalent}
use Rattle.meaning_program.proofs.Telling.{same_exactly}
use Rattle.meaning_program.proofs.compared.compare.Goals as goal

pub returns-clause-same : goal.returns-clause-same
returns-clause-same g c =
    let k = c.in_ok-compared.ensures.ok in
    record {
      catalogue = c.in_ok-catalogue.catalogue;
      first = k.first;
      second = k.second;
      list_is = c.in_ok-catalogue.ensures.ok;
      first_is = k.first_is;
      second_is = k.second_is;
      same = subst (λ (b : Bool). (b ≡ true) ↔ IsEquivalent k.first k.second) (sym k.told_is.same_is)
          (same_exactly k.first k.second k.told_is.comparison.relation k.told_is.compares.relation_is);
    }
