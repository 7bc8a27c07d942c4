-- A `&` to the right to read borrows its share of the token, and so reaches the catalogue.
use denote.Param.Shared.{copy_shared}
use denote.Struct.Field.{RawPtr-field}
use denote.Struct.Laws.{RawPtr-copy}
use denote.Struct.Lending.{of_Lends, lent_at, lent_at_shr_laws}
use Rattle.spdx_catalogue.specs.contracts.catalogue.Catalogue.{the_row as T}
use Rattle.spdx_catalogue.proofs.catalogue.Catalogue.TheLaws.{the_row_laws as L}
use Rattle.spdx_c.specs.contracts.loan.Seen as C
use Rattle.spdx_c.proofs.loan.Seen.TheLaw.Statement.{statement}
use Rattle.spdx_c.proofs.Lending.{Lends-loan}

pub shares : statement
shares = of_Lends C.struct C.the_codes C.the_heap C.the_lent (λ d p. lent_at_shr_laws T L.shr_laws d.at d.rows) (copy_shared RawPtr-field RawPtr-copy, tt)
    (λ M 𝓤 𝓛 d p. Lends-loan 𝓛 (lent_at T d.at d.rows) (lent_at_shr_laws T L.shr_laws d.at d.rows) d.life C.the_row.lives)
