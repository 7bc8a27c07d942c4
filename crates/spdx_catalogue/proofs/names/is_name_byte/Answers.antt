-- The table is held against the definition at each of the 256 bytes, by computing.
use Rattle.std.proofs.Common.{◌≡◌, ℕ, ◌<◌, Bool, true, not, nat_eq, get_or, List, refl, arith}
use Rattle.std.proofs.lemmas.Bool.{agree_below, agree_below_at}
use Rattle.spdx_catalogue.specs.declared.names.TheConstants.{NAME_BYTES}
use Rattle.spdx_catalogue.specs.Names.{is_name_byte}
use Rattle.spdx_catalogue.proofs.names.is_name_byte.Goals as goal

abbrev stands_in : List ℕ → ℕ → Bool
stands_in table b = not (nat_eq (get_or table b 0) 44)

from_table : (table : List ℕ) (b : ℕ) → b < 256 → agree_below (stands_in table) is_name_byte 256 ≡ true → stands_in table b ≡ is_name_byte b
from_table table b lt h = agree_below_at (stands_in table) is_name_byte 256 b h lt

pub returns : goal.returns
returns c = from_table NAME_BYTES c.args.b (omega arith) refl
