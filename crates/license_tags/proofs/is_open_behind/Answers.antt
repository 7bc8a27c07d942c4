use Rattle.std.proofs.Common.{ℕ, ◌<◌, List, length, sym, subst, arith}
use Rattle.license_tags.proofs.Occurring.{end_text-length}
use Rattle.license_tags.proofs.is_open_behind.Goals as goal

pub holds-requires : goal.holds-requires
holds-requires c = subst (λ (t : List ℕ). 0 < length t) (sym c.requires) (omega (arith, end_text-length))
