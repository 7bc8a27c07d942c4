use Rattle.std.proofs.Common.{ℕ, IsUtf8, subst, sym, take}
use Rattle.package_files.proofs.Names.{name_is_text}
use Rattle.package_files.proofs.texts.name_at.Goals as goal

pub unreachable-requires : goal.unreachable-requires
unreachable-requires c =
    c.in-Err.ensures.cases.0 (subst (λ (n : ℕ). IsUtf8 (take n c.args.text.now)) (sym c.name_len.ensures.value) (name_is_text c.args.text.now))
