use Rattle.std.proofs.Common.{subst, sym, IsCharBoundary}
use Rattle.spdx_lexer.proofs.Front.{front_boundary, name_ascii}
use Rattle.spdx_catalogue.specs.Names.{is_name_byte}
use Rattle.spdx_lexer.proofs.run.split_name.Goals as goal

pub split_at-requires : goal.split_at-requires
split_at-requires c = subst (IsCharBoundary c.args.text.now) (sym c.name_len.ensures) (front_boundary is_name_byte name_ascii c.args.text.now c.utf8.text)
