use Rattle.std.proofs.Common.{◌≡◌, ℕ, List, ap, sym, ◌∙◌, bytes_eq, option_map}
use Rattle.spdx_catalogue.proofs.Mapped.{find_map}
use Rattle.spdx_list.proofs.diff.named.Goals as goal

pub returns : goal.returns
returns g c =
    ap (option_map g.R.Listed.shown) c.first_named.ensures
    ∙ sym (find_map (λ (s : g.R.Listed.Shown). bytes_eq (g.R.Listed.name_of s) c.args.name.now) g.R.Listed.shown c.args.rows.now)
