use Rattle.std.proofs.Common.{◌≡◌, ◌∙◌, ◌==◌, List, ℕ, ap, map, lit<}
use Rattle.std.specs.Borrow.{Bor}
use Rattle.std.specs.Global.{Vec}
use Rattle.std.specs.List.{slice_split}
use Rattle.std.specs.Str.{trim}
use Rattle.std.proofs.lemmas.Iterator.Consumers.{map_from_collect}
use Rattle.std.proofs.lemmas.Iterator.Splits.{YieldsList-from_str_split}
use Rattle.std.proofs.lemmas.Result.{IfOk-weaker}
use Rattle.choice_program.specs.Licensees.{name_in, names_in}
use Rattle.choice_program.proofs.Naming.{named_all}
use Rattle.choice_program.proofs.licensees.names_in.Goals as goal

pub returns : goal.returns
returns c =
    IfOk-weaker c.collect.result (λ (v : Vec (Bor (List ℕ))). map (λ (x : Bor (List ℕ)). x.now) v.items ≡ slice_split (λ (b : ℕ). b == 44) c.args.list.now)
    (λ (v : Vec (Bor (List ℕ))). map name_in v.items ≡ names_in c.args.list.now)
    (λ v is. named_all v.items ∙ ap (map trim) is)
    (map_from_collect _ c.collect.ensures.ran (YieldsList-from_str_split 44 c.args.list.now (lit< tt) c.split.ensures.text c.split.ensures.has_more c.split.ensures.pattern))
