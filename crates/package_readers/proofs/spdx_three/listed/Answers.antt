use Rattle.std.proofs.Common.{◌≡◌, ◌∙◌, false, nat_eq, sym}
use Rattle.std.specs.List.{starts_with}
use Rattle.std.proofs.lemmas.Bool.{cond-false}
use Rattle.std.proofs.lemmas.Str.Pattern.{starts_text}
use Rattle.package_readers.specs.SpdxThree.{home}
use Rattle.package_readers.proofs.spdx_three.listed.Goals as goal

pub returns-in-None : goal.returns-in-None
returns-in-None c =
    let none : false ≡ starts_with nat_eq c.args.id.now home = starts_text false home c.args.id.now c.in-None.ensures.cases in
    sym (cond-false _ _ _ (sym c.if-is_individual.ensures) ∙ cond-false _ _ _ (sym none))
