use Rattle.std.proofs.Common.{◌≡◌, ◌<◌, None, length, ap, sym, arith, subst, rules}
use Rattle.spdx_lexer.proofs.Front.{run_cut, first_cut, run_is}
use Rattle.spdx_lexer.proofs.Table.{inexact_lexeme}
use Rattle.spdx_lexer.specs.Text.{IsRun}
use Rattle.spdx_lexer.specs.Lexeme.{sign}
use Rattle.spdx_lexer.specs.Groups as groups
use Rattle.spdx_lexer.specs.Groups.{Found}
use Rattle.spdx_lexer.proofs.lexeme.lexeme.Goals as goal

pub returns-in-Some-clause-cut : goal.returns-in-Some-clause-cut
returns-in-Some-clause-cut c = first_cut c.args.text.now c.utf8.text c.requires.some c.in-Some.ensures.ascii

pub exact-requires : goal.exact-requires
exact-requires c = subst IsRun (sym c.requires.run) (run_is c.args.text.now)

pub returns-in-Some-exact-clause-cut : goal.returns-in-Some-exact-clause-cut
returns-in-Some-exact-clause-cut c = run_cut c.args.text.now (length c.args.run.now) c.utf8.text (omega (arith, ap length c.requires.run))

pub returns-in-Some-inexact-clause-value : goal.returns-in-Some-inexact-clause-value
returns-in-Some-inexact-clause-value c =
    let some : 0 < length c.args.run.now = search rules in
    let no_sign : sign c.args.mode c.args.text.now ≡ None = search rules in
    let no_exact : groups.exact c.args.catalogue.now c.args.run.now ≡ None = search rules in
    inexact_lexeme c.args.catalogue.now c.args.mode c.args.text.now c.args.run.now _ c.requires.run some no_sign no_exact c.in-Some-inexact.ensures.value

pub returns-in-None-clause-value : goal.returns-in-None-clause-value
returns-in-None-clause-value c =
    let some : 0 < length c.args.run.now = search rules in
    let no_sign : sign c.args.mode c.args.text.now ≡ None = search rules in
    let no_exact : groups.exact c.args.catalogue.now c.args.run.now ≡ None = search rules in
    inexact_lexeme c.args.catalogue.now c.args.mode c.args.text.now c.args.run.now _ c.requires.run some no_sign no_exact c.in-None.ensures.value

pub returns-in-None-clause-cut_fault : goal.returns-in-None-clause-cut_fault
returns-in-None-clause-cut_fault c = run_cut c.args.text.now (length c.args.run.now) c.utf8.text (omega (arith, ap length c.requires.run))
