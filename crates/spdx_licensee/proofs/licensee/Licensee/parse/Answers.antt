use Rattle.std.proofs.Common.{rules}
use Rattle.std.proofs.lemmas.Str.{IsCharBoundary-start, IsCharBoundary-end}
use Rattle.spdx_licensee.proofs.Theorem.{gives_fault, gives_none, gives_place, gives_licensee}
use Rattle.spdx_licensee.proofs.licensee.Licensee.parse.Goals as goal

pub returns-in_err-read_requirement-clause-err : goal.returns-in_err-read_requirement-clause-err
returns-in_err-read_requirement-clause-err c =
    let given = rw c.new-lexer.ensures.items at c.read_requirement.ensures in
    let fault = gives_fault c.args.catalogue.now c.args.text.now _ c.read_requirement.result given in
    let told = rw (c.in_err-read_requirement.was) at fault in
    search (rules, told)

pub returns-clause-ok : goal.returns-clause-ok
returns-clause-ok c =
    let given = rw c.new-lexer.ensures.items at c.read_requirement.ensures in
    let named = gives_licensee c.args.catalogue.now c.args.text.now _ c.read_requirement.result given in
    rw (c.in_ok-read_requirement.was) at named

pub returns-in_err-read_requirement-clause-none : goal.returns-in_err-read_requirement-clause-none
returns-in_err-read_requirement-clause-none c =
    let given = rw c.new-lexer.ensures.items at c.read_requirement.ensures in
    let none = gives_none c.args.catalogue.now c.args.text.now _ c.read_requirement.result given in
    let told = rw (c.in_err-read_requirement.was) at none in
    search (rules, told)

pub returns-in_err-read_requirement-clause-place : goal.returns-in_err-read_requirement-clause-place
returns-in_err-read_requirement-clause-place c =
    let given = rw c.new-lexer.ensures.items at c.read_requirement.ensures in
    let places = rw c.new-lexer.ensures.items at c.new-lexer.ensures.places in
    let place = gives_place c.args.catalogue.now c.args.text.now _ c.read_requirement.result given
    (IsCharBoundary-start c.args.text.now c.utf8.text) (IsCharBoundary-end c.args.text.now) places in
    let told = rw (c.in_err-read_requirement.was) at place in
    search (rules, told)
