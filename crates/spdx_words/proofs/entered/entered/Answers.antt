use Rattle.std.proofs.Common.{◌≡◌, ◌∙◌, ap, refl, sym, subst, true, false, Bool, ◌&&◌, List, Option, Some, None, map}
use Rattle.std.specs.Prelude.{is_some, option_map}
use Rattle.std.proofs.lemmas.Bool.{true≢false}
use Rattle.clap.specs.Faults.{fault_of, is_simple_and_free}
use Rattle.clap.specs.Kinds.{HasKind}
use Rattle.clap.specs.Simple.{App, is_simple, subcommand_of}
use Rattle.clap.specs.Walk.{Row, Text}
use Rattle.clap.specs.declared.parser.matches.ArgMatches.TheViews.{out-ArgMatches}
use Rattle.spdx_words.specs.Options.{text_of}
use Rattle.spdx_words.proofs.entered.entered.Goals as goal

named : (found : Option (Text × List Row)) (rows : List Row) → Some rows ≡ option_map (λ p. p.1) found
    → (name : Text) × (found ≡ Some (name, rows))
named None rows e = cc
named (Some p) rows e = (p.0, ap (λ (r : List Row). Some (p.0, r)) cc)

first_of_both : (p q : Bool) → (p && q) ≡ true → p ≡ true
first_of_both true q e = refl
first_of_both false q e = e

is_some-map : {X Y : Type 0} (f : X → Y) (o : Option X) → is_some (option_map f o) ≡ is_some o
is_some-map f None = refl
is_some-map f (Some x) = refl

pub returns-in-Some-clause-ok : goal.returns-in-Some-clause-ok
returns-in-Some-clause-ok c a app simple =
    let found = named _ _ c.in-Some.ensures.rows in (
      found.0,
      ap (λ (a : App). subcommand_of a (map text_of c.args.words.now)) (sym app)
          ∙ sym (c.in-Ok.ensures.matches (ap is_simple app ∙ simple)).1 ∙ found.1,
    )

pub returns-in-Some-clause-taken : goal.returns-in-Some-clause-taken
returns-in-Some-clause-taken c a app simple =
    ap (λ (a : App). fault_of a (map text_of c.args.words.now)) (sym app)
    ∙ c.in-Ok.ensures.kinds (ap is_simple_and_free app ∙ simple)

pub returns-in-Ok-clause-err : goal.returns-in-Ok-clause-err
returns-in-Ok-clause-err c a app simple enters =
    let met = c.in-Ok.ensures.matches (ap is_simple app ∙ first_of_both (is_simple a) _ simple) in
    absurd (true≢false (sym enters ∙ ap (λ (a : App). is_some (subcommand_of a (map text_of c.args.words.now))) (sym app)
    ∙ ap is_some (sym met.1) ∙ is_some-map _ (out-ArgMatches c.in-Ok.matches).subcommand ∙ sym c.in-None.ensures.variant))

pub returns-clause-err : goal.returns-clause-err
returns-clause-err c a app simple enters =
    subst (λ (a : App). HasKind (fault_of a (map text_of c.args.words.now)) c.in-Err.error) app
    (c.in-Err.ensures.kinds (ap is_simple_and_free app ∙ simple))
