-- What words are answered, by what their command found.
use Rattle.std.proofs.Common.{◌≡◌, ◌∙◌, ap, refl, inl, inr, not, subst, sym, true, false, Bool, List, [], ◌||◌, Option, None, Some, Result, Ok, Err}
use Rattle.std.specs.Prelude.{is_some}
use Rattle.std.specs.Result.{IsErrAnd}
use Rattle.std.proofs.lemmas.Bool.{true≢false}
use Rattle.clap.specs.Faults.{fault_of}
use Rattle.clap.specs.Kinds.{HasKind, IsAmong}
use Rattle.clap.specs.Simple.{App, subcommand_of}
use Rattle.clap.specs.Values.{kind_of}
use Rattle.clap.specs.Walk.{Row, Rule, Text}
use Rattle.clap.specs.declared.error.Error.{Error}
use Rattle.clap.specs.declared.error.kind.ErrorKind.{ErrorKind}
use Rattle.clap.specs.declared.error.kind.ErrorKind.TheVariants.{OutOfMemory}
use Rattle.spdx_words.specs.Lines.{AreFit, IsAnswer, IsOfFault, IsRefused}
use Rattle.spdx_words.specs.Lines as lines
use Rattle.spdx_words.specs.Options.{given}
use Rattle.spdx_words.specs.declared.request.Request.{Request}
use Rattle.spdx_words.proofs.Saying.{given_is}

pub of_memory : (words : List Text) (answer : Result Request Error) → IsErrAnd answer (λ e. kind_of e ≡ OutOfMemory) → IsAnswer words answer
of_memory words (Ok r) h = absurd h
of_memory words (Err e) h = lines.memory words (kind_of e) h

pub passed_on : (words : List Text) (answer : Result Request Error) (e : Error) → IsErrAnd answer (λ x. x ≡ e)
    → IsRefused words (kind_of e) → IsAnswer words answer
passed_on words (Ok r) e h refused = absurd h
passed_on words (Err x) e h refused = subst (λ y. IsRefused words (kind_of y)) (sym h) refused

pub or_left : (p q : Bool) → true ≡ p → (p || q) ≡ true
or_left true q e = refl
or_left false q e = absurd (true≢false e)

pub or_right : (p q : Bool) → true ≡ q → (p || q) ≡ true
or_right true q e = refl
or_right false q e = sym e

pub neither : (p q : Bool) → false ≡ p → q ≡ false → (p || q) ≡ false
neither false q p_off q_off = q_off
neither true q p_off q_off = absurd (true≢false (sym p_off))

-- an option that has a value is said
pub is_said : (said : Option Text) (text : Text) → Some text ≡ said → not (is_some said) ≡ false
is_said (Some x) text e = refl
is_said None text e = cc

pub isnt_said : (said : Option Text) → None ≡ said → true ≡ not (is_some said)
isnt_said None e = refl
isnt_said (Some x) e = cc

pub having : (unfit : Bool) → true ≡ not unfit → unfit ≡ false
having false e = refl
having true e = absurd (true≢false e)

pub lacking : (unfit : Bool) → false ≡ not unfit → unfit ≡ true
lacking true e = refl
lacking false e = absurd (true≢false (sym e))

-- where words enter a command with these options, and its own words stand behind
module _ (app : App) (taken : List Text) (label : Text) (options : List Rule) (behind : List Text)
    (entered : subcommand_of app taken ≡ Some (label, given options behind)) (words : List Text) (same : words ≡ taken) where
  pub enters : is_some (subcommand_of app words) ≡ true
  enters = ap (λ ws. is_some (subcommand_of app ws)) same ∙ ap is_some entered

  rows_are : (rows : List Row) → (name : Text) × (subcommand_of app words ≡ Some (name, rows)) → rows ≡ given options behind
  rows_are rows found = given_is app words taken label (given options behind) rows entered same found

  -- `all` are the words that are answered
  pub refused : (all : List Text) (unfit : Bool) (e : Error) → HasKind (fault_of app words) e
      → (IsOfFault app taken unfit (kind_of e) → IsRefused all (kind_of e)) → IsRefused all (kind_of e)
  refused all unfit e (inl memory) by = lines.memory all (kind_of e) memory
  refused all unfit e (inr among) by = by (inl (subst (λ ws. IsAmong (kind_of e) (fault_of app ws)) same among))

  pub unfit_is : (unfit : List Row → Bool) (k : ErrorKind) (rows : List Row) → (name : Text) × (subcommand_of app words ≡ Some (name, rows))
      → unfit rows ≡ true → IsOfFault app taken (unfit (given options behind)) k
  unfit_is unfit k rows found is = inr (ap unfit (sym (rows_are rows found)) ∙ is)

  pub says : (unfit : List Row → Bool) (Is : List Row → Type 0) (rows : List Row) → (name : Text) × (subcommand_of app words ≡ Some (name, rows))
      → fault_of app words ≡ [] → unfit rows ≡ false → Is rows → AreFit app taken (unfit (given options behind)) × Is (given options behind)
  says unfit Is rows found none fits is =
      let same_rows = rows_are rows found in (
        record {
          taken = ap (fault_of app) (sym same) ∙ none;
          fits = ap unfit (sym same_rows) ∙ fits;
        },
        subst Is same_rows is,
      )
