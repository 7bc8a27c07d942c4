-- What a few words give the options of their commands, by computing.
use Rattle.std.proofs.Common.{◌≡◌, refl, true, false, List, [], ◌∷◌, Some, None, codes}
use Rattle.clap.specs.Walk.{Row, Text, first_of}
use Rattle.clap.proofs.OnLiterals.{clap_on_literals}
use Rattle.spdx_words.specs.Commands.{Names, check_options, gate_options}
use Rattle.spdx_words.specs.Options.{all_in, given, has}

module _ (formats forms : Names) where
  abbrev pub checked : List Text → List Row
  checked words = given (check_options formats forms) words

  abbrev pub gated : List Text → List Row
  gated words = given (gate_options formats forms) words

  -- `-q` is `--quiet`, before and behind a path
  pub quiet_first : has (checked (codes "-q" ∷ codes "a" ∷ [])) (codes "quiet") ≡ true
  unfolding clap_on_literals
  quiet_first = refl

  pub quiet_last : has (checked (codes "a" ∷ codes "--quiet" ∷ [])) (codes "quiet") ≡ true
  unfolding clap_on_literals
  quiet_last = refl

  -- and isn't there unasked
  pub not_quiet : has (checked (codes "a" ∷ codes "--lax" ∷ [])) (codes "quiet") ≡ false
  unfolding clap_on_literals
  not_quiet = refl

  -- all words that are no options are paths, those behind `--` too
  pub paths_said : all_in (checked (codes "a" ∷ codes "--lax" ∷ codes "b" ∷ codes "--" ∷ codes "-q" ∷ [])) (codes "PATH")
      ≡ codes "a" ∷ codes "b" ∷ codes "-q" ∷ []
  unfolding clap_on_literals
  paths_said = refl

  -- an option's value stands behind it, or behind `=`
  pub value_behind : first_of (codes "policy") (gated (codes "--policy" ∷ codes "p" ∷ codes "f" ∷ [])) ≡ Some (codes "p")
  unfolding clap_on_literals
  value_behind = refl

  pub value_joined : first_of (codes "policy") (gated (codes "f" ∷ codes "--policy=p" ∷ [])) ≡ Some (codes "p")
  unfolding clap_on_literals
  value_joined = refl

  -- a format that isn't said is that of people, and no baseline is one
  pub format_unsaid : first_of (codes "format") (gated (codes "--policy" ∷ codes "p" ∷ [])) ≡ Some (codes "human")
  unfolding clap_on_literals
  format_unsaid = refl

  pub baseline_unsaid : first_of (codes "baseline") (gated (codes "--policy" ∷ codes "p" ∷ [])) ≡ None
  unfolding clap_on_literals
  baseline_unsaid = refl
