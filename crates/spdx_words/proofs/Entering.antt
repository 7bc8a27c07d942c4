-- What the options of a command are given where the words enter it.
use Rattle.std.proofs.Common.{◌≡◌, ◌∙◌, ap, refl, sym, false, List, [], ◌∷◌, ◌++◌, Some}
use Rattle.std.specs.Prelude.{find, fold, option_map}
use Rattle.std.proofs.lemmas.List.{append-nil, append_assoc}
use Rattle.clap.proofs.OnLiterals.{clap_on_literals}
use Rattle.clap.specs.Simple.{App, Shape, argument_words, built, entered, label_of, names_of, rows_at, subcommand_of}
use Rattle.clap.specs.Walk.{Names, Rule, Text, Walk, answers_to, nothing_held, rows_after, stop_after, walk_from, walked}

-- a command that was entered takes all further words
module _ (rules : List Rule) (names : Names) where
  behind : (w : Walk) (name : Text) (taken words : List Text) → w.stopped ≡ Some (name, taken)
      → (fold (walked rules names) w words).stopped ≡ Some (name, taken ++ words)
  unfolding clap_on_literals
  behind w name taken [] e = e ∙ ap (λ ws. Some (name, ws)) (sym (append-nil taken))
  behind w name taken (word ∷ words) e =
      behind (walked rules names w word) name (taken ++ word ∷ []) words (rw e refl)
      ∙ ap (λ ws. Some (name, ws)) (append_assoc taken (word ∷ []) words)

  enters : (name label : Text) (words : List Text) → option_map (λ s. s.0) (find (answers_to name) names) ≡ Some label
      → (walked rules names (walk_from nothing_held) name).stopped ≡ Some (label, [])
  unfolding clap_on_literals
  enters name label words e = rw e refl

  pub stops : (name label : Text) (words : List Text) → option_map (λ s. s.0) (find (answers_to name) names) ≡ Some label
      → stop_after rules names (name ∷ words) ≡ Some (label, words)
  stops name label words e = behind (walked rules names (walk_from nothing_held) name) label [] words (enters name label words e)

module _ (a : App) (first name label : Text) (words : List Text) (s : Shape) where
  words_of : a.top.no_binary_name ≡ false → argument_words a (first ∷ name ∷ words) ≡ name ∷ words
  words_of named = rw named refl

  pub entered_by : a.top.no_binary_name ≡ false → option_map (λ s. s.0) (find (answers_to name) (names_of (built a))) ≡ Some label
      → find (λ s. answers_to label (label_of s)) (built a).subs ≡ Some s
      → subcommand_of a (first ∷ name ∷ words) ≡ Some (s.name, rows_after s.rules [] words)
  entered_by named label_is sub_is =
      ap (λ ws. entered (built a) (stop_after (built a).top.rules (names_of (built a)) ws)) (words_of named)
      ∙ ap (entered (built a)) (stops (built a).top.rules (names_of (built a)) name label words label_is)
      ∙ ap (option_map (λ s. rows_at s words)) sub_is
