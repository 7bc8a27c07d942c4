-- A command that is built an option at a time.
use Rattle.std.proofs.Common.{◌≡◌, ◌∙◌, ap, refl, subst, sym, Bool, true, false, List, [], ◌∷◌, ◌++◌, Bor, Option, Some, is_some, ◌&&◌, not, ◌||◌}
use Rattle.clap.specs.Built.{AddsArg, AddsSubcommand}
use Rattle.clap.specs.Simple.{App, Shape, app_of, app_of_fields, new_app, new_shape, on_top, with_rule, with_subcommand}
use Rattle.clap.specs.Walk.{Rule, Text, is_empty, is_simple_arg, rule_of}
use Rattle.clap.specs.declared.builder.arg.Arg.{Arg}
use Rattle.clap.specs.declared.builder.command.Command.{Command}
use Rattle.clap.specs.declared.builder.command.Command.TheViews.{out-Command as fields_of}
use Rattle.std.proofs.lemmas.Bool.{true≢false}
use Rattle.std.proofs.lemmas.List.{append-nil, append_assoc}
use Rattle.std.specs.Prelude.{String}
use Rattle.std.specs.declared.alloc.Global.{Global}
use Rattle.spdx_words.specs.Options.{IsAlone, IsCommand, command}

last_of : (p q : Bool) → (p && q) ≡ true → q ≡ true
last_of true q e = e
last_of false q e = absurd (true≢false (sym e))

off : (p : Bool) → not p ≡ true → p ≡ false
off false e = refl
off true e = absurd (true≢false (sym e))

-- a simple option is of its own command alone
local : (a : Arg) → is_simple_arg a ≡ true → a.global ≡ false
local a e =
    off a.global (last_of (not a.last) _ (last_of (not a.require_equals) _ (last_of (not a.allow_negative_numbers) _
    (last_of (not a.allow_hyphen_values) _ (last_of (not (is_some a.terminator)) _ (last_of (not (is_some a.val_delim)) _
    (last_of (is_empty a.groups.items) _ (last_of (is_empty a.default_vals_ifs.items) _ (last_of (is_empty a.overrides.items) _ e)))))))))

pub begun : (name : Text) (c : Command) → app_of c ≡ new_app name → (fields_of c).has_globals ≡ false → IsAlone (new_shape name) c
begun name c app here = record { app = app; local = here }

-- ---- what is told of it, and what it wants

module _ {shape : Shape} (old new : Command) (is : IsAlone shape old) where
  pub about : {x : Option (Bor Text)} → fields_of new ≡ record (fields_of old) { about = x } → IsAlone shape new
  about e = record { app = ap app_of_fields e ∙ is.app; local = ap (λ f. f.has_globals) e ∙ is.local }

  pub after_help : {x : Option (Bor Text)} → fields_of new ≡ record (fields_of old) { after_help = x } → IsAlone shape new
  after_help e = record { app = ap app_of_fields e ∙ is.app; local = ap (λ f. f.has_globals) e ∙ is.local }

  pub bin_name : {x : Option (String Global)} → fields_of new ≡ record (fields_of old) { bin_name = x } → IsAlone shape new
  bin_name e = record { app = ap app_of_fields e ∙ is.app; local = ap (λ f. f.has_globals) e ∙ is.local }

  pub version : {x : Bor Text} → fields_of new ≡ record (fields_of old) { version = Some x }
      → IsAlone (record shape { has_version = true }) new
  version e = record {
    app = ap app_of_fields e ∙ ap (on_top (λ s. record s { has_version = true })) is.app;
    local = ap (λ f. f.has_globals) e ∙ is.local;
  }

  pub subcommand_required : fields_of new ≡ record (fields_of old) { subcommand_required = true }
      → IsAlone (record shape { subcommand_required = true }) new
  subcommand_required e = record {
    app = ap app_of_fields e ∙ ap (on_top (λ s. record s { subcommand_required = true })) is.app;
    local = ap (λ f. f.has_globals) e ∙ is.local;
  }

  pub or_help : fields_of new ≡ record (fields_of old) { arg_required_else_help = true }
      → IsAlone (record shape { arg_required_else_help = true }) new
  or_help e = record {
    app = ap app_of_fields e ∙ ap (on_top (λ s. record s { arg_required_else_help = true })) is.app;
    local = ap (λ f. f.has_globals) e ∙ is.local;
  }

-- ---- its options

pub added : {name : Text} {options : List Rule} (old new : Command) → IsCommand name options old → {a : Arg} {r : Rule}
    → AddsArg old a new → rule_of a ≡ r → r.is_simple ≡ true → IsCommand name (options ++ r ∷ []) new
added {name} {options} old new is {a} {r} adds rule simple =
    let here : a.global ≡ false = local a (ap (λ (r : Rule). r.is_simple) rule ∙ simple) in
    record {
      app = adds.shape here ∙ ap (λ (app : App). with_rule app (rule_of a)) is.app
          ∙ ap (with_rule (record { top = command name options; subs = [] })) rule;
      local = adds.globals ∙ ap (λ (g : Bool). g || a.global) is.local ∙ here;
    }

-- behind options that are given
module _ {name : Text} (options : List Rule) where
  pub at_first : (c : Command) → IsCommand name options c → IsCommand name (options ++ []) c
  at_first c is = subst (λ all. IsCommand name all c) (sym (append-nil options)) is

  pub added_to : (xs : List Rule) (old new : Command) → IsCommand name (options ++ xs) old → {a : Arg} {r : Rule}
      → AddsArg old a new → rule_of a ≡ r → r.is_simple ≡ true → IsCommand name (options ++ (xs ++ r ∷ [])) new
  added_to xs old new is {a} {r} adds rule simple =
      subst (λ all. IsCommand name all new) (append_assoc options xs (r ∷ [])) (added old new is adds rule simple)

  pub joined : (xs ys : List Rule) (c : Command) → IsCommand name ((options ++ xs) ++ ys) c → IsCommand name (options ++ (xs ++ ys)) c
  joined xs ys c is = subst (λ all. IsCommand name all c) (append_assoc options xs ys) is

-- ---- its commands

pub has_command : {shape : Shape} {app : App} (old sub new : Command) → app_of old ≡ app → IsAlone shape sub
    → AddsSubcommand old sub new → app_of new ≡ with_subcommand app shape
has_command {shape} {app} old sub new is alone adds =
    adds.shape alone.local ∙ ap (λ (a : App). with_subcommand a (app_of sub).top) is
    ∙ ap (λ (a : App). with_subcommand app a.top) alone.app
