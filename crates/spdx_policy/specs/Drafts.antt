-- What a TOML table says of a policy, before its names and ranges are read.
use Rattle.std.specs.Prelude.{ℕ, suc, Bool, true, false, List, [], ◌∷◌, Option, Some, None, Result, Ok, Err, bytes_eq, codes, if◌then◌else◌}
use Rattle.toml.specs.Data.{Members}
use Rattle.spdx_policy.specs.declared.decision.Flag.{Flag}
use Rattle.spdx_policy.specs.declared.decision.Flag.TheVariants as flag
use Rattle.spdx_policy.specs.declared.error.Key.{Key}
use Rattle.spdx_policy.specs.declared.error.Key.TheVariants as key
use Rattle.spdx_policy.specs.declared.error.Section.TheVariants as section
use Rattle.spdx_policy.specs.declared.error.Place.{Place}
use Rattle.spdx_policy.specs.Rules.{flag_word}
use Rattle.spdx_policy.specs.Shape.{Shape, unknown_word, whole, one, need, on_ok, first_unknown, only, text_at, required_at, texts_at, required_texts_at, rows_at}

pub record ExceptionRow : Type 0 where
  pub name : List ℕ
  pub versions : Option (List ℕ)
  pub allow : List (List ℕ)
  pub reason : Option (List ℕ)

pub record ClarifyRow : Type 0 where
  pub name : List ℕ
  pub versions : Option (List ℕ)
  pub expression : List ℕ

pub record DraftRows : Type 0 where
  pub lax : Bool
  pub unstated : Bool
  pub allow : List (List ℕ)
  pub allow_if : List Flag
  pub deny : List (List ℕ)
  pub deny_if : List Flag
  pub exceptions : List ExceptionRow
  pub clarifications : List ClarifyRow

-- the keys of each table
abbrev pub policy_keys : List Key
policy_keys =
    key.Read ∷ key.Unstated ∷ key.Allow ∷ key.AllowIf ∷ key.Deny ∷ key.DenyIf ∷ key.Exception ∷
    key.Clarify ∷ []

abbrev pub exception_keys : List Key
exception_keys = key.Package ∷ key.Versions ∷ key.Allow ∷ key.Reason ∷ []

abbrev pub clarify_keys : List Key
clarify_keys = key.Package ∷ key.Versions ∷ key.Expression ∷ []

-- the second of two words; the first is what is meant where none stands
abbrev pub is_second : Place → List ℕ → List ℕ → Option (List ℕ) → Result Bool Shape
is_second p first second None = Ok false
is_second p first second (Some word) =
    if bytes_eq word first then Ok false else if bytes_eq word second then Ok true
    else Err (unknown_word p word)

abbrev pub choice_at : Key → List ℕ → List ℕ → Members → Result Bool Shape
choice_at k first second ms =
    on_ok (text_at section.Policy k ms) (is_second (whole section.Policy k) first second)

-- the flag of a word
abbrev pub flag_named : List ℕ → Option Flag
flag_named word =
    if bytes_eq word (flag_word flag.OsiApproved) then Some flag.OsiApproved
    else if bytes_eq word (flag_word flag.FsfLibre) then Some flag.FsfLibre
    else if bytes_eq word (flag_word flag.Copyleft) then Some flag.Copyleft
    else if bytes_eq word (flag_word flag.Deprecated) then Some flag.Deprecated
    else None

abbrev pub flags_from : Key → ℕ → List (List ℕ) → Result (List Flag) Shape
flags_from k i [] = Ok []
flags_from k i (word ∷ words) =
    need (unknown_word (one section.Policy k i) word) (flag_named word)
    (λ f. on_ok (flags_from k (suc i) words) (λ more. Ok (f ∷ more)))

abbrev pub flags_at : Key → Members → Result (List Flag) Shape
flags_at k ms = on_ok (texts_at section.Policy k ms) (flags_from k 0)

-- an exception: a package, perhaps a range, what is allowed, perhaps a reason
abbrev pub exception_of : ℕ → Members → Result ExceptionRow Shape
exception_of i ms =
    let s = section.Exception i in
    on_ok (only s (first_unknown exception_keys ms)) (λ _.
    on_ok (required_at s key.Package ms) (λ name.
    on_ok (text_at s key.Versions ms) (λ versions.
    on_ok (required_texts_at s key.Allow ms) (λ allow.
    on_ok (text_at s key.Reason ms) (λ reason.
    Ok (record { name = name; versions = versions; allow = allow; reason = reason }))))))

-- a clarification: a package, perhaps a range, and an expression
abbrev pub clarify_of : ℕ → Members → Result ClarifyRow Shape
clarify_of i ms =
    let s = section.Clarify i in
    on_ok (only s (first_unknown clarify_keys ms)) (λ _.
    on_ok (required_at s key.Package ms) (λ name.
    on_ok (text_at s key.Versions ms) (λ versions.
    on_ok (required_at s key.Expression ms) (λ expression.
    Ok (record { name = name; versions = versions; expression = expression })))))

-- what the table says, or its first fault
abbrev pub draft_of : Members → Result DraftRows Shape
draft_of ms =
    on_ok (only section.Policy (first_unknown policy_keys ms)) (λ _.
    on_ok (choice_at key.Read (codes "strict") (codes "lax") ms) (λ lax.
    on_ok (choice_at key.Unstated (codes "refuse") (codes "allow") ms) (λ unstated.
    on_ok (texts_at section.Policy key.Allow ms) (λ allow.
    on_ok (flags_at key.AllowIf ms) (λ allow_if.
    on_ok (texts_at section.Policy key.Deny ms) (λ deny.
    on_ok (flags_at key.DenyIf ms) (λ deny_if.
    on_ok (rows_at exception_of key.Exception ms) (λ exceptions.
    on_ok (rows_at clarify_of key.Clarify ms) (λ clarifications.
    Ok (record {
      lax = lax;
      unstated = unstated;
      allow = allow;
      allow_if = allow_if;
      deny = deny;
      deny_if = deny_if;
      exceptions = exceptions;
      clarifications = clarifications;
    }))))))))))
