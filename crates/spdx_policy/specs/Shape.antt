-- What the members of a TOML table hold: texts, lists of texts, and tables.
use Rattle.std.specs.Prelude.{ℕ, suc, Bool, List, [], ◌∷◌, Option, Some, None, Result, Ok, Err, string_bytes, bytes_eq, codes, if◌then◌else◌}
use Rattle.std.specs.List.{list_any}
use Rattle.toml.specs.Data.{Data, Items, no_items, item, Members, no_members, member, get_member, as_str, as_array, as_table}
use Rattle.spdx_policy.specs.declared.error.Key.{Key}
use Rattle.spdx_policy.specs.declared.error.Key.TheVariants as key
use Rattle.spdx_policy.specs.declared.error.Section.{Section}
use Rattle.spdx_policy.specs.declared.error.Section.TheVariants as section
use Rattle.spdx_policy.specs.declared.error.Place.{Place}
use Rattle.spdx_policy.specs.declared.error.Kind.{Kind}
use Rattle.spdx_policy.specs.declared.error.Kind.TheVariants as kind
use Rattle.spdx_policy.specs.declared.error.ShapeFault.{ShapeFault}
use Rattle.spdx_policy.specs.declared.error.ShapeFault.TheVariants as fault

-- why a table is no policy, whatever the list of licences says
pub data Shape : Type 0 where
  unknown_key : Section → List ℕ → Shape
  missing : Place → Shape
  wrong_kind : Place → Kind → Shape
  unknown_word : Place → List ℕ → Shape

-- a fault, capacities aside
abbrev pub shape_of : ShapeFault → Shape
shape_of (fault.UnknownKey s text) = unknown_key s (string_bytes text)
shape_of (fault.Missing p) = missing p
shape_of (fault.WrongKind p k) = wrong_kind p k
shape_of (fault.UnknownWord p text) = unknown_word p (string_bytes text)

-- the word of a key
abbrev pub key_word : Key → List ℕ
key_word key.Read = codes "read"
key_word key.Unstated = codes "unstated"
key_word key.Allow = codes "allow"
key_word key.AllowIf = codes "allow-if"
key_word key.Deny = codes "deny"
key_word key.DenyIf = codes "deny-if"
key_word key.Exception = codes "exception"
key_word key.Clarify = codes "clarify"
key_word key.Package = codes "package"
key_word key.Versions = codes "versions"
key_word key.Reason = codes "reason"
key_word key.Expression = codes "expression"

-- what stands at a key, and an item of it
abbrev pub whole : Section → Key → Place
whole s k = record { section = s; key = k; item = None }

abbrev pub one : Section → Key → ℕ → Place
one s k i = record { section = s; key = k; item = Some i }

-- what is missing is the fault
abbrev pub need : {A B E : Type 0} → E → Option A → (A → Result B E) → Result B E
need e None go = Err e
need e (Some x) go = go x

-- go on with the value, or stop at the fault
abbrev pub on_ok : {A B E : Type 0} → Result A E → (A → Result B E) → Result B E
on_ok (Err e) go = Err e
on_ok (Ok x) go = go x

-- the key is one of these
abbrev pub is_known : List Key → List ℕ → Bool
is_known known k = list_any (λ (w : Key). bytes_eq (key_word w) k) known

-- the first of the keys, in their order by bytes, that is none of the known ones
abbrev pub first_unknown : List Key → Members → Option (List ℕ)
first_unknown known no_members = None
first_unknown known (member k d ms) = if is_known known k then first_unknown known ms else Some k

-- the table has no other keys
abbrev pub only : Section → Option (List ℕ) → Result (Unit {0}) Shape
only s None = Ok tt
only s (Some k) = Err (unknown_key s k)

-- a text, if anything stands there
abbrev pub text_of : Place → Option Data → Result (Option (List ℕ)) Shape
text_of p None = Ok None
text_of p (Some d) = need (wrong_kind p kind.Text) (as_str d) (λ text. Ok (Some text))

abbrev pub text_at : Section → Key → Members → Result (Option (List ℕ)) Shape
text_at s k ms = text_of (whole s k) (get_member (key_word k) ms)

-- a text that has to stand there
abbrev pub required_at : Section → Key → Members → Result (List ℕ) Shape
required_at s k ms = on_ok (text_at s k ms) (λ o. need (missing (whole s k)) o Ok)

-- texts, from the given place of their list on
abbrev pub texts_from : Section → Key → ℕ → Items → Result (List (List ℕ)) Shape
texts_from s k i no_items = Ok []
texts_from s k i (item d ds) =
    need (wrong_kind (one s k i) kind.Text) (as_str d)
    (λ text. on_ok (texts_from s k (suc i) ds) (λ more. Ok (text ∷ more)))

-- a list of texts; none stands for an empty one
abbrev pub texts_of : Section → Key → Option Data → Result (List (List ℕ)) Shape
texts_of s k None = Ok []
texts_of s k (Some d) = need (wrong_kind (whole s k) kind.Texts) (as_array d) (texts_from s k 0)

abbrev pub texts_at : Section → Key → Members → Result (List (List ℕ)) Shape
texts_at s k ms = texts_of s k (get_member (key_word k) ms)

-- a list of texts that has to stand there
abbrev pub required_texts_at : Section → Key → Members → Result (List (List ℕ)) Shape
required_texts_at s k ms =
    need (missing (whole s k)) (get_member (key_word k) ms) (λ d. texts_of s k (Some d))

-- the row of an item that has to be a table
abbrev pub row_of : {A : Type 0} → (ℕ → Members → Result A Shape) → Key → ℕ → Data → Result A Shape
row_of row k i d = need (wrong_kind (one section.Policy k i) kind.Table) (as_table d) (row i)

-- rows of tables, from the given place of their list on
abbrev pub rows_from : {A : Type 0} → (ℕ → Members → Result A Shape) → Key → ℕ → Items →
    Result (List A) Shape
rows_from row k i no_items = Ok []
rows_from row k i (item d ds) =
    on_ok (row_of row k i d) (λ r. on_ok (rows_from row k (suc i) ds) (λ rs. Ok (r ∷ rs)))

-- a list of tables; none stands for an empty one
abbrev pub rows_of : {A : Type 0} → (ℕ → Members → Result A Shape) → Key → Option Data →
    Result (List A) Shape
rows_of row k None = Ok []
rows_of row k (Some d) =
    need (wrong_kind (whole section.Policy k) kind.Tables) (as_array d) (rows_from row k 0)

abbrev pub rows_at : {A : Type 0} → (ℕ → Members → Result A Shape) → Key → Members →
    Result (List A) Shape
rows_at row k ms = rows_of row k (get_member (key_word k) ms)
