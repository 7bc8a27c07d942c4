-- What would make a refused expression pass: entries that `allow` could have besides.
use Rattle.std.specs.Prelude.{◌≡◌, ℕ, Bool, true, false, not, List, [], ◌∷◌, ◌++◌, map, filter, flat_map, fold, length, slice_get, string_bytes, All, Contains}
use Rattle.std.specs.Option.{option_map_or}
use Rattle.spdx_requirement.specs.Items.{Requirement}
use Rattle.spdx_requirement.specs.Texts.{requirement_text}
use Rattle.spdx_parser.specs.Tree.{Tree, leaves}
use Rattle.spdx_evaluation.specs.Truth.{holds}
use Rattle.spdx_policy.specs.Blame.{IsNoEntry}
use Rattle.spdx_policy.specs.Decisions.{is_denied_way, frees, ways_of}
use Rattle.spdx_policy.specs.Growing.{with_allowed}
use Rattle.spdx_policy.specs.Meant.{IsNamed}
use Rattle.spdx_policy.specs.Rules.{NamedRow, Rules}
use Rattle.spdx_policy.specs.Scopes.{places}
use Rattle.spdx_why.specs.Least.{Choice, chosen, unmet, too_many}
use Rattle.spdx_why.specs.Serving.{choice_among}
use Rattle.spdx_gate.specs.declared.advice.Advice.{Advice}
use Rattle.spdx_gate.specs.declared.advice.Advice.TheVariants as advice
use Rattle.spdx_gate.specs.Allowing.{allowed_in}
use Rattle.spdx_gate.specs.Texts.{with_text, each_once}

-- the licences under which each requirement of a tree may be had
abbrev pub ways_in : Rules → Tree → List (List Requirement)
ways_in p t = map (ways_of p) (leaves t)

-- the texts of licences that nothing denies
abbrev pub free_texts : Rules → List ℕ → List Requirement → List (List ℕ)
free_texts p tables ways = map requirement_text (filter (λ w. not (is_denied_way p tables w)) ways)

abbrev pub unless : Bool → List (List ℕ) → List (List ℕ)
unless true texts = []
unless false texts = texts

-- what would allow a requirement that isn't allowed: the licences under which it may be had, but
-- for what is denied
abbrev pub wanted_of : Rules → List ℕ → Requirement → List (List ℕ)
wanted_of p tables r = unless (allowed_in p tables r) (free_texts p tables (ways_of p r))

-- of all requirements of a tree, each text once, in the order of the tree
abbrev pub wanted_in : Rules → List ℕ → Tree → List (List ℕ)
wanted_in p tables t = each_once (flat_map (wanted_of p tables) (leaves t))

-- the entries of texts, in their order; a text that is no entry has none
pub data AreEntries (p : Rules) : List (List ℕ) → List NamedRow → Type 0 where
  none : AreEntries p [] []
  entry : {text : List ℕ} {n : NamedRow} {texts : List (List ℕ)} {ns : List NamedRow}
      → IsNamed p.list p.replacements text n → AreEntries p texts ns
      → AreEntries p (text ∷ texts) (n ∷ ns)
  no_entry : {text : List ℕ} {texts : List (List ℕ)} {ns : List NamedRow}
      → IsNoEntry p.list text → AreEntries p texts ns → AreEntries p (text ∷ texts) ns

-- where the offers were the entries of some texts, they are those of these texts besides
abbrev pub AddsOffers : Rules → List (List ℕ) → List NamedRow → List NamedRow → Type 0
AddsOffers p texts old new =
    (known : List (List ℕ)) → AreEntries p known old → AreEntries p (fold with_text known texts) new

-- what is wanted, where each of these says whether the requirement is accepted
abbrev pub wanted_by : Rules → List ℕ → List Bool → List (List Requirement) → List (List ℕ)
wanted_by p tables accepted [] = []
wanted_by p tables [] (ways ∷ each) = free_texts p tables ways ++ wanted_by p tables [] each
wanted_by p tables (a ∷ accepted) (ways ∷ each) =
    unless a (free_texts p tables ways) ++ wanted_by p tables accepted each

-- which of the offers would allow each requirement
abbrev pub serving_of : Rules → List ℕ → List NamedRow → List (List Requirement) → List (List ℕ)
serving_of p tables offers each = map (λ ws. places (frees p tables ws) offers) each

-- the text of the offer of that number, if there is one
abbrev pub offered_text : List NamedRow → ℕ → List ℕ
offered_text offers k = option_map_or (λ (n : NamedRow). n.text) (slice_get offers k) []

abbrev pub offered_texts : List NamedRow → List ℕ → List (List ℕ)
offered_texts offers numbers = map (offered_text offers) numbers

-- the advice says what was chosen among the offers
abbrev pub Advises : List NamedRow → Advice → Choice → Type 0
Advises offers (advice.Allow texts) (chosen numbers) =
    map string_bytes texts.items ≡ offered_texts offers numbers
Advises offers (advice.Allow texts) unmet = ⊥
Advises offers (advice.Allow texts) (too_many n) = ⊥
Advises offers advice.Unmet c = c ≡ unmet
Advises offers (advice.TooMany n) c = c ≡ too_many n

-- some entry among these is what the policy's file makes of the text
abbrev pub HasEntry : Rules → List NamedRow → List ℕ → Type 0
HasEntry p more text = (n : NamedRow) × Contains more n × IsNamed p.list p.replacements text n

-- With entries of these texts in `allow`, whatever the policy's file makes of them, the expression
-- passes; also where others stand beside them.
abbrev pub AdviceWorks : Rules → List ℕ → Tree → Advice → Type 0
AdviceWorks p tables t (advice.Allow texts) =
    (more : List NamedRow) → All (HasEntry p more) (map string_bytes texts.items)
    → holds (allowed_in (with_allowed p more) tables) t ≡ true
AdviceWorks p tables t advice.Unmet = Unit {0}
AdviceWorks p tables t (advice.TooMany n) = Unit {0}

-- the least choice among the offers that makes the tree pass beside what is allowed; with it the
-- expression passes
pub record IsAdvised (p : Rules) (tables : List ℕ) (t : Tree) (a : Advice) : Type 0 where
  pub offers : List NamedRow
  pub are_offers : AreEntries p (wanted_in p tables t) offers
  pub advises : Advises offers a
      (choice_among t (map (allowed_in p tables) (leaves t))
      (serving_of p tables offers (ways_in p t)) (length offers))
  pub works : AdviceWorks p tables t a
