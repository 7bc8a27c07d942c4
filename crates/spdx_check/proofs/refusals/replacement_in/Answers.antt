use Rattle.std.proofs.Common.{rules, ◌≡◌, List, Option, option_map, find, map, bytes_eq, string_bytes, ℕ, Some, None, ap, sym, ◌∙◌}
use Rattle.spdx_list.specs.Files.{ReplacementRow}
use Rattle.spdx_list.specs.Shown.{shown_replacement}
use Rattle.spdx_list.specs.declared.extras.Replacement.{Replacement}
use Rattle.spdx_catalogue.proofs.Mapped.{find_map}
use Rattle.spdx_check.proofs.refusals.replacement_in.Goals as goal

-- what the first row of that name says
shown : (rows : List Replacement) (name : List ℕ) (o : Option Replacement) → o ≡ find (λ (r : Replacement). bytes_eq (string_bytes r.name) name) rows
    → option_map (λ (r : Replacement). string_bytes r.write) o ≡ option_map (λ (r : ReplacementRow). r.write) (find (λ (r : ReplacementRow). bytes_eq r.name name) (map shown_replacement rows))
shown rows name o is = twice o ∙ ap (λ x. option_map (λ (r : ReplacementRow). r.write) (option_map shown_replacement x)) is ∙ ap (option_map (λ (r : ReplacementRow). r.write)) (sym (find_map (λ (r : ReplacementRow). bytes_eq r.name name) shown_replacement rows))
  where
    twice : (o : Option Replacement) → option_map (λ (r : Replacement). string_bytes r.write) o ≡ option_map (λ (r : ReplacementRow). r.write) (option_map shown_replacement o)
    twice None = search rules
    twice (Some r) = search rules

pub returns-in_err-row : goal.returns-in_err-row
returns-in_err-row c =
    let found : None ≡ find (λ (r : Replacement). bytes_eq (string_bytes r.name) c.args.name.now) c.args.replacements.now = search rules in
    let value = shown c.args.replacements.now c.args.name.now None found in
    search (rules, value)

pub returns : goal.returns
returns c =
    let found : Some c.in_ok-row.row.now ≡ find (λ (r : Replacement). bytes_eq (string_bytes r.name) c.args.name.now) c.args.replacements.now = search rules in
    let value = shown c.args.replacements.now c.args.name.now (Some c.in_ok-row.row.now) found in
    search (rules, value)
