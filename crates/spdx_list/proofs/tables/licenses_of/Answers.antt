use Rattle.std.proofs.Common.{rules, ◌≡◌, ◌++◌, ◌∷◌, [], true, map, string_bytes, ap, ◌∙◌}
use Rattle.std.proofs.lemmas.List.{map-append}
use Rattle.std.specs.BTreeSet.{contains_text}
use Rattle.spdx_requirement.specs.Rows.{row_of}
use Rattle.spdx_list.specs.Files as spec
use Rattle.spdx_list.specs.Shown.{entry_of}
use Rattle.spdx_list.proofs.Named.{kept}
use Rattle.spdx_list.proofs.tables.licenses_of.Goals as goal

pub loop-entry-preserved-in-Continue-branch-2 : goal.loop-entry-preserved-in-Continue-branch-2
loop-entry-preserved-in-Continue-branch-2 c =
    let names = map string_bytes c.args.copyleft.now in
    let entry = c.in-Some.entry in
    let items : c.push.new.self.items ≡ c.loop-entry.rows.items ++ c.license_of.result ∷ [] = c.in_ok-push.ensures.items in
    let known : c.contains-is_copyleft.result ≡ spec.is_among names (string_bytes entry.name) =
    c.contains-is_copyleft.ensures ∙ ap (contains_text c.in_ok-names.names) c.as_str-then-not-ends_in_plus.ensures.value ∙ c.in_ok-names.ensures (string_bytes entry.name) in
    let row : row_of c.license_of.result ≡ spec.license_of names (entry_of entry) = c.license_of.ensures ∙ ap (λ b. spec.license_row b (entry_of entry)) known in
    let keep : spec.is_listed (entry_of entry) ≡ true = search rules in
    ap (map row_of) items ∙ map-append row_of c.loop-entry.rows.items (c.license_of.result ∷ [])
    ∙ kept entry_of spec.is_listed (spec.license_of names) c.loop-entry.yielded entry (map row_of c.loop-entry.rows.items) (row_of c.license_of.result) c.loop-entry.invariant keep row
