-- The document of the changes.
use Rattle.std.proofs.Common.{◌≡◌, ℕ, ◌≤◌, List, [], ◌∷◌, ◌++◌, length, take, Option, None, Some, flat_map, refl, ap, ◌∙◌, append_assoc, arith}
use Rattle.std.proofs.lemmas.List.{take_all}
use Rattle.json.specs.Token.{Token}
use Rattle.json.specs.Lex.{tokens}
use Rattle.json.specs.Json.{document}
use Rattle.json.specs.Tree.{json_tokens, items_tokens, depth, items_depth}
use Rattle.finding_forms.proofs.JsonLines.{document-from}
use Rattle.package_changes.specs.declared.tellings.Release.{Release}
use Rattle.package_changes.specs.declared.tellings.Telling.{Telling}
use Rattle.package_changes.specs.Tellings.{reason_name}
use Rattle.package_changes.specs.Json.{text_json, side_json, json_of, items_of, json_of_all, json_text}

abbrev pub tokens_of : Telling → List Token
tokens_of t = json_tokens (json_of t)

item_tokens : (ts : List Telling) → flat_map tokens_of ts ++ Token.end_array ∷ [] ≡ items_tokens (items_of ts)
item_tokens [] = refl
item_tokens (t ∷ ts) = append_assoc (tokens_of t) (flat_map tokens_of ts) (Token.end_array ∷ []) ∙ ap (λ (xs : List Token). tokens_of t ++ xs) (item_tokens ts)

pub item_tokens_all : (ts : List Telling) (n : ℕ) → length ts ≤ n → flat_map tokens_of (take n ts) ++ Token.end_array ∷ [] ≡ items_tokens (items_of ts)
item_tokens_all ts n all = rw (take_all n ts all) (item_tokens ts)

text_depth : (text : List ℕ) → depth (text_json text) ≡ 0
text_depth [] = refl
text_depth (b ∷ bs) = refl

side_depth : (side : Option Release) → depth (side_json side) ≤ 1
side_depth None = omega arith
side_depth (Some r) = omega (arith, text_depth r.version.now, text_depth r.license.now)

json_depth : (t : Telling) → depth (json_of t) ≤ 2
json_depth t = omega (arith, side_depth t.old, side_depth t.new, text_depth t.enough_before.now, text_depth t.enough_now.now, text_depth (reason_name t.untold_before), text_depth (reason_name t.untold_now))

items_depth-all : (ts : List Telling) → items_depth (items_of ts) ≤ 2
items_depth-all [] = omega arith
items_depth-all (t ∷ ts) = omega (arith, json_depth t, items_depth-all ts)

pub reads_back_from : (ts : List Telling) → tokens (json_text ts) ≡ json_tokens (json_of_all ts) → document (json_text ts) ≡ Some (json_of_all ts)
reads_back_from ts e = document-from (json_text ts) (json_of_all ts) e (omega (arith, items_depth-all ts))
