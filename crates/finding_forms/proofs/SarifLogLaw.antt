-- A log of SARIF reads back, whatever its results, where their numbers are numbers and they nest little.
use Rattle.std.proofs.Common.{◌≡◌, ℕ, ◌≤◌, List, [], ◌∷◌, ◌++◌, Bool, true, false, fold, codes, Some, refl, sym, ap, ◌∙◌, append_assoc, arith}
use Rattle.json.specs.Token.{Token}
use Rattle.json.specs.Json.{Json, null, boolean, number, string, array, object, Items, no_items, item, Members, no_members, member, max_depth, document}
use Rattle.json.specs.Print.{print, print_from, ends}
use Rattle.json.specs.Tree.{json_tokens, items_tokens, members_tokens, depth, items_depth, HasNumbers, ItemsHaveNumbers}
use Rattle.json.proofs.Printed.Tokens.{print_from-append}
use Rattle.json.proofs.Printed.Trees.{document-print}
use Rattle.finding_forms.specs.SarifLog.{items_of, log_of, log_text, results_text, beginning_tokens, sarif_beginning}

-- whether a value has just ended, behind these tokens
abbrev ended : Bool → List Token → Bool
ended b ts = fold (λ _ u. ends u) b ts

ended-append : (b : Bool) (ts us : List Token) → ended b (ts ++ us) ≡ ended (ended b ts) us
ended-append b [] us = refl
ended-append b (t ∷ ts) us = ended-append (ends t) ts us

mutual
  ended-json_tokens : (b : Bool) (j : Json) → ended b (json_tokens j) ≡ true
  ended-json_tokens b null = refl
  ended-json_tokens b (boolean x) = refl
  ended-json_tokens b (number s) = refl
  ended-json_tokens b (string s) = refl
  ended-json_tokens b (array js) = ended-items_tokens false js
  ended-json_tokens b (object ms) = ended-members_tokens false ms

  ended-items_tokens : (b : Bool) (js : Items) → ended b (items_tokens js) ≡ true
  ended-items_tokens b no_items = refl
  ended-items_tokens b (item j js) =
      ended-append b (json_tokens j) (items_tokens js) ∙ ended-items_tokens (ended b (json_tokens j)) js

  ended-members_tokens : (b : Bool) (ms : Members) → ended b (members_tokens ms) ≡ true
  ended-members_tokens b no_members = refl
  ended-members_tokens b (member k j ms) =
      ended-append false (json_tokens j) (members_tokens ms) ∙ ended-members_tokens (ended false (json_tokens j)) ms

-- what stands behind the results
abbrev closing : List Token
closing = Token.end_object ∷ Token.end_array ∷ Token.end_object ∷ []

one_result : (b : Bool) (j : Json) (rest : List Token) → print_from b (json_tokens j ++ rest) ≡ print_from b (json_tokens j) ++ print_from true rest
one_result b j rest =
    print_from-append b (json_tokens j) rest
    ∙ ap (λ (c : Bool). print_from b (json_tokens j) ++ print_from c rest) (ended-json_tokens b j)

-- a value behind another has a comma before it
later_value : (j : Json) → print_from true (json_tokens j) ≡ 44 ∷ print (json_tokens j)
unfolding print_from
later_value null = refl
later_value (boolean x) = refl
later_value (number s) = refl
later_value (string s) = refl
later_value (array js) = refl
later_value (object ms) = refl

later_results : (js : List Json) → print_from true (items_tokens (items_of js) ++ closing) ≡ results_text false js ++ codes "]}]}"
unfolding print_from
later_results [] = refl
later_results (j ∷ js) =
    ap (print_from true) (append_assoc (json_tokens j) (items_tokens (items_of js)) closing)
    ∙ one_result true j (items_tokens (items_of js) ++ closing)
    ∙ ap (λ (text : List ℕ). text ++ print_from true (items_tokens (items_of js) ++ closing)) (later_value j)
    ∙ ap (λ (text : List ℕ). (44 ∷ print (json_tokens j)) ++ text) (later_results js)
    ∙ sym (append_assoc (44 ∷ print (json_tokens j)) (results_text false js) (codes "]}]}"))

all_results : (js : List Json) → print_from false (items_tokens (items_of js) ++ closing) ≡ results_text true js ++ codes "]}]}"
unfolding print_from
all_results [] = refl
all_results (j ∷ js) =
    ap (print_from false) (append_assoc (json_tokens j) (items_tokens (items_of js)) closing)
    ∙ one_result false j (items_tokens (items_of js) ++ closing)
    ∙ ap (λ (text : List ℕ). print (json_tokens j) ++ text) (later_results js)
    ∙ sym (append_assoc (print (json_tokens j)) (results_text false js) (codes "]}]}"))

printed : (version : List ℕ) (js : List Json) → print (json_tokens (log_of version js)) ≡ log_text version js
printed version js =
    let results = items_tokens (items_of js) in
    let last = Token.end_object ∷ [] in
    let end = Token.end_array ∷ [] in
    ap (λ (rest : List Token). print (beginning_tokens version ++ rest)) (append_assoc (results ++ last) end last ∙ append_assoc results last (end ++ last))
    ∙ print_from-append false (beginning_tokens version) (results ++ closing)
    ∙ ap (λ (text : List ℕ). sarif_beginning version ++ text) (all_results js)

log_numbers : (version : List ℕ) (js : List Json) → ItemsHaveNumbers (items_of js) → HasNumbers (log_of version js)
log_numbers version js h = (tt, (tt, ((((((tt, (tt, tt)), tt), (tt, (h, tt)))), tt), tt)))

log_depth : (version : List ℕ) (js : List Json) → items_depth (items_of js) ≤ 13 → depth (log_of version js) ≤ max_depth
log_depth version js h = omega (arith, h)

pub log_reads_back : (version : List ℕ) (js : List Json) → ItemsHaveNumbers (items_of js) → items_depth (items_of js) ≤ 13 → document (log_text version js) ≡ Some (log_of version js)
log_reads_back version js h shallow =
    ap document (sym (printed version js)) ∙ document-print (log_of version js) (log_numbers version js h) (log_depth version js shallow)
