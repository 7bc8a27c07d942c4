-- A text whose tokens are those of tables as they are written holds these tables.
use Rattle.std.proofs.Common.{◌≡◌, ℕ, suc, ◌≤◌, Bool, true, List, [], ◌∷◌, ◌++◌, Option, None, Some, option_and_then, decimal, map, flat_map, nat_le, refl, sym, ap, ◌∙◌, subst, arith, append_assoc, append-nil}
use Rattle.std.proofs.lemmas.Bool.{leb-true}
use Rattle.std.specs.List.{list_all}
use Rattle.json.specs.Token.{Token}
use Rattle.json.specs.Lex.{tokens}
use Rattle.json.specs.Json as json
use Rattle.json.specs.Tree as tree
use Rattle.json.proofs.Printed.Trees.{value-json_tokens}
use Rattle.serde_json.specs.Data.{Data, Items, no_items, item, Members, no_members, member, depth, items_depth, members_depth, unsigned}
use Rattle.serde_json.specs.Data as value
use Rattle.serde_json.specs.Read.{read, of_json, of_items, number_of, max_depth}
use Rattle.serde_json.specs.View.{items_of}
use Rattle.serde_json.specs.Written.{outline, items_outline, members_outline}
use Rattle.serde_json.proofs.Numbers.{number_of-decimal}
use Rattle.spdx_requirement.specs.Rows.{Rows, LicenseRow, ExceptionRow, ImpreciseRow}
use Rattle.spdx_tables.specs.Written.{license_data, exception_data, imprecise_data, tables_data, license_fits, exception_fits, imprecise_fits, Fit, data_tokens}
use Rattle.spdx_tables.proofs.Back.{front, back, shallow, all_fit}

-- ---- the JSON of tables reads as their data

number_back : (n : ℕ) → nat_le n 255 ≡ true → number_of (decimal n) ≡ Some (unsigned n)
number_back n fits = let small : n ≤ 255 = leb-true n 255 fits in number_of-decimal n (omega arith)

license_reads : (r : LicenseRow) → license_fits r ≡ true → of_json (outline (license_data r)) ≡ Some (license_data r)
license_reads r fits = rw (number_back r.flags fits)

exception_reads : (r : ExceptionRow) → exception_fits r ≡ true → of_json (outline (exception_data r)) ≡ Some (exception_data r)
exception_reads r fits = rw (number_back r.flags fits)

imprecise_reads : (r : ImpreciseRow) → imprecise_fits r ≡ true → of_json (outline (imprecise_data r)) ≡ Some (imprecise_data r)
imprecise_reads r fits = refl

module _ {A : Type 0} (row_data : A → Data) (fits : A → Bool) where
  rows_read : ((r : A) → fits r ≡ true → of_json (outline (row_data r)) ≡ Some (row_data r)) → (rs : List A) → list_all fits rs ≡ true
      → of_items (items_outline (items_of (map row_data rs))) ≡ Some (items_of (map row_data rs))
  rows_read each [] all = refl
  rows_read each (r ∷ rs) all = rw (each r (front (fits r) (list_all fits rs) all), rows_read each rs (back (fits r) (list_all fits rs) all))

tables_read : (c : Rows) (date : Option (List ℕ)) → Fit c → of_json (outline (tables_data c date)) ≡ Some (tables_data c date)
tables_read c None fit =
    let licenses = rows_read license_data license_fits license_reads c.licenses fit.licenses in
    let exceptions = rows_read exception_data exception_fits exception_reads c.exceptions fit.exceptions in
    let imprecise = rows_read imprecise_data imprecise_fits imprecise_reads c.imprecise (all_fit c.imprecise) in
    rw (exceptions, imprecise, licenses)
tables_read c (Some date) fit =
    let licenses = rows_read license_data license_fits license_reads c.licenses fit.licenses in
    let exceptions = rows_read exception_data exception_fits exception_reads c.exceptions fit.exceptions in
    let imprecise = rows_read imprecise_data imprecise_fits imprecise_reads c.imprecise (all_fit c.imprecise) in
    rw (exceptions, imprecise, licenses)

mutual
  depth_outline : (d : Data) → tree.depth (outline d) ≡ depth d
  depth_outline value.null = refl
  depth_outline (value.boolean b) = refl
  depth_outline (value.number n) = refl
  depth_outline (value.string s) = refl
  depth_outline (value.array ds) = ap suc (items_depth_outline ds)
  depth_outline (value.object ms) = ap suc (members_depth_outline ms)

  items_depth_outline : (ds : Items) → tree.items_depth (items_outline ds) ≡ items_depth ds
  items_depth_outline no_items = refl
  items_depth_outline (item d ds) = rw (depth_outline d, items_depth_outline ds)

  members_depth_outline : (ms : Members) → tree.members_depth (members_outline ms) ≡ members_depth ms
  members_depth_outline no_members = refl
  members_depth_outline (member k d ms) = rw (depth_outline d, members_depth_outline ms)

abbrev whole : Option (json.Json × List Token) → Option Data
whole o = option_and_then of_json (option_and_then (λ p. json.if_last p.0 p.1) o)

-- the text of the tokens of tables reads as their data
pub read_written : (text : List ℕ) (c : Rows) (date : Option (List ℕ)) → Fit c → tokens text ≡ data_tokens (tables_data c date) → read text ≡ Some (tables_data c date)
read_written text c date fit same =
    let shallow_json : tree.depth (outline (tables_data c date)) ≤ max_depth = subst (λ (n : ℕ). n ≤ max_depth) (sym (depth_outline (tables_data c date))) (shallow c date) in
    ap whole (ap (json.value max_depth) (same ∙ sym (append-nil _)) ∙ value-json_tokens (outline (tables_data c date)) max_depth [] shallow_json) ∙ tables_read c date fit

-- ---- rows one after another, and the bracket that closes their array

-- the tokens of rows within their array
abbrev pub rows_tokens : {A : Type 0} → (A → Data) → List A → List Token
rows_tokens row_data rows = flat_map (λ r. data_tokens (row_data r)) rows

module _ {A : Type 0} (row_data : A → Data) where
  -- one more row has the next tokens
  pub rows_tokens-append : (rs : List A) (r : A) (ts : List Token) → rows_tokens row_data (rs ++ r ∷ []) ++ ts ≡ rows_tokens row_data rs ++ (data_tokens (row_data r) ++ ts)
  rows_tokens-append [] r ts = ap (λ us. us ++ ts) (append-nil (data_tokens (row_data r)))
  rows_tokens-append (q ∷ rs) r ts =
      append_assoc (data_tokens (row_data q)) (rows_tokens row_data (rs ++ r ∷ [])) ts
      ∙ ap (λ us. data_tokens (row_data q) ++ us) (rows_tokens-append rs r ts)
      ∙ sym (append_assoc (data_tokens (row_data q)) (rows_tokens row_data rs) (data_tokens (row_data r) ++ ts))

  -- the rows and the bracket are what follows the opening bracket
  pub closed_rows : (rs : List A) (ts : List Token) → tree.items_tokens (items_outline (items_of (map row_data rs))) ++ ts ≡ rows_tokens row_data rs ++ Token.end_array ∷ ts
  closed_rows [] ts = refl
  closed_rows (r ∷ rs) ts =
      append_assoc (data_tokens (row_data r)) (tree.items_tokens (items_outline (items_of (map row_data rs)))) ts
      ∙ ap (λ us. data_tokens (row_data r) ++ us) (closed_rows rs ts)
      ∙ sym (append_assoc (data_tokens (row_data r)) (rows_tokens row_data rs) (Token.end_array ∷ ts))

-- what stands before what follows an array is its bracket
pub bracket_first : (ts rest : List Token) → json.after_end_array ts ≡ Some rest → ts ≡ Token.end_array ∷ rest
bracket_first [] rest e = absurd (cc)
bracket_first (Token.begin_object ∷ ts) rest e = absurd (cc)
bracket_first (Token.end_object ∷ ts) rest e = absurd (cc)
bracket_first (Token.begin_array ∷ ts) rest e = absurd (cc)
bracket_first (Token.end_array ∷ ts) rest e = cc
bracket_first (Token.key s ∷ ts) rest e = absurd (cc)
bracket_first (Token.string s ∷ ts) rest e = absurd (cc)
bracket_first (Token.number s ∷ ts) rest e = absurd (cc)
bracket_first (Token.boolean b ∷ ts) rest e = absurd (cc)
bracket_first (Token.null ∷ ts) rest e = absurd (cc)
bracket_first (Token.bad ∷ ts) rest e = absurd (cc)

-- what holds of each row, and of one more
pub all_and_one : {A : Type 0} (fits : A → Bool) (rs : List A) (r : A) → list_all fits rs ≡ true → fits r ≡ true → list_all fits (rs ++ r ∷ []) ≡ true
all_and_one fits [] r all one = rw one
all_and_one fits (q ∷ rs) r all one = rw (front (fits q) (list_all fits rs) all) (all_and_one fits rs r (back (fits q) (list_all fits rs) all) one)
