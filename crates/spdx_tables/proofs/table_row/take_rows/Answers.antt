use Rattle.std.proofs.Common.{arith, ◌≡◌, ◌+◌, ◌∷◌, ◌++◌, [], length, map, sym, ap, ◌∙◌}
use Rattle.std.specs.List.{list_all}
use Rattle.std.proofs.lemmas.List.{map-append}
use Rattle.std.proofs.lemmas.Grind.{common_steps}
use Rattle.json.specs.Token.{key as key_token, begin_array}
use Rattle.spdx_tables.specs.Places.{numbered}
use Rattle.spdx_tables.proofs.Numbered.{numbered-append, length-map_lem}
use Rattle.spdx_tables.proofs.Tokens.{rows_tokens, rows_tokens-append, closed_rows, bracket_first, all_and_one}
use Rattle.spdx_tables.proofs.table_row.take_rows.Goals as goal

pub loop-alloc-preserved : goal.loop-alloc-preserved
loop-alloc-preserved g c =
    let shown = g.R.TableRow.shown in
    let as_data = g.R.TableRow.as_data in
    let place = g.R.TableRow.place in
    let fits = g.R.TableRow.fits in
    let done = c.loop-alloc.rows.items in
    let row = c.in_ok-row.row in
    let more : map shown c.push.new.self.items ≡ map shown done ++ shown row ∷ [] = ap (map shown) c.in_ok-push.ensures.items ∙ map-append shown done (row ∷ []) in
    let same : c.take_end_array.new.self ≡ c.loop-alloc.reader = c.loop-alloc-test.ensures.1 in
    let index : c.len.result ≡ 0 + length (map shown done) = c.len.ensures ∙ c.loop-alloc.invariant.count ∙ sym (length-map_lem shown done) ∙ omega arith in
    record {
      count = grind (arith, common_steps, c.in_ok-push.ensures.len);
      tokens =
          c.loop-alloc.invariant.tokens
          ∙ ap (λ ts. rows_tokens as_data (map shown done) ++ ts) (sym same ∙ c.in_ok-row.ensures.tokens)
          ∙ sym (rows_tokens-append as_data (map shown done) (shown row) c.take.new.reader)
          ∙ ap (λ rs. rows_tokens as_data rs ++ c.take.new.reader) (sym more);
      fit = ap (list_all fits) more ∙ all_and_one fits (map shown done) (shown row) c.loop-alloc.invariant.fit c.in_ok-row.ensures.fit;
      numbered =
          ap (numbered place 0) more ∙ numbered-append place 0 (map shown done) (shown row)
          ∙ ap (λ rs. rs ++ place (0 + length (map shown done)) (shown row) ∷ []) c.loop-alloc.invariant.numbered
          ∙ ap (λ (n : _). map shown done ++ place n (shown row) ∷ []) (sym index)
          ∙ ap (λ r. map shown done ++ r ∷ []) c.in_ok-row.ensures.placed ∙ sym more;
    }

pub returns-clause-tokens : goal.returns-clause-tokens
returns-clause-tokens g c =
    let shown = g.R.TableRow.shown in
    let as_data = g.R.TableRow.as_data in
    let done = c.loop-alloc.rows.items in
    let rest = c.take_end_array.new.self in
    let bracket = bracket_first c.loop-alloc.reader rest c.loop-alloc-test.ensures in
    c.in_ok-take_begin_array.ensures
    ∙ ap (λ ts. key_token c.args.key.now ∷ begin_array ∷ ts)
    (c.loop-alloc.invariant.tokens ∙ ap (λ ts. rows_tokens as_data (map shown done) ++ ts) bracket ∙ sym (closed_rows as_data (map shown done) rest))
