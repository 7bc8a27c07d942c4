use Rattle.std.proofs.Common.{◌≡◌, ◌++◌, ◌∙◌, [], Ok, sym, ap, append-nil}
use Rattle.std.proofs.lemmas.Str.{is_utf8-from_IsUtf8}
use Rattle.std.specs.Option.{option_copied}
use Rattle.json.specs.Lex.{tokens}
use Rattle.spdx_tables.specs.TableReading.{rows_of}
use Rattle.spdx_tables.specs.Written.{tables_data, data_tokens}
use Rattle.spdx_tables.proofs.Back.{text_back}
use Rattle.spdx_tables.proofs.Tokens.{read_written}
use Rattle.spdx_tables.proofs.written.written_tables.Goals as goal

pub returns : goal.returns
returns c =
    let bytes = c.args.bytes.now in
    let rows = rows_of c.in-Ok-take_tables.dated.tables in
    let date = option_copied c.in-Ok-take_tables.dated.date in
    let text : c.in-Ok.text.now ≡ bytes = c.in-Ok.ensures.cases.0 in
    let written : tokens c.in-Ok.text.now ≡ data_tokens (tables_data rows date) ++ c.take_tables.new.reader = sym c.in_ok-reader.ensures.ok ∙ c.in-Ok-take_tables.ensures.tokens in
    let over : c.take_tables.new.reader ≡ [] = c.in-None.ensures.value.0 in
    let all : tokens bytes ≡ data_tokens (tables_data rows date) = ap tokens (sym text) ∙ written ∙ ap (λ ts. data_tokens (tables_data rows date) ++ ts) over ∙ append-nil _ in
    let fit = c.in-Ok-take_tables.ensures.fit in
    text_back bytes rows date fit (is_utf8-from_IsUtf8 bytes c.in-Ok.ensures.cases.1) (read_written bytes rows date fit all)
    ∙ ap Ok c.in-Ok-take_tables.ensures.numbered
