use Rattle.std.proofs.Common.{Bor, List, ℕ, ◌∙◌, sym, refl, inl, inr, map, Some, ◌∷◌, []}
use Rattle.std.proofs.lemmas.List.{map-append}
use Rattle.csv.specs.Reading.{Reached, strip_bom}
use Rattle.csv.specs.Records.{fields_of}
use Rattle.csv.specs.declared.parser.State.TheVariants as st
use Rattle.csv.proofs.ReadFacts.{rows-end, rows-more}
use Rattle.package_readers.specs.Separated.{config_of}
use Rattle.package_readers.proofs.Records.{all_records}
use Rattle.package_readers.proofs.separated.records_of.Goals as goal

pub loop-row-init : goal.loop-row-init
unfolding Reached
loop-row-init c =
    let fr = c.from_reader-reader.ensures in
    let flexible = c.flexible.ensures in
    let headers = c.has_headers.ensures in
    let delimiter = c.delimiter.ensures in
    let start = c.into_iter-row-iterator.ensures.into_iter_gives ∙ refl in
    let rdr = c.into_byte_records-row-items.ensures.rdr in
    let left = c.into_byte_records-row-items.ensures.left in
    rw (start, rdr, c.new-records.ensures.items) (
      rw (flexible, headers, delimiter) at fr.trim ∙ c.new.ensures.trim,
      inr (inr (rw (flexible, headers) at fr.has_headers, fr.headers)),
      left,
      rw (flexible, headers, delimiter, c.new.ensures.config, c.separator_byte.ensures) at fr.config,
      strip_bom c.args.bytes.now,
      fr.source,
      (sym fr.state, refl),
    )

pub loop-row-preserved : goal.loop-row-preserved
loop-row-preserved c =
    let inv = c.loop-row.invariant in
    let s = rw (c.in-Some.is, c.in-Ok.is) at ((c.next.ensures.steps inv.2 inv.0).0 inv.1) in
    let items = c.in_ok-push-in-Ok.ensures.items in
    let m = rows-more (λ (s : Bor (List ℕ)). Some s.now) c.loop-row.row-iterator.rdr c.next.new.self.rdr (fields_of c.in-Ok.row) (config_of c.args.separator) st.StartRecord (strip_bom c.args.bytes.now) inv.4 (map fields_of c.loop-row.records.items) inv.3 inv.5 inv.6 s.0 in
    (s.0.3 ∙ inv.0, inl s.1, s.2, s.0.2 ∙ inv.3, m.0, m.1, rw (items, map-append fields_of c.loop-row.records.items (c.in-Ok.row ∷ [])) m.2)

pub returns : goal.returns
returns c =
    let inv = c.loop-row.invariant in
    let s = rw c.in-None.is at ((c.next.ensures.steps inv.2 inv.0).0 inv.1) in
    let none = rows-end (λ (s : Bor (List ℕ)). Some s.now) c.loop-row.row-iterator.rdr c.next.new.self.rdr [] (config_of c.args.separator) inv.4 inv.3 inv.5 s in
    all_records (config_of c.args.separator) (strip_bom c.args.bytes.now) (map fields_of c.loop-row.records.items) (c.loop-row.row-iterator.rdr.state, inv.4, inv.6, none)
