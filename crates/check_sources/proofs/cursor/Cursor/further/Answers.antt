use Rattle.std.proofs.Common.{ap, sym, ◌∙◌, arith}
use Rattle.text_places.specs.Places.{character_count}
use Rattle.std.proofs.lemmas.Bool.{ne_eqb}
use Rattle.check_sources.proofs.Further.{line_further, other_begins, other_column_of, same_begins, same_column_of}
use Rattle.check_sources.proofs.cursor.Cursor.further.Goals as goal

pub invariant_of-result : goal.invariant_of-result
invariant_of-result c =
    let bytes = c.args.self.now.bytes.now in
    let a = c.args.self.now.at in
    let b = c.args.at in
    let le = c.requires.further in
    let e = sym c.last_line_len-last.ensures.value ∙ c.if-last-skipped.true in
    record {
      within = c.requires.within;
      begins = omega (arith, same_begins bytes a b le c.requires.within e);
      line_is = omega (arith, c.newline_count.ensures, line_further bytes a b le);
      column_is = omega (arith, c.character_count.ensures, same_column_of bytes a b le e);
    }

pub invariant_of-result-2 : goal.invariant_of-result-2
invariant_of-result-2 c =
    let bytes = c.args.self.now.bytes.now in
    let a = c.args.self.now.at in
    let b = c.args.at in
    let le = c.requires.further in
    let e = ne_eqb _ _ (λ same. c.if-last-skipped.false (c.last_line_len-last.ensures.value ∙ same)) in
    record {
      within = c.requires.within;
      begins = omega (arith, c.last_line_len-last.ensures.value, other_begins bytes a b le e);
      line_is = omega (arith, c.newline_count.ensures, line_further bytes a b le);
      column_is = omega (arith, other_column_of bytes a b le e, ap character_count c.last_line.ensures);
    }
