-- What is shown, as a finding has it.
use Rattle.std.specs.Prelude.{string_bytes}
use Rattle.finding_forms.specs.Finding.{Seen}
use Rattle.check_sources.specs.declared.line_excerpt.LineExcerpt.{LineExcerpt}

abbrev pub seen_in : LineExcerpt → Seen
seen_in s = record {
  line = s.line;
  column = s.column;
  text = string_bytes s.text;
  start = s.start;
  end = s.end;
}
