-- What the code holds, borrows aside.
use Rattle.check_sources.specs.declared.findings.Source as held
use Rattle.check_sources.specs.declared.findings.written.Part as code
use Rattle.check_sources.specs.declared.findings.written.Written as code_written
use Rattle.check_sources.specs.Findings.{Source}
use Rattle.check_sources.specs.Written.{Part, Written}

abbrev pub source_of : held.Source → Source
source_of s = record { path = s.path.now; bytes = s.bytes.now }

abbrev pub part_of : code.Part → Part
part_of p = record { from = p.from; len = p.len }

abbrev pub stood : code_written.Written → Written
stood w = record { start = w.start; end = w.end; text = w.text.now }
