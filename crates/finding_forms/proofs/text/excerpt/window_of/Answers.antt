use Rattle.std.proofs.Common.{arith}
use Rattle.std.proofs.lemmas.Str.{IsCharBoundary-start}
use Rattle.finding_forms.proofs.Excerpts.{from_is, to_is}
use Rattle.finding_forms.proofs.text.excerpt.window_of.Goals as goal

pub returns-then-text-le200-clause-begins : goal.returns-then-text-le200-clause-begins
returns-then-text-le200-clause-begins c = IsCharBoundary-start c.args.text.now c.utf8.text

pub returns-clause-from : goal.returns-clause-from
returns-clause-from c =
    from_is c.args.text.now c.args.start c.saturating_sub.result c.ceil_char_boundary.result (omega arith) (cc) (omega arith) c.ceil_char_boundary.ensures.boundary c.ceil_char_boundary.ensures.nearest

pub returns-clause-to : goal.returns-clause-to
returns-clause-to c =
    to_is c.args.text.now c.args.start c.min.result c.floor_char_boundary.result (omega arith) (omega arith) c.floor_char_boundary.ensures.bound c.floor_char_boundary.ensures.boundary c.floor_char_boundary.ensures.nearest
