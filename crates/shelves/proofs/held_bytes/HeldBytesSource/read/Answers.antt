use Rattle.std.proofs.Common.{drop, rules}
use Rattle.shelves.proofs.Given.{gives, ends}
use Rattle.shelves.proofs.held_bytes.HeldBytesSource.read.Goals as goal

pub returns-clause-bytes : goal.returns-clause-bytes
returns-clause-bytes c =
    let held = c.args.self.now in
    let bytes = held.bytes.items in
    let n = c.min-count.result in (
      gives bytes (drop n c.args.buffer.now) c.copy_from_slice.new.self held.given n (search rules) (search rules),
      ends bytes c.args.buffer.now c.copy_from_slice.new.self held.given n (search rules) (search rules),
    )
