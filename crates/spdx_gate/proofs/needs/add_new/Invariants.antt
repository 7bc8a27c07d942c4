use Rattle.std.proofs.Common.{◌≡◌, drop, map, string_bytes}
use Rattle.std.specs.Prelude.{fold}
use Rattle.spdx_gate.specs.Counts.{Has}
use Rattle.spdx_gate.specs.Needs.{texts_of, with_text}
use Rattle.spdx_gate.proofs.needs.add_new.Given as goal

abbrev pub invariant-loop-text : goal.invariant-loop-text
invariant-loop-text l =
    (Has l.met (texts_of l.once.items))
    × (fold with_text (texts_of l.once.items) (map string_bytes (drop l.text-index l.texts)) ≡ fold with_text (texts_of l.initial.once.items) (map string_bytes l.texts))
