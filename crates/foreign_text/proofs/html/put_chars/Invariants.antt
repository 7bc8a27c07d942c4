use Rattle.std.proofs.Common.{◌≡◌, ◌++◌, flat_map}
use Rattle.foreign_text.specs.PageText.{page_char}
use Rattle.foreign_text.proofs.html.put_chars.Given as goal

abbrev pub invariant-loop-letter : goal.invariant-loop-letter
invariant-loop-letter l =
    l.page.items ≡ l.initial.page.items ++ flat_map page_char l.yielded
