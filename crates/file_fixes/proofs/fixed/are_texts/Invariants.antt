use Rattle.std.proofs.Common.{◌≡◌, drop}
use Rattle.file_fixes.specs.ManifestFixing.{texts_of}
use Rattle.file_fixes.specs.ManifestProgress.{texts_in}
use Rattle.file_fixes.proofs.fixed.are_texts.Given as goal

abbrev pub invariant-loop-index : goal.invariant-loop-index
invariant-loop-index l =
    texts_of (drop l.index l.sites) ≡ texts_in (drop l.index l.texts)
    → texts_of l.sites ≡ texts_in l.texts
