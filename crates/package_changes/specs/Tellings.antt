-- The words of what is told.
use Rattle.std.specs.Prelude.{ℕ, List, [], codes}
use Rattle.package_changes.specs.declared.tellings.How.{How}
use Rattle.package_changes.specs.declared.tellings.How.TheVariants as how
use Rattle.package_changes.specs.declared.tellings.Reason.{Reason}
use Rattle.package_changes.specs.declared.tellings.Reason.TheVariants as reason

-- what a line says
abbrev pub how_words : How → List ℕ
how_words how.Came = codes "came"
how_words how.Went = codes "went"
how_words how.Rewritten = codes "written otherwise"
how_words how.SameMeaning = codes "same meaning"
how_words how.More = codes "asks for more"
how_words how.Less = codes "asks for less"
how_words how.Other = codes "asks for other"
how_words how.Untold = codes "can't be told"

-- the word for machines
abbrev pub how_name : How → List ℕ
how_name how.Came = codes "came"
how_name how.Went = codes "went"
how_name how.Rewritten = codes "rewritten"
how_name how.SameMeaning = codes "same-meaning"
how_name how.More = codes "more"
how_name how.Less = codes "less"
how_name how.Other = codes "other"
how_name how.Untold = codes "untold"

abbrev pub reason_words : Reason → List ℕ
reason_words reason.Told = []
reason_words reason.Unstated = codes "not stated"
reason_words reason.Unread = codes "no expression"
reason_words reason.TooManySets = codes "too many sets"

abbrev pub reason_name : Reason → List ℕ
reason_name reason.Told = []
reason_name reason.Unstated = codes "unstated"
reason_name reason.Unread = codes "unread"
reason_name reason.TooManySets = codes "too-many-sets"
