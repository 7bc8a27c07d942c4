-- A change as a line.
use Rattle.std.specs.Prelude.{ℕ, List, [], ◌∷◌, ◌++◌, Bool, true, false, Option, None, Some, if◌then◌else◌, bytes_eq, codes}
use Rattle.foreign_text.specs.declared.sinks.Sink.TheVariants.{Line}
use Rattle.foreign_text.specs.Written.{text_for}
use Rattle.package_changes.specs.declared.tellings.Reason.{Reason}
use Rattle.package_changes.specs.declared.tellings.Reason.TheVariants.{Told, Unstated, Unread, TooManySets}
use Rattle.package_changes.specs.declared.tellings.Release.{Release}
use Rattle.package_changes.specs.declared.tellings.Telling.{Telling}
use Rattle.package_changes.specs.Tellings.{how_words, reason_words}

-- words of ours and a text of others, where there is one
abbrev pub behind : List ℕ → List ℕ → List ℕ
behind words [] = []
behind words (b ∷ bs) = words ++ text_for Line (b ∷ bs)

-- a version that stayed is told once
abbrev pub both_versions : List ℕ → List ℕ → List ℕ
both_versions old new =
    behind (codes " ") old ++ (if bytes_eq old new then [] else behind (codes " to ") new)

unfoldable pub versions_text : Option Release → Option Release → List ℕ
versions_text None None = []
versions_text (Some old) None = behind (codes " ") old.version.now
versions_text None (Some new) = behind (codes " ") new.version.now
versions_text (Some old) (Some new) = both_versions old.version.now new.version.now

abbrev pub license_text : List ℕ → List ℕ
license_text [] = codes "no license"
license_text (b ∷ bs) = text_for Line (b ∷ bs)

unfoldable pub licenses_text : Option Release → Option Release → List ℕ
licenses_text None None = []
licenses_text (Some old) None = license_text old.license.now
licenses_text None (Some new) = license_text new.license.now
licenses_text (Some old) (Some new) =
    license_text old.license.now ++ (codes " to " ++ license_text new.license.now)

-- a text of others and words of ours, where there is one
unfoldable pub enough_text : List ℕ → List ℕ → List ℕ
enough_text [] words = []
enough_text (b ∷ bs) words = codes "; " ++ (text_for Line (b ∷ bs) ++ words)

abbrev pub reason_text : Reason → List ℕ → List ℕ
reason_text Told words = []
reason_text Unstated words = codes "; " ++ (reason_words Unstated ++ words)
reason_text Unread words = codes "; " ++ (reason_words Unread ++ words)
reason_text TooManySets words = codes "; " ++ (reason_words TooManySets ++ words)

unfoldable pub refused_text : Bool → List ℕ
refused_text true = codes "; refused"
refused_text false = []

unfoldable pub enough_texts : Telling → List ℕ
enough_texts t =
    enough_text t.enough_before.now (codes " was enough") ++
    enough_text t.enough_now.now (codes " is enough now")

unfoldable pub reason_texts : Telling → List ℕ
reason_texts t =
    reason_text t.untold_before (codes " before") ++ reason_text t.untold_now (codes " now")

unfoldable pub notes_text : Telling → List ℕ
notes_text t = enough_texts t ++ (reason_texts t ++ refused_text t.is_refused)

unfoldable pub line_of : Telling → List ℕ
line_of t =
    how_words t.how ++ (codes ": " ++
    (text_for Line t.name.now ++ (versions_text t.old t.new ++
    (codes ": " ++ (licenses_text t.old t.new ++ (notes_text t ++ codes "\n"))))))
