-- A package names the hash of a text exactly where it stands below that text.
use Rattle.std.proofs.Common.{◌≡◌, ℕ, Bool, List, Any, Contains, subst}
use Rattle.std.specs.Prelude.{filter}
use Rattle.license_notice.specs.Places.{holds}
use Rattle.license_notice.specs.Rows.{Line}
use Rattle.license_notice.proofs.Standing.{In, in_from, in_to, held, held_back}
use Rattle.license_notice.proofs.Turned.{map_in, map_out, filter_in, filter_out}
use Rattle.notice_forms.specs.Json.{hash_of, hashes_with, NamesItsTexts}
use Rattle.notice_forms.specs.Told.{Named, Told}

abbrev hash : Named → List ℕ
hash t = hash_of t.bytes

abbrev has : Line → Named → Bool
has l t = holds t.lines l

named : (texts : List Named) (l : Line) (h : List ℕ) → In (hashes_with texts l) h → Any (λ (t : Named). (hash t ≡ h) × Contains t.lines l) texts
named texts l h m =
    let t = map_out hash (filter (has l) texts) h m in
    let at = filter_out (has l) texts t.0 t.1.0 in
    let place = in_to texts t.0 at.0 in
    (place.0, t.0, place.1, place.2, (t.1.1, in_to t.0.lines l (held t.0.lines l at.1)))

named_back : (texts : List Named) (l : Line) (h : List ℕ) → Any (λ (t : Named). (hash t ≡ h) × Contains t.lines l) texts → In (hashes_with texts l) h
named_back texts l h (k, t, low, at, (e, c)) =
    let inside = filter_in (has l) texts t (in_from texts t (k, low, at)) (held_back t.lines l (in_from t.lines l c)) in
    subst (In (hashes_with texts l)) e (map_in hash (filter (has l) texts) t inside)

pub names_its_texts : (p : Told) → NamesItsTexts p
names_its_texts p l h = (λ m. named p.texts l h (in_from _ h m), λ m. in_to _ h (named_back p.texts l h m))
