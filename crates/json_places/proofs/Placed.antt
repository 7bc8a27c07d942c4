-- Places found one after the other.
use Rattle.std.proofs.Common.{◌≡◌, ℕ, ◌<◌, ◌^◌, List, [], ◌∷◌, ◌++◌, Option, Some, length, drop, refl, ap, subst, arith}
use Rattle.std.specs.Prelude.{slice_get}
use Rattle.std.proofs.lemmas.Option.{slice_get_within}
use Rattle.std.proofs.lemmas.Fmt.{decimal_injective}
use Rattle.text_places.specs.declared.Span.{Span}
use Rattle.text_places.specs.Marks.{mark_text, marked}
use Rattle.serde_json.specs.Data.{Data}
use Rattle.json_places.specs.declared.path.Path.{Path}
use Rattle.json_places.specs.declared.path.Step.{Step}
use Rattle.json_places.specs.Literals.{literals}
use Rattle.json_places.specs.Paths.{text_at}
use Rattle.json_places.specs.Places.{Stands, IsPlace, IsRead, ArePlaces}

pub ArePlaces-push : (text : List ℕ) (document : Data) (paths : List Path) (places : List (Option Span)) (path : Path) (place : Option Span)
    → ArePlaces text document paths places → IsPlace text document path.steps.items place
    → ArePlaces text document (paths ++ path ∷ []) (places ++ place ∷ [])
ArePlaces-push text document [] [] path place h here = (here, tt)
ArePlaces-push text document [] (p ∷ places) path place h here = absurd h
ArePlaces-push text document (q ∷ paths) [] path place h here = absurd h
ArePlaces-push text document (q ∷ paths) (p ∷ places) path place h here = (h.0, ArePlaces-push text document paths places path place h.1 here)

mark-injective : (m n : ℕ) → m < 2 ^ 64 → n < 2 ^ 64 → mark_text m ≡ mark_text n → m ≡ n
mark-injective m n small low same = decimal_injective m n small low (ap (drop 1) same)

-- the mark at the path has the number of the literal that stands there
pub Stands-number : (text : List ℕ) (spans : List Span) (document marks : Data) (steps : List Step) (span : Span) (n : ℕ) → spans ≡ literals text
    → Stands text document steps span → length spans < 2 ^ 64 → n < 2 ^ 64 → IsRead (marked text (literals text)) marks
    → text_at steps marks ≡ Some (mark_text n) → slice_get spans n ≡ Some span
Stands-number text spans document marks steps span n are s room small reads is =
    let here = s.meant.reads.1 in
    let there = reads.1 in
    let same : s.meant.marks ≡ marks = cc in
    let after : text_at steps marks ≡ Some (mark_text s.number) = subst (λ (d : Data). text_at steps d ≡ Some (mark_text s.number)) same s.meant.after in
    let number : mark_text s.number ≡ mark_text n = cc in
    let low : s.number < length (literals text) = slice_get_within (literals text) s.number span s.numbered in
    let long : length spans ≡ length (literals text) = ap length are in
    let is_number : s.number ≡ n = mark-injective s.number n (omega arith) small number in
    let numbered = s.numbered in
    cc

-- one literal at most stands there
pub Stands-once : (text : List ℕ) (document : Data) (steps : List Step) (span other : Span) → length (literals text) < 2 ^ 64
    → Stands text document steps span → Stands text document steps other → span ≡ other
Stands-once text document steps span other room s o =
    let low : o.number < length (literals text) = slice_get_within (literals text) o.number other o.numbered in
    let small : o.number < 2 ^ 64 = omega arith in
    let found = Stands-number text (literals text) document o.meant.marks steps span o.number refl s room small o.meant.reads o.meant.after in
    let numbered = o.numbered in
    cc
