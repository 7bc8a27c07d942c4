-- Places found one after the other.
use Rattle.std.proofs.Common.{◌≡◌, ℕ, ◌^◌, ◌<◌, List, [], ◌∷◌, ◌++◌, Option, Some, None, length, ap, ◌∙◌, subst, arith}
use Rattle.std.specs.Prelude.{slice_get}
use Rattle.std.proofs.lemmas.Fmt.{decimal_injective}
use Rattle.std.proofs.lemmas.Option.{slice_get_within}
use Rattle.std.specs.Fmt.{decimal}
use Rattle.text_places.specs.declared.Span.{Span}
use Rattle.text_places.specs.Marks.{mark_text, marked}
use Rattle.toml.specs.Data.{Members}
use Rattle.toml.specs.Parse.{parse_document}
use Rattle.toml_places.specs.declared.path.Path.{Path}
use Rattle.toml_places.specs.declared.path.Step.{Step}
use Rattle.toml_places.specs.Literals.{literals}
use Rattle.toml_places.specs.Paths.{text_at}
use Rattle.toml_places.specs.Places.{IsLiteral, Stands, StandsNowhere, IsPlace, ArePlaces}
use Rattle.toml_places.proofs.Scan.{length-literals}

-- a mark tells its number
pub mark_text-once : (m n : ℕ) → m < 2 ^ 64 → n < 2 ^ 64 → mark_text m ≡ mark_text n → m ≡ n
mark_text-once m n small smaller same =
    let digits : decimal m ≡ decimal n = cc in
    decimal_injective m n small smaller digits

-- the mark that stands at the path tells the number of the literal
pub Stands-mark : (text : List ℕ) (document : Members) (steps : List Step) (span : Span) (marks : Members)
    → parse_document (marked text (literals text)) ≡ Some marks → (s : Stands text document steps span)
    → text_at steps marks ≡ Some (mark_text s.number)
Stands-mark text document steps span marks read s =
    let same : s.meant.marks ≡ marks = cc (s.meant.reads, read) in
    subst (λ (ms : Members). text_at steps ms ≡ Some (mark_text s.number)) same s.meant.after

-- and there is no other
pub Stands-at : (text : List ℕ) (document : Members) (steps : List Step) (span : Span) (marks : Members) (number : ℕ)
    → number < 2 ^ 64 → length (literals text) < 2 ^ 64
    → parse_document (marked text (literals text)) ≡ Some marks → text_at steps marks ≡ Some (mark_text number)
    → Stands text document steps span → slice_get (literals text) number ≡ Some span
Stands-at text document steps span marks number small few read mark s =
    let within = slice_get_within (literals text) s.number span s.numbered in
    let is : text_at steps marks ≡ Some (mark_text s.number) = Stands-mark text document steps span marks read s in
    let marked_is : mark_text number ≡ mark_text s.number = cc (mark, is) in
    let same : number ≡ s.number = mark_text-once number s.number small (omega arith) marked_is in
    ap (slice_get (literals text)) same ∙ s.numbered

-- a text stands at one place, in memory that addresses reach
pub Stands-once : (text : List ℕ) (document : Members) (steps : List Step) (span other : Span) → length text < 2 ^ 64
    → Stands text document steps span → Stands text document steps other → span ≡ other
Stands-once text document steps span other few s t =
    let many = length-literals text in
    let within = slice_get_within (literals text) s.number span s.numbered in
    let found : slice_get (literals text) s.number ≡ Some other =
    Stands-at text document steps other s.meant.marks s.number (omega arith) (omega arith) s.meant.reads s.meant.after t in
    cc (found, s.numbered)

-- a text stands nowhere whose mark has the number of no literal
pub nowhere-past : (text : List ℕ) (document : Members) (steps : List Step) (marks : Members) (number : ℕ)
    → number < 2 ^ 64 → length (literals text) < 2 ^ 64
    → parse_document (marked text (literals text)) ≡ Some marks → text_at steps marks ≡ Some (mark_text number)
    → slice_get (literals text) number ≡ None → StandsNowhere text document steps
nowhere-past text document steps marks number small few read mark past span s =
    absurd (cc (Stands-at text document steps span marks number small few read mark s, past))

-- nor where that literal is of another text
pub nowhere-other : (text : List ℕ) (document : Members) (steps : List Step) (marks : Members) (number : ℕ) (span : Span)
    → number < 2 ^ 64 → length (literals text) < 2 ^ 64
    → parse_document (marked text (literals text)) ≡ Some marks → text_at steps marks ≡ Some (mark_text number)
    → slice_get (literals text) number ≡ Some span → (IsLiteral text document steps span → ⊥) → StandsNowhere text document steps
nowhere-other text document steps marks number span small few read mark found others other s =
    let same : other ≡ span = cc (Stands-at text document steps other marks number small few read mark s, found) in
    others (subst (IsLiteral text document steps) same s.literal)

pub ArePlaces-push : (text : List ℕ) (document : Members) (paths : List Path) (places : List (Option Span)) (path : Path) (place : Option Span)
    → ArePlaces text document paths places → IsPlace text document path.steps.items place
    → ArePlaces text document (paths ++ path ∷ []) (places ++ place ∷ [])
ArePlaces-push text document [] [] path place h here = (here, tt)
ArePlaces-push text document [] (p ∷ places) path place h here = absurd h
ArePlaces-push text document (q ∷ paths) [] path place h here = absurd h
ArePlaces-push text document (q ∷ paths) (p ∷ places) path place h here = (h.0, ArePlaces-push text document paths places path place h.1 here)
