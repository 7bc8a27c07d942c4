-- What a draft comes to that hears the words of an expression.
use Rattle.std.proofs.Common.{◌≡◌, ℕ, false, List, [], ◌∷◌, ◌++◌, Option, Some, None, Result, Ok, refl, sym, ◌∙◌, ap, append_assoc, append-nil, is_some}
use Rattle.std.specs.List.{fold}
use Rattle.spdx_requirement.specs.Rows.{LicenseRow}
use Rattle.spdx_lexer.specs.Words.{Word, Spdx, Unknown, OpenParen, Fault, Span}
use Rattle.spdx_parser.specs.Last as last
use Rattle.spdx_parser.specs.Last.{Last, Joined, next_last}
use Rattle.spdx_parser.specs.Heard.{listed_last, Along, HearsAll}
use Rattle.spdx_canonical.specs.Canonical.{text_behind, canonical_text, answer_to}
use Rattle.spdx_canonical.proofs.Parts.{is_spdx}
use Rattle.spdx_canonical.specs.NextText.{is_misplaced, decided_text, next_text, heard_text, waiting}
use Rattle.spdx_canonical.specs.Draft.{Drafted, extended, difference}
use Rattle.spdx_canonical.proofs.Continued.{waiting_words, adds}
use Rattle.spdx_canonical.proofs.Neighbours.{AreApart}
use Rattle.spdx_canonical.proofs.Sound.{placed}

abbrev pub Writes : Drafted → Option LicenseRow → Option Word → Drafted → Type 0
Writes old behind word new = new ≡ extended old (heard_text behind word)

-- what is written at the end
ended : (before : Option LicenseRow) → text_behind false (waiting_words before []) ≡ decided_text before false
ended None = refl
ended (Some r) = append-nil _

waits : (last : Last) (w : Word) → waiting w ≡ listed_last (next_last last w)
waits last (Spdx r) = refl
waits Joined (Unknown x) = refl
waits _ _ = refl

spdx_waits : (w : Word) → is_spdx w ≡ is_some (waiting w)
spdx_waits (Spdx r) = refl
spdx_waits _ = refl

along_written : (from : Drafted) (last : Last) (w : Word) (ws : List Word) (to : Drafted) → is_spdx w ≡ is_some (listed_last last) → AreApart w ws → Along Writes from last ws to
    → (to.text ≡ from.text) × (to.bytes ++ text_behind false (waiting_words (listed_last (fold next_last last ws)) []) ≡ from.bytes ++ text_behind false (waiting_words (listed_last last) ws))
along_written from last w [] to s a e =
    (ap (λ (d : Drafted). d.text) (sym e), ap (λ (d : Drafted). d.bytes ++ text_behind false (waiting_words (listed_last last) [])) (sym e))
along_written from last w (v ∷ ws) to s a (next, h, rest) =
    let before = listed_last last in
    let same = waits last v in
    let behind = text_behind false (waiting_words (waiting v) ws) in
    let all = along_written next (next_last last v) v ws to (spdx_waits v ∙ ap is_some same) a.1 rest in
    let here : is_misplaced (is_some before) v ≡ false = ap (λ b. is_misplaced b v) (sym s) ∙ placed w v a.0 in (
      all.0 ∙ ap (λ (d : Drafted). d.text) h,
      all.1
          ∙ ap (λ (o : Option LicenseRow). next.bytes ++ text_behind false (waiting_words o ws)) (sym same)
          ∙ ap (λ (d : Drafted). d.bytes ++ behind) h
          ∙ append_assoc from.bytes (next_text before v) behind
          ∙ ap (λ (t : List ℕ). from.bytes ++ t) (sym (adds before v ws here)),
    )

pub all_written : (from : Drafted) (ws : List Word) (to : Drafted) → AreApart OpenParen ws → HearsAll Writes from ws to → (to.text ≡ from.text) × (to.bytes ≡ from.bytes ++ canonical_text ws)
all_written from ws to a h =
    let all = along_written from last.Due OpenParen ws h.behind refl a h.each in (
      ap (λ (d : Drafted). d.text) h.end ∙ all.0,
      ap (λ (d : Drafted). d.bytes) h.end ∙ ap (λ (t : List ℕ). h.behind.bytes ++ t) (sym (ended (listed_last (fold next_last last.Due ws)))) ∙ all.1,
    )

-- the answer that a draft gives, which was begun beside a text
pub answered : (text : List ℕ) (ws : List Word) (to : Drafted) (answer : Option (List ℕ)) → AreApart OpenParen ws → HearsAll Writes (record { text = text; bytes = [] }) ws to → answer ≡ difference to → answer_to text (Ok (canonical_text ws)) ≡ Ok answer
answered text ws to answer a h e =
    let all = all_written (record { text = text; bytes = [] }) ws to a h in
    let d : to ≡ (let x : Drafted = record { text = text; bytes = canonical_text ws } in x) =
    let texts = all.0 in let bytes = all.1 in cc in
    ap (λ (o : Option (List ℕ)). let r : Result (Option (List ℕ)) (Fault × Span) = Ok o in r) (sym (e ∙ ap difference d))
