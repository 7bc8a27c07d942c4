-- The canonical text, as the text so far and what the rest of the items adds.
use Rattle.std.proofs.Common.{◌≡◌, ℕ, Bool, true, false, cond, List, [], ◌∷◌, ◌++◌, Option, Some, None, Result, Ok, Err, refl, sym, ◌∙◌, ap, append_assoc, append-nil, is_some, option_map, suc, arith}
use Rattle.std.specs.Prelude.{codes}
use Rattle.std.specs.List.{All}
use Rattle.std.specs.Option.{option_map_or}
use Rattle.spdx_lexer.specs.Layout.{IsPlace, place_of}
use Rattle.spdx_requirement.specs.Rows.{LicenseRow}
use Rattle.spdx_requirement.specs.Flags.{is_gnu}
use Rattle.spdx_lexer.specs.Words.{Word, Spdx, Plus, Fault, Span, Item, Unexpected}
use Rattle.spdx_canonical.specs.Canonical.{gnu_name, written_name, word_text, text_behind, canonical_fault}
use Rattle.spdx_canonical.proofs.Parts.{fault_at, is_spdx, words_of}
use Rattle.spdx_canonical.specs.NextText.{is_misplaced, marked_name, license_and_plus, is_plus_word, decided_text, own_text, next_text, waiting}
use Rattle.spdx_canonical.specs.Draft.{Drafted, extended, IsOff}
use Rattle.spdx_canonical.proofs.Drafts.{not_off_text}

-- the words, where a licence waits before them
abbrev pub waiting_words : Option LicenseRow → List Word → List Word
waiting_words None ws = ws
waiting_words (Some r) ws = Spdx r ∷ ws

-- the text, unless there is a fault
abbrev pub unless : Option (Fault × Span) → List ℕ → Result (List ℕ) (Fault × Span)
unless o text = option_map_or (λ fault. Err fault) o (Ok text)

abbrev pub continued : Drafted → Option LicenseRow → List Item → Result (List ℕ) (Fault × Span)
continued d before items = unless (canonical_fault (is_some before) items) (d.bytes ++ text_behind false (waiting_words before (words_of items)))

-- a licence and its plus
marked_text : (r : LicenseRow) (ws : List Word) → text_behind false (Spdx r ∷ Plus ∷ ws) ≡ license_and_plus true r ++ text_behind false ws
marked_text r ws = each (is_gnu r.flags)
  where
    each : (g : Bool) → cond g (gnu_name true r.name) r.name ++ text_behind g (Plus ∷ ws) ≡ cond g (gnu_name true r.name) (marked_name true r.name) ++ text_behind false ws
    each true = refl
    each false = sym (append_assoc r.name (codes "+") (text_behind false ws))

-- a licence without one
bare_name : (r : LicenseRow) → written_name false r ≡ license_and_plus false r
bare_name r = refl

-- what a word adds, behind a licence or none
pub adds : (before : Option LicenseRow) (w : Word) (ws : List Word) → is_misplaced (is_some before) w ≡ false → text_behind false (waiting_words before (w ∷ ws)) ≡ (decided_text before (is_plus_word w) ++ own_text w) ++ text_behind false (waiting_words (waiting w) ws)
adds None (Plus) ws h = absurd cc
adds None (Spdx r) ws h = refl
adds None w ws h = refl
adds (Some r) Plus ws h = marked_text r ws ∙ ap (λ (t : List ℕ). t ++ text_behind false ws) (sym (append-nil (license_and_plus true r)))
adds (Some r) (Spdx s) ws h = ap (λ (t : List ℕ). t ++ text_behind false (Spdx s ∷ ws)) (sym (append-nil (license_and_plus false r)))
adds (Some r) w ws h = sym (append_assoc (license_and_plus false r) (word_text w) (text_behind false ws))

spdx_waits : (w : Word) → is_spdx w ≡ is_some (waiting w)
spdx_waits (Spdx r) = refl
spdx_waits _ = refl

pub step : (d : Drafted) (before : Option LicenseRow) (w : Word) (s : Span) (items : List Item) → is_misplaced (is_some before) w ≡ false → continued d before (Ok (w, s) ∷ items) ≡ continued (extended d (decided_text before (is_plus_word w) ++ own_text w)) (waiting w) items
step d before w s items h =
    let more = text_behind false (waiting_words (waiting w) (words_of items)) in
    let bytes : d.bytes ++ text_behind false (waiting_words before (w ∷ words_of items)) ≡ (d.bytes ++ (decided_text before (is_plus_word w) ++ own_text w)) ++ more =
    ap (λ (t : List ℕ). d.bytes ++ t) (adds before w (words_of items) h) ∙ sym (append_assoc d.bytes (decided_text before (is_plus_word w) ++ own_text w) more) in
    ap (λ o. unless o (d.bytes ++ text_behind false (waiting_words before (w ∷ words_of items)))) (fault_at (is_some before) w s items)
    ∙ ap (λ b. unless (cond b (Some (Unexpected (codes "<license>" ∷ []), s)) (canonical_fault (is_spdx w) items)) (d.bytes ++ text_behind false (waiting_words before (w ∷ words_of items)))) h
    ∙ ap (λ b. unless (canonical_fault b items) (d.bytes ++ text_behind false (waiting_words before (w ∷ words_of items)))) (spdx_waits w)
    ∙ ap (unless (canonical_fault (is_some (waiting w)) items)) bytes

-- a plus that is misplaced
pub refused : (d : Drafted) (before : Option LicenseRow) (w : Word) (s : Span) (items : List Item) → is_misplaced (is_some before) w ≡ true → continued d before (Ok (w, s) ∷ items) ≡ Err (Unexpected (codes "<license>" ∷ []), s)
refused d before w s items h =
    ap (λ o. unless o (d.bytes ++ text_behind false (waiting_words before (w ∷ words_of items)))) (fault_at (is_some before) w s items)
    ∙ ap (λ b. unless (cond b (Some (Unexpected (codes "<license>" ∷ []), s)) (canonical_fault (is_spdx w) items)) (d.bytes ++ text_behind false (waiting_words before (w ∷ words_of items)))) h

-- the end
pub ended : (d : Drafted) (before : Option LicenseRow) → continued d before [] ≡ Ok (d.bytes ++ decided_text before false)
ended d None = refl
ended d (Some r) = ap (λ (t : List ℕ). let x : Result (List ℕ) (Fault × Span) = Ok (d.bytes ++ t) in x) (append-nil (license_and_plus false r))

pub is_some-map : {A B : Type 0} (f : A → B) (o : Option A) → is_some (option_map f o) ≡ is_some o
is_some-map f None = refl
is_some-map f (Some x) = refl

-- ---- a text that is its own canonical text is never off

all_of : (o : Option (Fault × Span)) (bytes text : List ℕ) → unless o bytes ≡ Ok text → bytes ≡ text
all_of None bytes text e = cc
all_of (Some fault) bytes text e = absurd cc

pub never_off : (d : Drafted) (before : Option LicenseRow) (w : Word) (s : Span) (items : List Item) (text : List ℕ) → d.text ≡ text → is_misplaced (is_some before) w ≡ false → IsOff d (next_text before w) → continued d before (Ok (w, s) ∷ items) ≡ Ok text → ⊥
never_off d before w s items text t h o e =
    let piece = next_text before w in
    let more = text_behind false (waiting_words (waiting w) (words_of items)) in
    not_off_text d piece more o (t ∙ sym (all_of (canonical_fault (is_some (waiting w)) items) ((d.bytes ++ piece) ++ more) text (sym (step d before w s items h) ∙ e)))

pub never_off_at_end : (d : Drafted) (before : Option LicenseRow) (r : LicenseRow) (text : List ℕ) → d.text ≡ text → before ≡ Some r → IsOff d (license_and_plus false r) → continued d before [] ≡ Ok text → ⊥
never_off_at_end d before r text t b o e =
    let written : Result (List ℕ) (Fault × Span) = Ok (d.bytes ++ license_and_plus false r) in
    let same : written ≡ Ok text = sym (ended d (Some r)) ∙ ap (λ (x : Option LicenseRow). continued d x []) (sym b) ∙ e in
    let whole : d.bytes ++ license_and_plus false r ≡ text = cc in
    not_off_text d (license_and_plus false r) [] o (t ∙ sym whole ∙ sym (append-nil (d.bytes ++ license_and_plus false r)))

-- ---- the places of what is left

abbrev pub Places : List ℕ → List Item → Type 0
Places text items = All (λ (item : Item). IsPlace text (place_of item)) items

pub first_place : (text : List ℕ) (item : Item) (items : List Item) → Places text (item ∷ items) → IsPlace text (place_of item)
first_place text item items h = h 0 item (omega arith)

pub other_places : (text : List ℕ) (item : Item) (items : List Item) → Places text (item ∷ items) → Places text items
other_places text item items h k d l = h (suc k) d (omega arith)
