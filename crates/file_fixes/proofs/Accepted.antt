-- Where nothing is left in a file, its expressions are accepted, or their fixes are; and where all
-- are accepted, the file stays.
use Rattle.std.proofs.Common.{◌≡◌, ◌∙◌, refl, sym, ap, subst, ℕ, ◌||◌, Bool, true, false, List, ◌++◌, Option, None, Some}
use Rattle.std.specs.Prelude.{All}
use Rattle.std.specs.Global.{Vec}
use Rattle.std.specs.Option.{option_or}
use Rattle.std.proofs.lemmas.List.{take-append-drop}
use Rattle.spdx_requirement.specs.Rows.{Rows}
use Rattle.manifests.specs.declared.form.Form.{Form}
use Rattle.file_fixes.specs.declared.FixedText.{FixedText}
use Rattle.file_fixes.specs.Fixing.{IsFixed, IsRead, bytes_after, texts_in}
use Rattle.file_fixes.specs.Mending.{Marked, marked}
use Rattle.file_fixes.specs.Spans.{tag_spans}
use Rattle.file_fixes.proofs.Laws as text
use Rattle.file_fixes.specs.ManifestFixing as manifest
use Rattle.file_fixes.proofs.ManifestLaws as manifest_laws
use Rattle.file_fixes.specs.declared.mended.Outcome.{Outcome}
use Rattle.file_fixes.specs.declared.mended.Parts.{Parts}
use Rattle.file_fixes.specs.declared.mended.Parts.TheVariants as parts
use Rattle.file_fixes.specs.Mended.{IsDeclared, IsMended, IsSource, behind, bytes_in, mark_in, mark_len, without_mark}
use Rattle.file_fixes.specs.Accepted.{Accepts, AcceptsDeclared, AreAccepted, Reads, ReadsDeclared, ReadsTags, Stays}

text_accepted : (c : Rows) (old : Marked) (fixed : FixedText) → IsFixed c old fixed → fixed.is_left ≡ false → AreAccepted c old (bytes_after old.bytes fixed.bytes)
text_accepted c old fixed h e = let l = text.laws c old fixed h in record { spans = l.spans; each = l.each; read = l.whole e }

-- the bytes that come of a manifest, behind its mark
behind_it : (bytes : List ℕ) (new old : Option (Vec ℕ)) → bytes_in new ≡ behind (mark_in bytes) (bytes_in old) → bytes_after bytes new ≡ mark_in bytes ++ manifest.bytes_after (without_mark bytes) old
behind_it bytes None None e = sym (take-append-drop (mark_len bytes) bytes)
behind_it bytes (Some v) (Some w) e = cc
behind_it bytes None (Some w) e = absurd cc
behind_it bytes (Some v) None e = absurd cc

declared_accepted : (c : Rows) (form : Option Form) (bytes : List ℕ) (o : Outcome) → IsDeclared c form bytes o → o.is_left ≡ false → AcceptsDeclared c form bytes (bytes_after bytes o.bytes)
declared_accepted c None bytes o h e = ap (bytes_after bytes) h.0
declared_accepted c (Some form) bytes o h e =
    let l = manifest_laws.laws c form (without_mark bytes) h.fixed h.fixes in (
      manifest.bytes_after (without_mark bytes) h.fixed.bytes,
      record {
        sites = l.sites;
        declared = l.declared;
        again = l.again;
        declared_again = l.declared_again;
        each = l.each;
        read = l.whole (sym h.left_is ∙ e);
      },
      behind_it bytes o.bytes h.fixed.bytes h.bytes_are,
    )

neither : (a b : Bool) → (a || b) ≡ false → (a ≡ false) × (b ≡ false)
neither true b e = absurd cc
neither false b e = (refl, e)

-- the last bytes that are given
last_bytes : (bytes : List ℕ) (tagged declared : Option (Vec ℕ)) → bytes_after bytes (option_or tagged declared) ≡ bytes_after (bytes_after bytes declared) tagged
last_bytes bytes None declared = refl
last_bytes bytes (Some v) declared = refl

source_accepted : (c : Rows) (form : Option Form) (tags : Bool) (path bytes : List ℕ) (o : Outcome) → IsSource c form tags path bytes o → o.is_left ≡ false → Accepts c (parts.Source form tags) path bytes (bytes_after bytes o.bytes)
source_accepted c form false path bytes o h e = (bytes_after bytes o.bytes, declared_accepted c form bytes o h e, refl)
source_accepted c form true path bytes o h e =
    let declared = h.0 in
    let tagged = h.2.tagged in
    let between = bytes_after bytes declared.bytes in
    let none = neither declared.is_left tagged.is_left (sym h.2.left_is ∙ e) in
    let whole : bytes_after bytes o.bytes ≡ bytes_after between tagged.bytes = ap (bytes_after bytes) h.2.bytes_are ∙ last_bytes bytes tagged.bytes declared.bytes in (
      between,
      declared_accepted c form bytes declared h.1 none.0,
      subst (AreAccepted c (marked between (tag_spans path between))) (sym whole) (text_accepted c (marked between (tag_spans path between)) tagged h.2.fixes none.1),
    )

pub accepted : (c : Rows) (p : Parts) (path bytes : List ℕ) (o : Outcome) → IsMended c p path bytes o → o.is_left ≡ false → Accepts c p path bytes (bytes_after bytes o.bytes)
accepted c parts.Lines path bytes o h e = text_accepted c _ (record { bytes = o.bytes; is_left = o.is_left }) h e
accepted c (parts.Source form tags) path bytes o h e = source_accepted c form tags path bytes o h e

-- ---- nothing is needed

none_behind : (mark : List ℕ) (new old : Option (Vec ℕ)) → bytes_in new ≡ behind mark (bytes_in old) → old ≡ None → new ≡ None
none_behind mark None old e none = refl
none_behind mark (Some v) None e none = absurd cc
none_behind mark (Some v) (Some w) e none = absurd cc

declared_stays : (c : Rows) (form : Option Form) (bytes : List ℕ) (o : Outcome) → IsDeclared c form bytes o → ReadsDeclared c form bytes → Stays o
declared_stays c None bytes o h reads = h
declared_stays c (Some form) bytes o h reads =
    let l = manifest_laws.laws c form (without_mark bytes) h.fixed h.fixes in
    let stays = l.needless (reads l.sites l.declared) in
    (none_behind (mark_in bytes) o.bytes h.fixed.bytes h.bytes_are stays.0, h.left_is ∙ stays.1)

no_other : (tagged declared : Option (Vec ℕ)) → tagged ≡ None → declared ≡ None → option_or tagged declared ≡ None
no_other None declared t d = d
no_other (Some v) declared t d = absurd cc

none_left : (a b : Bool) → a ≡ false → b ≡ false → (a || b) ≡ false
none_left false b e f = f
none_left true b e f = absurd cc

source_stays : (c : Rows) (form : Option Form) (tags : Bool) (path bytes : List ℕ) (o : Outcome) → IsSource c form tags path bytes o → ReadsDeclared c form bytes → ReadsTags tags c path bytes → Stays o
source_stays c form false path bytes o h reads tagged = declared_stays c form bytes o h reads
source_stays c form true path bytes o h reads tagged =
    let declared = h.0 in
    let between = bytes_after bytes declared.bytes in
    let first = declared_stays c form bytes declared h.1 reads in
    let same : between ≡ bytes = ap (bytes_after bytes) first.0 in
    let l = text.laws c (marked between (tag_spans path between)) h.2.tagged h.2.fixes in
    let second = l.needless (subst (λ (b : List ℕ). All (IsRead c) (texts_in (marked b (tag_spans path b)))) (sym same) tagged) in
    (h.2.bytes_are ∙ no_other h.2.tagged.bytes declared.bytes second.0 first.0, h.2.left_is ∙ none_left declared.is_left h.2.tagged.is_left first.1 second.1)

pub stays : (c : Rows) (p : Parts) (path bytes : List ℕ) (o : Outcome) → IsMended c p path bytes o → Reads c p path bytes → Stays o
stays c parts.Lines path bytes o h reads = let l = text.laws c _ (record { bytes = o.bytes; is_left = o.is_left }) h in l.needless reads
stays c (parts.Source form tags) path bytes o h reads = source_stays c form tags path bytes o h reads.0 reads.1
