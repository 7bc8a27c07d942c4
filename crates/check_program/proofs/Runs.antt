-- A run over all paths.
use Rattle.std.proofs.Common.{◌≡◌, ◌∙◌, ap, ℕ, Bool, false, List, [], ◌++◌, map, string_bytes}
use Rattle.std.specs.Io.KnownBytes.{Appends}
use Rattle.std.proofs.KnownBytes.{Appends-trans}
use Rattle.line_engine.specs.Device.{Told}
use Rattle.check_files.specs.declared.trouble.CheckTrouble.{CheckTrouble}
use Rattle.check_files.specs.Tally.{Tally, nothing_counted, tally_of}
use Rattle.check_files.specs.Told.{Account, Does}
use Rattle.check_sources.specs.Sums.{IsNew}
use Rattle.check_sources.specs.declared.sums.Sums.{Sums}
use Rattle.spdx_check.specs.declared.totals.Totals.{Totals}

-- what is done stands between two texts
pub between : (a b c d : Told) (h k : Account CheckTrouble) (first last : List ℕ) (Was Is : List ℕ → List CheckTrouble → Type 0)
    → Appends a.bytes b.bytes first → Does b c h k Was → Appends c.bytes d.bytes last
    → ((text : List ℕ) (told : List CheckTrouble) → Was text told → Is (first ++ (text ++ last)) told) → Does a d h k Is
between a b c d h k first last Was Is p q r so = record {
  text = first ++ (q.text ++ last);
  told = q.told;
  writes = Appends-trans a.bytes b.bytes d.bytes first (q.text ++ last) p (Appends-trans b.bytes c.bytes d.bytes q.text last q.writes r);
  tells = q.tells;
  is = so q.text q.told q.is;
}

abbrev totals : ℕ → ℕ → ℕ → Bool → Totals
totals expressions files refused is_short = record { expressions = expressions; files = files; refused = refused; is_short = is_short }

abbrev tally : Totals → List (List ℕ) → List (List ℕ) → ℕ → ℕ → ℕ → Tally
tally t left_out tables texts bare untagged = record { totals = t; left_out = left_out; tables = tables; texts = texts; bare = bare; untagged = untagged }

no_totals : (t : Totals) → t.expressions ≡ 0 → t.files ≡ 0 → t.refused ≡ 0 → t.is_short ≡ false → t ≡ totals 0 0 0 false
no_totals t e f r s =
    ap (λ (x : ℕ). totals x t.files t.refused t.is_short) e
    ∙ (ap (λ (x : ℕ). totals 0 x t.refused t.is_short) f ∙ (ap (λ (x : ℕ). totals 0 0 x t.is_short) r ∙ ap (λ (x : Bool). totals 0 0 0 x) s))

-- what is new has counted nothing
pub none_counted : (s : Sums) → IsNew s → tally_of s ≡ nothing_counted
none_counted s n =
    ap (λ (x : Totals). tally x (map string_bytes s.left_out.items) (map string_bytes s.tables.items) s.texts s.bare s.untagged) (no_totals s.totals n.expressions n.files n.refused n.is_read)
    ∙ (ap (λ (x : List (List ℕ)). tally (totals 0 0 0 false) x (map string_bytes s.tables.items) s.texts s.bare s.untagged) (ap (map string_bytes) n.left_out)
    ∙ (ap (λ (x : List (List ℕ)). tally (totals 0 0 0 false) [] x s.texts s.bare s.untagged) (ap (map string_bytes) n.tables)
    ∙ (ap (λ (x : ℕ). tally (totals 0 0 0 false) [] [] x s.bare s.untagged) n.texts
    ∙ (ap (λ (x : ℕ). tally (totals 0 0 0 false) [] [] 0 x s.untagged) n.bare ∙ ap (λ (x : ℕ). tally (totals 0 0 0 false) [] [] 0 0 x) n.untagged))))
