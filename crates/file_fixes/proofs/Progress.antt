-- How far a mending has come.
use Rattle.std.proofs.Common.{◌≡◌, ℕ, ◌+◌, List, [], ◌∷◌, ◌++◌, Option, is_some, unwrap_or, length, map, All, sym, ap, ◌∙◌, subst}
use Rattle.std.specs.Prelude.{count_by, if◌then◌else◌}
use Rattle.std.proofs.lemmas.List.{map_push}
use Rattle.std.proofs.lemmas.List.Elements.{All-nil, All-push}
use Rattle.std.proofs.lemmas.List.Sums.{sum_by_push}
use Rattle.spdx_requirement.specs.Rows.{Rows}
use Rattle.file_fixes.specs.declared.Span.{Span}
use Rattle.file_fixes.specs.Mending.{Marked, marked, Piece, Site, IsFixOfBytes, IsCutAtSpans, Mends, span_at, old_piece, new_piece}
use Rattle.file_fixes.proofs.Pieces.{IsCutAtSpans-push, IsCutAtSpans-rest}

-- the texts as far as the last expression that was mended
pub record MendsSoFar (c : Rows) (old new : Marked) (count : ℕ) : Type 0 where
  pub sites : List Site
  pub fixes : All (λ s. IsFixOfBytes c s.text s.fix) sites
  pub was : IsCutAtSpans old (map old_piece sites) []
  pub is : IsCutAtSpans new (map new_piece sites) []
  pub counted : count ≡ count_by (λ s. is_some s.fix) sites

pub MendsSoFar-none : (c : Rows) (b b' : List ℕ) (s s' : List Span) (count : ℕ) → b ≡ [] → b' ≡ [] → s ≡ [] → s' ≡ [] → count ≡ 0 → MendsSoFar c (marked b s) (marked b' s') count
MendsSoFar-none c b b' s s' count e e' f f' n = record {
  sites = [];
  fixes = All-nil (λ (x : Site). IsFixOfBytes c x.text x.fix);
  was = record { whole = sym e; places = sym f };
  is = record { whole = sym e'; places = sym f' };
  counted = n;
}

module _ (c : Rows) (b b' : List ℕ) (s s' : List Span) (count : ℕ) (h : MendsSoFar c (marked b s) (marked b' s') count) where
  pub MendsSoFar-push : (before text : List ℕ) (fix : Option (List ℕ)) → IsFixOfBytes c text fix →
      (n n' : List ℕ) (x x' : Span) (more : ℕ) →
      n ≡ b ++ (before ++ text) → x ≡ span_at (length b) (record { before = before; text = text }) →
      n' ≡ b' ++ (before ++ unwrap_or fix text) → x' ≡ span_at (length b') (record { before = before; text = unwrap_or fix text }) →
      more ≡ count + (if is_some fix then 1 else 0) →
      MendsSoFar c (marked n (s ++ x ∷ [])) (marked n' (s' ++ x' ∷ [])) more
  MendsSoFar-push before text fix is_fix n n' x x' more e f e' f' m =
      let site : Site = record { before = before; text = text; fix = fix } in
      record {
        sites = h.sites ++ site ∷ [];
        fixes = All-push (λ (x : Site). IsFixOfBytes c x.text x.fix) h.sites site h.fixes is_fix;
        was = subst (λ (ps : List Piece). IsCutAtSpans (marked n (s ++ x ∷ [])) ps []) (sym (map_push old_piece h.sites site)) (IsCutAtSpans-push b s (map old_piece h.sites) (old_piece site) h.was n x e f);
        is = subst (λ (ps : List Piece). IsCutAtSpans (marked n' (s' ++ x' ∷ [])) ps []) (sym (map_push new_piece h.sites site)) (IsCutAtSpans-push b' s' (map new_piece h.sites) (new_piece site) h.is n' x' e' f');
        counted = m ∙ ap (λ (k : ℕ). k + (if is_some fix then 1 else 0)) h.counted ∙ sym (sum_by_push (λ (x : Site). if is_some x.fix then 1 else 0) h.sites site);
      }

  pub MendsSoFar-rest : (n n' rest : List ℕ) → n ≡ b ++ rest → n' ≡ b' ++ rest → Mends c (marked n s) (marked n' s') count
  MendsSoFar-rest n n' rest e e' = record {
    sites = h.sites;
    rest = rest;
    fixes = h.fixes;
    was = subst (λ (m : List ℕ). IsCutAtSpans (marked m s) (map old_piece h.sites) rest) (sym e) (IsCutAtSpans-rest b s (map old_piece h.sites) (record { before = []; text = [] }) h.was rest);
    is = subst (λ (m : List ℕ). IsCutAtSpans (marked m s') (map new_piece h.sites) rest) (sym e') (IsCutAtSpans-rest b' s' (map new_piece h.sites) (record { before = []; text = [] }) h.is rest);
    counted = h.counted;
  }
