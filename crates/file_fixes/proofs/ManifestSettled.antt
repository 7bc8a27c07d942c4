-- What becomes of a manifest, by its mending.
use Rattle.std.proofs.Common.{◌≡◌, inl, inr, ℕ, Bool, List, [], map, Option, Some, None, is_some, Result, Ok, Err, IfOk, IfErr, append-nil, sym, ◌∙◌, subst}
use Rattle.std.specs.Prelude.{IsSomeAnd}
use Rattle.std.specs.Global.{Vec}
use Rattle.std.specs.List.{list_any}
use Rattle.spdx_requirement.specs.Rows.{Rows}
use Rattle.manifests.specs.declared.form.Form.{Form}
use Rattle.manifests.specs.declared.site.ManifestError.{ManifestError}
use Rattle.manifests.specs.declared.site.Site.{Site}
use Rattle.manifests.specs.Sites.{AreSites, IsError}
use Rattle.file_fixes.specs.declared.FixedManifest.{FixedManifest}
use Rattle.file_fixes.specs.declared.manifest_mending.Mending.{Mending}
use Rattle.file_fixes.specs.ManifestFixing.{Change, new_text, is_replaced, is_left, sites_of, GoesThrough, Declares, DeclaresOther, IsFixed, IsErrorOf, FixLaws, bytes_after}
use Rattle.file_fixes.specs.ManifestProgress.{IsSoFar, IsErrorAfter, IsSettled, IsSettledTo, texts_in}
use Rattle.file_fixes.proofs.ManifestLaws.{laws}

module _ (c : Rows) (form : Form) (old : List ℕ) where
  by_bytes : (bytes : Option (Vec ℕ)) (changes : List Change) (texts : List (List ℕ)) (left : Bool) → GoesThrough c form old changes (bytes_after old bytes) → texts ≡ map new_text changes → left ≡ list_any is_left changes → is_some bytes ≡ list_any is_replaced changes → (fixed : FixedManifest) → IsSettledTo form texts left bytes fixed → IsFixed c form old fixed.bytes fixed.is_left
  by_bytes None changes texts left goes t l s fixed h =
      subst (λ (b : Option (Vec ℕ)). IsFixed c form old b fixed.is_left) (sym h.0)
      (inl (record { changes = changes; goes = goes; none = sym s; left_is = h.1 ∙ l }))
  by_bytes (Some new) changes texts left goes t l s fixed (inl h) =
      subst (λ (b : Option (Vec ℕ)). IsFixed c form old b fixed.is_left) (sym h.0)
      (record { changes = changes; goes = goes; some = sym s; declares = subst (Declares form new.items) t h.2; left_is = h.1 ∙ l })
  by_bytes (Some new) changes texts left goes t l s fixed (inr h) =
      subst (λ (b : Option (Vec ℕ)). IsFixed c form old b fixed.is_left) (sym h.0)
      (inr (record { changes = changes; new = new.items; goes = goes; some = sym s; other = subst (DeclaresOther form new.items) t h.2; left_is = h.1 }))

  error_at : (bytes : Option (Vec ℕ)) (error : ManifestError) → IsSomeAnd bytes (λ new. IsError form new.items error) → IsError form (bytes_after old bytes) error
  error_at None error h = absurd h
  error_at (Some new) error h = h

  module _ (found : List Site) (declared : AreSites form old found) (mending : Mending) (h : IsSoFar c form old found [] mending) where
    all_of : sites_of h.changes ≡ found
    all_of = sym (append-nil (sites_of h.changes)) ∙ h.sites

    fixed_of : (fixed : FixedManifest) → IsSettled form mending fixed → IsFixed c form old fixed.bytes fixed.is_left
    fixed_of fixed settled =
        by_bytes mending.bytes h.changes (texts_in mending.texts.items) mending.is_left
        (record { declared = subst (AreSites form old) (sym all_of) declared; goes = h.goes }) h.texts h.left h.some fixed settled

    pub laws_of : (r : Result FixedManifest ManifestError) → IfOk r (IsSettled form mending) → IfOk r (FixLaws c form old)
    laws_of (Ok fixed) settled = laws c form old fixed (fixed_of fixed settled)
    laws_of (Err error) settled = tt

    pub error_of : (r : Result FixedManifest ManifestError) → IfErr r (IsErrorAfter form mending) → IfErr r (IsErrorOf c form old)
    error_of (Ok fixed) e = tt
    error_of (Err error) e = inr (record {
      changes = h.changes;
      later = [];
      declared = subst (AreSites form old) (sym h.sites) declared;
      bytes = bytes_after old mending.bytes;
      goes = h.goes;
      is = error_at mending.bytes error e;
    })
