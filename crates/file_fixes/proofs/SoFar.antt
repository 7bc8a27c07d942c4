-- One more expression, behind those that are mended.
use Rattle.std.proofs.Common.{◌≡◌, ℕ, Bool, true, false, List, [], ◌∷◌, ◌++◌, refl, sym, ◌∙◌, ap, append_assoc}
use Rattle.std.specs.Prelude.{◌||◌}
use Rattle.std.specs.List.{list_any}
use Rattle.std.proofs.lemmas.List.{map_push}
use Rattle.std.proofs.lemmas.List.Folds.{list_any-append}
use Rattle.std.proofs.lemmas.List.Elements.{All-push}
use Rattle.spdx_requirement.specs.Rows.{Rows}
use Rattle.manifests.specs.declared.form.Form.{Form}
use Rattle.manifests.specs.declared.site.Site.{Site}
use Rattle.file_fixes.specs.declared.manifest_mending.Mending.{Mending}
use Rattle.file_fixes.specs.ManifestFixing.{Fate, HasFate, Change, old_text, new_text, is_replaced, is_left, sites_of, next}
use Rattle.file_fixes.specs.ManifestProgress.{IsSoFar, IsStepped}

pub or_false : (b : Bool) → (b || false) ≡ b
or_false true = refl
or_false false = refl

pub or_true : (b : Bool) → (b || true) ≡ true
or_true true = refl
or_true false = refl

list_any-push : (test : Change → Bool) (xs : List Change) (x : Change) → list_any test (xs ++ x ∷ []) ≡ (list_any test xs || test x)
list_any-push test xs x = list_any-append test xs (x ∷ []) ∙ ap (λ b. list_any test xs || b) (or_false (test x))

-- the expressions done, and those that are left to do, are all of them still
pub moved : (changes : List Change) (site : Site) (fate : Fate) (later found : List Site) → sites_of changes ++ site ∷ later ≡ found → sites_of (changes ++ record { site = site; fate = fate } ∷ []) ++ later ≡ found
moved changes site fate later found e =
    ap (λ (xs : List Site). xs ++ later) (map_push (λ (x : Change). x.site) changes (record { site = site; fate = fate }))
    ∙ append_assoc (sites_of changes) (site ∷ []) later ∙ e

pub IsSoFar-next : (c : Rows) (form : Form) (old : List ℕ) (found later : List Site) (site : Site) (before after : Mending) → IsSoFar c form old found (site ∷ later) before → (fate : Fate) × IsStepped c form old site fate before after → IsSoFar c form old found later after
IsSoFar-next c form old found later site before after h step =
    let change : Change = record { site = site; fate = step.0 } in
    record {
      changes = h.changes ++ change ∷ [];
      sites = moved h.changes site step.0 later found h.sites;
      goes = record {
        fates = All-push (λ (x : Change). HasFate c form (old_text x) x.fate) h.changes change h.goes.fates step.1.has;
        steps = next change h.goes.steps step.1.step;
      };
      texts = step.1.texts ∙ ap (λ (ts : List (List ℕ)). ts ++ new_text change ∷ []) h.texts ∙ sym (map_push new_text h.changes change);
      left = step.1.left ∙ ap (λ (b : Bool). b || is_left change) h.left ∙ sym (list_any-push is_left h.changes change);
      some = step.1.some ∙ ap (λ (b : Bool). b || is_replaced change) h.some ∙ sym (list_any-push is_replaced h.changes change);
    }
