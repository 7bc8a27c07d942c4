-- What expressions need, one after the other.
use Rattle.std.proofs.Common.{◌≡◌, ◌∙◌, sym, ap, ℕ, ◌+◌, ◌<◌, List, [], ◌∷◌, ◌++◌, get_or, length, map, take, subst, append_assoc, append-nil, Bool, true, Option, Some}
use Rattle.std.specs.Prelude.{Vec, if◌then◌else◌}
use Rattle.std.specs.declared.alloc.Global.{Global}
use Rattle.std.proofs.lemmas.List.{map_more}
use Rattle.spdx_lexer.specs.declared.token.ParseMode.{ParseMode}
use Rattle.spdx_requirement.specs.Rows.{Rows}
use Rattle.license_tags.specs.Comments.{comment_of}
use Rattle.license_tags.specs.Tags.{tags_of}
use Rattle.check_sources.specs.Findings.{Source}
use Rattle.check_sources.specs.Tags.{is_binary}
use Rattle.check_sources.specs.Manifests.{mode_in, sites_in}
use Rattle.manifests.specs.declared.form.Form.{Form}
use Rattle.check_files.specs.Noted.{AddsNeeded, AddsOne, Grows, NeedsDeclared, none, more, site_text, tag_text, tag_texts}
use Rattle.manifests.specs.declared.site.Site.{Site}

pub begun : (c : Rows) (m : ParseMode) (old : List (List ℕ)) → AddsNeeded c m [] old old
begun c m old = ([], sym (append-nil old), none)

added : (c : Rows) (m : ParseMode) (texts : List (List ℕ)) (text : List ℕ) (old mid new : List (List ℕ))
    → AddsNeeded c m texts old mid → AddsOne c m text mid new → AddsNeeded c m (texts ++ text ∷ []) old new
added c m texts text old mid new h k =
    (h.0 ++ k.0, k.1 ∙ ap (λ l. l ++ k.0) h.1 ∙ append_assoc old h.0 k.0, more text k.0 h.2 k.2)

pub further : {A : Type 0} (f : A → List ℕ) (c : Rows) (m : ParseMode) (xs : List A) (i : ℕ) (d : A) (text : List ℕ) (old mid new : List (List ℕ)) → i < length xs
    → AddsNeeded c m (map f (take i xs)) old mid → text ≡ f (get_or xs i d) → AddsOne c m text mid new → AddsNeeded c m (map f (take (i + 1) xs)) old new
further f c m xs i d text old mid new lt h e k =
    subst (λ (ts : List (List ℕ)). AddsNeeded c m ts old new) (sym (map_more f xs i d lt))
    (added c m (map f (take i xs)) (f (get_or xs i d)) old mid new h (subst (λ (t : List ℕ). AddsOne c m t mid new) e k))

pub further_site : (c : Rows) (m : ParseMode) (xs : List Site) (i : ℕ) (d : Site) (text : List ℕ) (old mid new : List (List ℕ)) → i < length xs
    → AddsNeeded c m (map site_text (take i xs)) old mid → text ≡ site_text (get_or xs i d) → AddsOne c m text mid new → AddsNeeded c m (map site_text (take (i + 1) xs)) old new
further_site c m xs i d text old mid new lt h e k = further site_text c m xs i d text old mid new lt h e k

-- what the expressions need at the sites that are found in a manifest
pub of_sites : (c : Rows) (m : ParseMode) (form : Form) (found : Option (Vec Site Global)) (vec : Vec Site Global) (sites : List Site) (old new : List (List ℕ)) → found ≡ Some vec → sites ≡ vec.items
    → AddsNeeded c (mode_in form m) (map site_text sites) old new → Grows old new (NeedsDeclared c m form (sites_in found))
of_sites c m form found vec sites old new is are h =
    subst (λ (o : Option (Vec Site Global)). Grows old new (NeedsDeclared c m form (sites_in o))) (sym is)
    (subst (λ (ss : List Site). AddsNeeded c (mode_in form m) (map site_text ss) old new) are h)

-- what is no text needs nothing
pub binary : (c : Rows) (m : ParseMode) (source : Source) (old : List (List ℕ)) → is_binary source.bytes ≡ true → AddsNeeded c m (tag_texts source) old old
binary c m source old e =
    subst (λ (ts : List (List ℕ)). AddsNeeded c m ts old old)
    (sym (ap (λ (b : Bool). if b then [] else map (tag_text source.bytes) (tags_of (comment_of source.path) source.bytes)) e)) (begun c m old)
