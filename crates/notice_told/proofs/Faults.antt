-- Why no page is written of packages.
use Rattle.std.proofs.Common.{◌≡◌, ℕ, true, List, ◌++◌, Any, refl, subst}
use Rattle.std.specs.Borrow.{Bor}
use Rattle.std.specs.Str.{IsUtf8}
use Rattle.notice_forms.specs.declared.errors.PageError.{PageError}
use Rattle.notice_forms.specs.declared.errors.PageError.TheVariants.{NotUtf8 as RefusedText}
use Rattle.notice_forms.specs.declared.pages.Format.{Format}
use Rattle.notice_forms.specs.declared.pages.Format.TheVariants.{Text, Markdown, Html, Json}
use Rattle.notice_forms.specs.Pages.{IsRefusal}
use Rattle.notice_forms.specs.Told.{Named, Told}
use Rattle.notice_told.specs.declared.lacks.GeneralText.{GeneralText}
use Rattle.notice_told.specs.declared.packages.Package.{Package}
use Rattle.notice_told.specs.declared.page.Look.{Look}
use Rattle.notice_told.specs.declared.page.NoticeFault.{NoticeFault}
use Rattle.notice_told.specs.declared.page.NoticeFault.TheVariants.{Memory, NotUtf8}
use Rattle.notice_told.specs.Lacks.{lacks_in}
use Rattle.notice_told.specs.Page.{AreTexts, IsNoticeFault, IsPageFault, is_utf8}

pub of_page : (look : Look) (packages : List Package) (general : List GeneralText) (own others : List Named) (fault : NoticeFault)
    → AreTexts look.marks_general packages (lacks_in packages) general own others → IsPageFault look.format (own ++ others) fault
    → IsNoticeFault look packages general fault
of_page look packages general own others Memory texts page = page
of_page look packages general own others (NotUtf8 name) texts page = (own, others, texts, page)

of_form : (format : Format) (p : Told) (name : Bor (List ℕ)) → IsRefusal format p (RefusedText name)
    → (is_utf8 format ≡ true) × Any (λ (t : Named). (t.name ≡ name.now) × (¬ (IsUtf8 t.bytes))) p.texts
of_form Text p name h = absurd h
of_form Markdown p name h = absurd h
of_form Html p name h = (refl, h)
of_form Json p name h = (refl, h)

pub of_fault : (format : Format) (p : Told) (fault : PageError) (name : Bor (List ℕ)) → fault ≡ RefusedText name → IsRefusal format p fault
    → (is_utf8 format ≡ true) × Any (λ (t : Named). (t.name ≡ name.now) × (¬ (IsUtf8 t.bytes))) p.texts
of_fault format p fault name e h = of_form format p name (subst (IsRefusal format p) e h)
