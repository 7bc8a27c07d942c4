-- The page in any form.
use Rattle.std.specs.Prelude.{ℕ, List, ⊤}
use Rattle.notice_forms.specs.declared.errors.PageError.{PageError}
use Rattle.notice_forms.specs.declared.errors.PageError.TheVariants.{Memory, NotUtf8}
use Rattle.notice_forms.specs.declared.pages.Format.{Format}
use Rattle.notice_forms.specs.declared.pages.Format.TheVariants.{Text, Markdown, Html, Json}
use Rattle.notice_forms.specs.Told.{Told}
use Rattle.notice_forms.specs.Plain.{plain_page}
use Rattle.notice_forms.specs.Markdown.{markdown_page}
use Rattle.notice_forms.specs.Html.{html_page}
use Rattle.notice_forms.specs.Json.{json_page}
use Rattle.notice_forms.specs.Refusals.{IsTextRefusal}

abbrev pub page_in : Format → Told → List ℕ
page_in Text p = plain_page p
page_in Markdown p = markdown_page p
page_in Html p = html_page p
page_in Json p = json_page p

-- memory was refused, or the form is HTML or JSON and a text of the name is no UTF-8
abbrev pub IsRefusal : Format → Told → PageError → Type 0
IsRefusal format p Memory = ⊤
IsRefusal Text p (NotUtf8 name) = ⊥
IsRefusal Markdown p (NotUtf8 name) = ⊥
IsRefusal Html p (NotUtf8 name) = IsTextRefusal p.texts (NotUtf8 name)
IsRefusal Json p (NotUtf8 name) = IsTextRefusal p.texts (NotUtf8 name)
