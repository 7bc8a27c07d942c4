-- The head of the page of HTML loads nothing, runs nothing and hides nothing.
use Rattle.std.proofs.Common.{ℕ, ◌-◌, List, [], ◌∷◌, ◌++◌, codes, refl, sym, ap, ◌∙◌, append_assoc, drop, take, length}
use Rattle.foreign_text.specs.PageText.{page_text}
use Rattle.foreign_text.specs.PageStyle.{is_plain_style}
use Rattle.foreign_text.specs.PageHead.{BeginsPlainly, policy}
use Rattle.foreign_text.proofs.PageHeads.{text_has_no_tag}
use Rattle.notice_forms.specs.declared.style.TheConstants.{HTML_HEAD, HTML_STYLE}
use Rattle.notice_forms.specs.Told.{Told}
use Rattle.notice_forms.specs.Html.{html_page}
use Rattle.notice_forms.specs.Seen.{html_body}
use Rattle.notice_forms.proofs.Seeing.{is_shown}

-- between the tags of the style
style_text : List ℕ
style_text = take (length HTML_STYLE.now - 45) (drop 17 HTML_STYLE.now)

behind_head : (title rest : List ℕ) → BeginsPlainly ((HTML_HEAD.now ++ (page_text title ++ HTML_STYLE.now)) ++ rest)
unfolding is_plain_style style_text
behind_head title rest = record {
  doctype = codes "<!DOCTYPE html>";
  metas = codes "charset=\"utf-8\"" ∷ policy ∷ codes "name=\"viewport\" content=\"width=device-width, initial-scale=1\"" ∷ codes "name=\"color-scheme\" content=\"light dark\"" ∷ [];
  title = page_text title;
  style = style_text;
  body = codes "<h1>" ++ rest;
  cut = ap (λ (t : List ℕ). HTML_HEAD.now ++ t) (append_assoc (page_text title) HTML_STYLE.now rest ∙ sym (append_assoc (page_text title) (codes "</title>\n<style>\n" ++ (style_text ++ codes "</style>\n</head>\n<body>\n")) (codes "<h1>" ++ rest)));
  is_html = refl;
  knows_metas = refl;
  loads_nothing = refl;
  closes_title = text_has_no_tag title;
  hides_nothing = refl;
}

pub begins_plainly : (p : Told) → BeginsPlainly (html_page p)
begins_plainly p = rw ((is_shown p).cut) (behind_head p.title (html_body p))
