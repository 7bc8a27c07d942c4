-- The head of the page loads nothing, runs nothing and hides nothing.
use Rattle.std.proofs.Common.{ℕ, List, [], ◌∷◌, ◌++◌, codes, refl}
use Rattle.foreign_text.specs.PageText.{page_text}
use Rattle.foreign_text.specs.PageStyle.{is_plain_style}
use Rattle.foreign_text.specs.PageHead.{BeginsPlainly, policy}
use Rattle.gate_forms.specs.declared.reports.Report.{Report}
use Rattle.gate_forms.specs.declared.reports.Totals.{Totals}
use Rattle.gate_forms.specs.Top.{page_style, page_top}
use Rattle.gate_forms.specs.Page.{page_with}

behind_top : (rest : List ℕ) → BeginsPlainly (page_top ++ rest)
unfolding is_plain_style
behind_top rest = record {
  doctype = codes "<!doctype html>";
  metas = codes "charset=\"utf-8\"" ∷ codes "name=\"viewport\" content=\"width=device-width, initial-scale=1\"" ∷ policy ∷ [];
  title = codes "Licences of packages";
  style = page_style;
  body = codes "<main>\n" ++ rest;
  cut = refl;
  is_html = refl;
  knows_metas = refl;
  loads_nothing = refl;
  closes_title = refl;
  hides_nothing = refl;
}

pub begins_plainly : (named : List ℕ) (totals : Totals) (reports : List Report) → BeginsPlainly (page_with page_text named totals reports)
begins_plainly named totals reports = behind_top _
