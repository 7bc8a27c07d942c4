-- The page as one file of HTML.
use Rattle.std.specs.Prelude.{ℕ, List, [], ◌∷◌, ◌++◌, codes, flat_map}
use Rattle.foreign_text.specs.PageText.{page_text}
use Rattle.license_notice.specs.Rows.{Band}
use Rattle.notice_forms.specs.declared.style.TheConstants.{HTML_HEAD, HTML_STYLE}
use Rattle.notice_forms.specs.Told.{Named, Told}
use Rattle.notice_forms.specs.Numbered.{numbered}
use Rattle.notice_forms.specs.Markup.{html_entry, html_text_entry, html_band, html_package, html_text}

-- up to the heading
unfoldable pub html_front : List ℕ → List ℕ
html_front title =
    HTML_HEAD.now ++ (page_text title ++ (HTML_STYLE.now ++ (page_text title ++ codes "</h1>\n")))

unfoldable pub html_text_list : List Named → List ℕ
html_text_list texts =
    codes "<h2>Licence texts</h2>\n<ol>\n" ++
    (numbered html_text_entry 0 texts ++ codes "</ol>\n")

-- the texts in the table of contents, where there are any
abbrev pub html_text_contents : List Named → List ℕ
html_text_contents [] = []
html_text_contents (t ∷ ts) = html_text_list (t ∷ ts)

-- the table of contents: requirements, where the packages are, and texts
unfoldable pub html_contents : List Band → List Named → List ℕ
html_contents bands texts =
    codes "<nav>\n<h2>Licences</h2>\n<ol>\n" ++
    (numbered html_entry 0 bands ++
    (codes "</ol>\n<h2><a href=\"#packages\">Packages</a></h2>\n" ++
    (html_text_contents texts ++ codes "</nav>\n")))

unfoldable pub html_text_part : List Named → List ℕ
html_text_part texts = codes "<h2>Licence texts</h2>\n" ++ numbered html_text 0 texts

-- the texts, where there are any
abbrev pub html_texts : List Named → List ℕ
html_texts [] = []
html_texts (t ∷ ts) = html_text_part (t ∷ ts)

-- the page
abbrev pub html_page : Told → List ℕ
html_page p =
    html_front p.title ++
    (html_contents p.bands p.texts ++
    (codes "<main>\n<h2>Packages by licence</h2>\n" ++
    (numbered html_band 0 p.bands ++
    (codes "<h2 id=\"packages\">Packages</h2>\n<ul>\n" ++
    (flat_map (html_package p.bands) p.packages ++
    (codes "</ul>\n" ++ (html_texts p.texts ++ codes "</main>\n</body>\n</html>\n")))))))
