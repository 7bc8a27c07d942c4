-- What the page of HTML has of each package, requirement and text.
use Rattle.std.specs.Prelude.{ℕ, List, [], ◌∷◌, ◌++◌, length, flat_map, codes, decimal, if◌then◌else◌}
use Rattle.foreign_text.specs.PageText.{page_text}
use Rattle.license_notice.specs.Places.{holds}
use Rattle.license_notice.specs.Rows.{Line, Band}
use Rattle.notice_forms.specs.Numbered.{numbered}
use Rattle.notice_forms.specs.Told.{Named, package_count}

unfoldable pub html_line : Line → List ℕ
html_line l =
    codes "<li>" ++ (page_text l.name ++
    (codes " <span>" ++ (page_text l.version ++ codes "</span></li>\n")))

-- a requirement in the table of contents, with a link to its packages
unfoldable pub html_entry : ℕ → Band → List ℕ
html_entry n b =
    codes "<li><a href=\"#l" ++
    (decimal n ++ (codes "\">" ++
    (page_text b.requirement ++
    (codes "</a> <span>" ++ (package_count (length b.lines) ++ codes "</span></li>\n")))))

-- a text in the table of contents, with a link that opens it
unfoldable pub html_text_entry : ℕ → Named → List ℕ
html_text_entry n t =
    codes "<li><a href=\"#t" ++
    (decimal n ++ (codes "\">" ++ (page_text t.name ++ codes "</a></li>\n")))

-- a requirement, and the packages under it
unfoldable pub html_band : ℕ → Band → List ℕ
html_band n b =
    codes "<section id=\"l" ++
    (decimal n ++ (codes "\">\n<h3>" ++
    (page_text b.requirement ++
    (codes "</h3>\n<ul>\n" ++ (flat_map html_line b.lines ++ codes "</ul>\n</section>\n")))))

-- a version behind a blank, where there is one
unfoldable pub html_version : List ℕ → List ℕ
html_version [] = []
html_version (b ∷ bs) = codes " <span>" ++ (page_text (b ∷ bs) ++ codes "</span>")

-- a link to the packages of a requirement
unfoldable pub html_link : ℕ → List ℕ → List ℕ
html_link n requirement =
    codes ", <a href=\"#l" ++
    (decimal n ++ (codes "\">" ++ (page_text requirement ++ codes "</a>")))

-- where the package stands under the requirement
abbrev pub html_link_of : Line → ℕ → Band → List ℕ
html_link_of l n b = if holds b.lines l then html_link n b.requirement else []

-- a package in the contents by package, with a link to each requirement that it stands under
unfoldable pub html_package : List Band → Line → List ℕ
html_package bands l =
    codes "<li>" ++ (page_text l.name ++
    (html_version l.version ++ (numbered (html_link_of l) 0 bands ++ codes "</li>\n")))

-- the packages that have a text, where there are any
unfoldable pub html_holders : List Line → List ℕ
html_holders [] = []
html_holders (l ∷ ls) =
    codes "<ul>\n" ++ (flat_map html_line (l ∷ ls) ++ codes "</ul>\n")

-- a text with its packages, folded; the newline before it is none of it for a browser, which drops
-- one behind the tag
unfoldable pub html_text : ℕ → Named → List ℕ
html_text n t =
    codes "<details><summary>" ++
    (page_text t.name ++
    (codes "</summary>\n" ++ (html_holders t.lines ++
    (codes "<pre id=\"t" ++
    (decimal n ++ (codes "\">\n" ++ (page_text t.bytes ++ codes "</pre>\n</details>\n")))))))
