-- What a browser shows of the page of HTML: its bytes without their tags, with the entities read.
use Rattle.std.specs.Prelude.{◌≡◌, ℕ, List, [], ◌∷◌, ◌++◌, Bool, true, false, not, ◌==◌, if◌then◌else◌, Option, Some, length, flat_map, codes}
use Rattle.foreign_text.specs.PageText.{page_text, read_text, shown_text}
use Rattle.license_notice.specs.Places.{bands_with}
use Rattle.license_notice.specs.Rows.{Line, Band}
use Rattle.notice_forms.specs.declared.style.TheConstants.{HTML_HEAD, HTML_STYLE}
use Rattle.notice_forms.specs.Told.{Named, Told, package_count}
use Rattle.notice_forms.specs.Numbered.{numbered}
use Rattle.notice_forms.specs.Markup.{html_band, html_package}
use Rattle.notice_forms.specs.Html.{html_contents, html_page, html_texts}

-- ---- how a page is read

-- the bytes outside of tags; a tag begins with `<` and ends with `>`
abbrev pub untagged : Bool → List ℕ → List ℕ
untagged in_tag [] = []
untagged true (b ∷ bs) = untagged (not (b == 62)) bs
untagged false (b ∷ bs) = if b == 60 then untagged true bs else b ∷ untagged false bs

-- what is shown of a part of the body that begins outside of a tag, if that can be read
abbrev pub seen : List ℕ → Option (List ℕ)
seen page = read_text (untagged false page)

-- ---- what it says

-- a package: its name and version
abbrev pub said_line : Line → List ℕ
said_line l = shown_text l.name ++ (32 ∷ (shown_text l.version ++ 10 ∷ []))

-- a requirement in the table of contents
abbrev pub said_entry : Band → List ℕ
said_entry b = shown_text b.requirement ++ (32 ∷ (package_count (length b.lines) ++ 10 ∷ []))

abbrev pub said_text_entry : Named → List ℕ
said_text_entry t = shown_text t.name ++ 10 ∷ []

-- a requirement, and the packages under it
abbrev pub said_band : Band → List ℕ
said_band b =
    10 ∷ (shown_text b.requirement ++
    (codes "\n\n" ++ (flat_map said_line b.lines ++ codes "\n\n")))

-- a version behind a blank, where there is one
abbrev pub said_version : List ℕ → List ℕ
said_version [] = []
said_version (b ∷ bs) = 32 ∷ shown_text (b ∷ bs)

abbrev pub said_link : Band → List ℕ
said_link b = codes ", " ++ shown_text b.requirement

-- a package, and the requirements that it stands under
abbrev pub said_package : List Band → Line → List ℕ
said_package bands l =
    shown_text l.name ++
    (said_version l.version ++ (flat_map said_link (bands_with bands l) ++ 10 ∷ []))

-- the packages that have a text
abbrev pub said_holders : List Line → List ℕ
said_holders [] = []
said_holders (l ∷ ls) = 10 ∷ (flat_map said_line (l ∷ ls) ++ 10 ∷ [])

-- a text below its name and its packages
abbrev pub said_text : Named → List ℕ
said_text t =
    shown_text t.name ++
    (10 ∷ (said_holders t.lines ++ (10 ∷ (shown_text t.bytes ++ codes "\n\n"))))

abbrev pub said_text_contents : List Named → List ℕ
said_text_contents [] = []
said_text_contents (t ∷ ts) =
    codes "Licence texts\n\n" ++ (flat_map said_text_entry (t ∷ ts) ++ 10 ∷ [])

abbrev pub said_contents : Told → List ℕ
said_contents p =
    codes "\nLicences\n\n" ++
    (flat_map said_entry p.bands ++
    (codes "\nPackages\n" ++ (said_text_contents p.texts ++ 10 ∷ [])))

abbrev pub said_texts : List Named → List ℕ
said_texts [] = []
said_texts (t ∷ ts) = codes "Licence texts\n" ++ flat_map said_text (t ∷ ts)

-- the title, the contents, each requirement with its packages, each package with its requirements,
-- and each text, once and in their order
abbrev pub said_page : Told → List ℕ
said_page p =
    shown_text p.title ++
    (10 ∷ (said_contents p ++
    (codes "\nPackages by licence\n" ++
    (flat_map said_band p.bands ++
    (codes "Packages\n\n" ++
    (flat_map (said_package p.bands) p.packages ++
    (10 ∷ (said_texts p.texts ++ codes "\n\n\n"))))))))

-- ---- that it says it

-- up to the heading: of what is shown of a page it has the title alone
abbrev pub html_head : List ℕ → List ℕ
html_head title = HTML_HEAD.now ++ (page_text title ++ HTML_STYLE.now)

-- from the heading on
abbrev pub html_body : Told → List ℕ
html_body p =
    page_text p.title ++
    (codes "</h1>\n" ++ (html_contents p.bands p.texts ++
    (codes "<main>\n<h2>Packages by licence</h2>\n" ++
    (numbered html_band 0 p.bands ++
    (codes "<h2 id=\"packages\">Packages</h2>\n<ul>\n" ++
    (flat_map (html_package p.bands) p.packages ++
    (codes "</ul>\n" ++ (html_texts p.texts ++ codes "</main>\n</body>\n</html>\n"))))))))

-- the page is a head and a body, of which a browser shows what it says
pub record IsShown (p : Told) : Type 0 where
  pub cut : html_page p ≡ html_head p.title ++ html_body p
  pub says : seen (html_body p) ≡ Some (said_page p)
