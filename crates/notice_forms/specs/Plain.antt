-- The page as plain text.
use Rattle.std.specs.Prelude.{ℕ, List, [], ◌∷◌, ◌++◌, length, flat_map, codes, replicate}
use Rattle.license_notice.specs.Rows.{Line, Band}
use Rattle.notice_forms.specs.Told.{Named, Told, line_text, package_count}

-- a version behind a blank, where there is one
abbrev pub plain_version : List ℕ → List ℕ
plain_version [] = []
plain_version (b ∷ bs) = 32 ∷ line_text (b ∷ bs)

-- a package: its name and version
unfoldable pub plain_line : Line → List ℕ
plain_line l = codes "  " ++ (line_text l.name ++ (plain_version l.version ++ 10 ∷ []))

-- a requirement in the table of contents
unfoldable pub plain_entry : Band → List ℕ
plain_entry b =
    codes "  " ++ (line_text b.requirement ++
    (codes " (" ++ (package_count (length b.lines) ++ codes ")\n")))

-- a requirement, and the packages under it
unfoldable pub plain_band : Band → List ℕ
plain_band b = 10 ∷ (line_text b.requirement ++ (10 ∷ flat_map plain_line b.lines))

unfoldable pub plain_rule : List ℕ
plain_rule = replicate 80 45 ++ 10 ∷ []

-- a text below its name and its packages, byte for byte, and a newline
unfoldable pub plain_text : Named → List ℕ
plain_text t =
    10 ∷ (plain_rule ++ (line_text t.name ++
    (10 ∷ (flat_map plain_line t.lines ++ (plain_rule ++ (t.bytes ++ 10 ∷ []))))))

abbrev pub plain_page : Told → List ℕ
plain_page p =
    line_text p.title ++
    (codes "\n\nContents\n" ++
    (flat_map plain_entry p.bands ++
    (flat_map plain_band p.bands ++ flat_map plain_text p.texts)))
