-- The page as Markdown. Names stand in code spans and texts in code blocks, in which nothing is
-- markup.
use Rattle.std.specs.Prelude.{◌≡◌, ℕ, max, List, [], ◌∷◌, ◌++◌, Bool, ◌==◌, nat_eq, if◌then◌else◌, length, flat_map, codes, replicate}
use Rattle.std.specs.List.{prefix_len, ends_with}
use Rattle.license_notice.specs.Rows.{Line, Band}
use Rattle.notice_forms.specs.Told.{Named, Told, line_text, package_count}

abbrev pub is_backquote : ℕ → Bool
is_backquote b = b == 96

-- how many backquotes stand side by side, at most
abbrev pub longest_run : List ℕ → ℕ
longest_run [] = 0
longest_run (b ∷ bs) = max (prefix_len is_backquote (b ∷ bs)) (longest_run bs)

-- a blank inside a code span that has backquotes
abbrev pub pad : ℕ → List ℕ
pad run = if run == 0 then [] else 32 ∷ []

-- a code span between one more backquote than the run
unfoldable pub code_span : ℕ → List ℕ → List ℕ
code_span run shown =
    replicate run 96 ++ (codes "`" ++
    (pad run ++ (shown ++ (pad run ++ (replicate run 96 ++ codes "`")))))

-- a name in a code span, between more backquotes than stand side by side in it; no code span is
-- empty
abbrev pub span : List ℕ → List ℕ
span [] = []
span (b ∷ bs) = code_span (longest_run (line_text (b ∷ bs))) (line_text (b ∷ bs))

-- a version behind a blank, where there is one
abbrev pub markdown_version : List ℕ → List ℕ
markdown_version [] = []
markdown_version (b ∷ bs) = 32 ∷ span (b ∷ bs)

unfoldable pub markdown_line : Line → List ℕ
markdown_line l = codes "- " ++ (span l.name ++ (markdown_version l.version ++ codes "\n"))

-- a requirement in the table of contents
unfoldable pub markdown_entry : Band → List ℕ
markdown_entry b =
    codes "- " ++ (span b.requirement ++
    (codes " (" ++ (package_count (length b.lines) ++ codes ")\n")))

-- a requirement, and the packages under it
unfoldable pub markdown_band : Band → List ℕ
markdown_band b =
    codes "\n### " ++ (span b.requirement ++ (codes "\n\n" ++ flat_map markdown_line b.lines))

-- what begins and ends a code block of these bytes: more backquotes than stand side by side in them
abbrev pub fence : List ℕ → List ℕ
fence bytes = replicate (longest_run bytes) 96 ++ codes "```"

-- wherever lines end, no part of the text is what ends its code block: so many backquotes side by
-- side, or more
abbrev pub StaysFenced : List ℕ → Type 0
StaysFenced bytes = (before after : List ℕ) → before ++ (fence bytes ++ after) ≡ bytes → ⊥

-- the newline that a text lacks at its end
abbrev pub last_newline : List ℕ → List ℕ
last_newline bytes = if ends_with nat_eq bytes (10 ∷ []) then [] else 10 ∷ []

-- the packages that have a text, where there are any, and an empty line
unfoldable pub markdown_holders : List Line → List ℕ
markdown_holders [] = []
markdown_holders (l ∷ ls) = flat_map markdown_line (l ∷ ls) ++ codes "\n"

-- a text below its name and its packages, byte for byte
unfoldable pub markdown_text : Named → List ℕ
markdown_text t =
    codes "\n### " ++ (span t.name ++
    (codes "\n\n" ++ (markdown_holders t.lines ++ (fence t.bytes ++
    (codes "text\n" ++ (t.bytes ++ (last_newline t.bytes ++ (fence t.bytes ++ codes "\n"))))))))

abbrev pub markdown_page : Told → List ℕ
markdown_page p =
    codes "# " ++ (span p.title ++
    (codes "\n\n## Licences\n\n" ++
    (flat_map markdown_entry p.bands ++
    (codes "\n## Packages\n" ++
    (flat_map markdown_band p.bands ++
    (codes "\n## Texts\n" ++ flat_map markdown_text p.texts))))))
