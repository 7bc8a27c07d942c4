-- What the page begins with.
use Rattle.std.specs.Prelude.{ℕ, List, ◌++◌, codes}

-- up to the style
abbrev pub page_head : List ℕ
page_head =
    codes "<!doctype html>\n" ++
    (codes "<html lang=\"en\">\n" ++
    (codes "<head>\n" ++
    (codes "<meta charset=\"utf-8\">\n" ++
    (codes "<meta name=\"viewport\" content=\"width=device-width, initial-scale=1\">\n" ++
    (codes
    "<meta http-equiv=\"Content-Security-Policy\" content=\"default-src 'none'; style-src 'unsafe-inline'\">\n" ++
    (codes "<title>Licences of packages</title>\n" ++
    (codes "<style>\n")))))))

abbrev pub page_style : List ℕ
page_style =
    codes
    ":root{color-scheme:light dark;--ink:#1b1b1f;--ground:#fff;--soft:#5c5f66;--line:#d5d7dc;--card:#f6f7f9;--no:#b3261e;--yes:#1b6e3c}\n" ++
    (codes
    "@media (prefers-color-scheme:dark){:root{--ink:#e6e6ea;--ground:#16171a;--soft:#a3a7b0;--line:#3a3d44;--card:#1f2125;--no:#ff8a80;--yes:#7ddc9a}}\n" ++
    (codes
    "body{margin:0;background:var(--ground);color:var(--ink);font:1rem/1.5 system-ui,sans-serif}\n" ++
    (codes "main{max-width:60rem;margin:0 auto;padding:1rem}\n" ++
    (codes "h1,h2,h3{line-height:1.25;overflow-wrap:anywhere}\n" ++
    (codes "h2{display:inline-block;font-size:1.25rem}\n" ++
    (codes "h3{margin:0;font-size:1.05rem}\n" ++
    (codes "p{margin:.4rem 0;overflow-wrap:anywhere}\n" ++
    (codes
    "article{margin:0 0 1rem;padding:.75rem 1rem;border:1px solid var(--line);border-left:.3rem solid var(--no);border-radius:.3rem;background:var(--card)}\n" ++
    (codes
    "pre{margin:.4rem 0;white-space:pre-wrap;overflow-wrap:anywhere;font:.9rem/1.5 ui-monospace,monospace}\n" ++
    (codes "ul{margin:.4rem 0;padding:0;list-style:none}\n" ++
    (codes "li{padding:.1rem 0;overflow-wrap:anywhere}\n" ++
    (codes
    ".tree li{padding-left:min(calc(var(--d)*1.2rem),50%);font:.9rem/1.5 ui-monospace,monospace}\n" ++
    (codes ".yes,.yes b{color:var(--yes)}\n" ++
    (codes ".no{color:var(--no)}\n" ++
    (codes ".file{color:var(--soft);font-size:.9rem}\n" ++
    (codes ".advice{font-weight:600}\n" ++
    (codes "summary{cursor:pointer}\n" ++
    (codes
    "@media print{body{font-size:.8rem}article{break-inside:avoid}main{max-width:none;padding:0}details::details-content{content-visibility:visible}}\n"))))))))))))))))))

abbrev pub page_body : List ℕ
page_body =
    codes "</style>\n" ++
    (codes "</head>\n" ++
    (codes "<body>\n" ++
    (codes "<main>\n")))

abbrev pub page_top : List ℕ
page_top = page_head ++ (page_style ++ page_body)
