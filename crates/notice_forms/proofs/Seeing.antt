-- What is shown of pieces of a page, one behind the other.
use Rattle.std.proofs.Common.{◌≡◌, ◌≢◌, ℕ, zero, suc, ◌+◌, ◌<◌, ◌≤◌, ◌%◌, ◌/◌, List, [], ◌∷◌, ◌++◌, Bool, true, false, cond, eqb, Some, length, flat_map, chars, codes, refl, sym, ap, ◌∙◌, subst, append_assoc, append-nil, arith}
use Rattle.std.proofs.lemmas.Bool.Decides.{nat_tests}
use Rattle.std.specs.Prelude.{not}
use Rattle.std.specs.Fmt.{decimal, digits, digits_onto, digit_glyph}
use Rattle.foreign_text.specs.PageText.{HasNoMarkup, is_mark, page_char, page_text, read_from, shown_char, shown_text}
use Rattle.foreign_text.proofs.PageLaws.{IsPlain, ArePlain, no_markup, plain_no_markup, plain_read, char_read}
use Rattle.license_notice.specs.Places.{holds, bands_with}
use Rattle.license_notice.specs.Rows.{Line, Band}
use Rattle.notice_forms.specs.declared.style.TheConstants.{HTML_HEAD, HTML_STYLE}
use Rattle.notice_forms.specs.Told.{Named, Told, package_count}
use Rattle.notice_forms.specs.Numbered.{numbered}
use Rattle.notice_forms.specs.Markup.{html_line, html_entry, html_text_entry, html_band, html_version, html_link, html_link_of, html_package, html_holders, html_text}
use Rattle.notice_forms.specs.Html.{html_front, html_text_list, html_text_contents, html_contents, html_text_part, html_texts}
use Rattle.notice_forms.specs.Seen.{untagged, said_line, said_entry, said_text_entry, said_band, said_version, said_link, said_package, said_holders, said_text, said_text_contents, said_contents, said_texts, said_page, html_body, IsShown}

-- ---- pieces

-- a piece that begins in a tag or outside, as s says, and ends so, as t says, shows this text
record Shows (s : Bool) (page : List ℕ) (t : Bool) (text : List ℕ) : Type 0 where
  pub go : (rest out : List ℕ) → read_from 0 (untagged t rest) ≡ Some out → read_from 0 (untagged s (page ++ rest)) ≡ Some (text ++ out)

then : {s t u : Bool} {a b x y : List ℕ} → Shows s a t x → Shows t b u y → Shows s (a ++ b) u (x ++ y)
then {s = s} {a = a} {b = b} {x = x} {y = y} h k = record {
  go = λ rest out e.
      ap (λ (bs : List ℕ). read_from 0 (untagged s bs)) (append_assoc a b rest) ∙ h.go (b ++ rest) (y ++ out) (k.go rest out e) ∙ ap (λ (ts : List ℕ). Some ts) (sym (append_assoc x y out));
}

-- ---- texts

no_begin : (b : ℕ) → b ≢ 60 → eqb b 60 ≡ false
no_begin b = grind (arith, nat_tests)

no_end : (b : ℕ) → b ≢ 62 → eqb b 62 ≡ false
no_end b = grind (arith, nat_tests)

outside : (xs rest : List ℕ) → HasNoMarkup xs → untagged false (xs ++ rest) ≡ xs ++ untagged false rest
outside [] rest h = refl
outside (x ∷ xs) rest h = rw (no_begin x h.0.0) (ap (λ (bs : List ℕ). x ∷ bs) (outside xs rest h.1))

inside : (xs rest : List ℕ) → HasNoMarkup xs → untagged true (xs ++ rest) ≡ untagged true rest
inside [] rest h = refl
inside (x ∷ xs) rest h = ap (λ (b : Bool). untagged (not b) (xs ++ rest)) (no_end x h.0.1) ∙ inside xs rest h.1

chars_shown : (cs rest out : List ℕ) → read_from 0 rest ≡ Some out → read_from 0 (flat_map page_char cs ++ rest) ≡ Some (flat_map shown_char cs ++ out)
chars_shown [] rest out e = e
chars_shown (c ∷ cs) rest out e =
    ap (read_from 0) (append_assoc (page_char c) (flat_map page_char cs) rest)
    ∙ char_read c (flat_map page_char cs ++ rest) (flat_map shown_char cs ++ out) (chars_shown cs rest out e)
    ∙ ap (λ (ts : List ℕ). Some ts) (sym (append_assoc (shown_char c) (flat_map shown_char cs) out))

text : (x : List ℕ) → Shows false (page_text x) false (shown_text x)
text x = record {
  go = λ rest out e. ap (read_from 0) (outside (page_text x) rest (no_markup x)) ∙ chars_shown (chars x) (untagged false rest) out e;
}

plain : (xs : List ℕ) → ArePlain xs → Shows false xs false xs
plain xs h = record {
  go = λ rest out e. ap (read_from 0) (outside xs rest (plain_no_markup xs h)) ∙ plain_read xs (untagged false rest) out h e;
}

-- ---- numbers

digit_entity : (b : ℕ) → 48 ≤ b → b < 58 → eqb b 38 ≡ false
digit_entity b = grind (arith, nat_tests)

digit_mark : (b : ℕ) → 48 ≤ b → b < 58 → is_mark b ≡ false
digit_mark b = grind (arith, nat_tests)

glyph : (d : ℕ) → d < 10 → digit_glyph false d ≡ 48 + d
glyph d = grind (arith, nat_tests)

plain-glyph : (d : ℕ) → d < 10 → IsPlain (digit_glyph false d)
plain-glyph d h = subst IsPlain (sym (glyph d h)) (record { no_entity = digit_entity (48 + d) (omega arith) (omega arith); no_mark = digit_mark (48 + d) (omega arith) (omega arith) })

either : (b : Bool) (xs ys : List ℕ) → ArePlain xs → ArePlain ys → ArePlain (cond b xs ys)
either true xs ys h k = h
either false xs ys h k = k

plain-digits : (k n : ℕ) (acc : List ℕ) → ArePlain acc → ArePlain (digits_onto k 10 false n acc)
plain-digits zero n acc h = h
plain-digits (suc k) n acc h =
    let last = plain-glyph (n % 10) (omega arith) in
    either (eqb (n / 10) 0) _ _ (last, h) (plain-digits k (n / 10) _ (last, h))

plain-decimal : (n : ℕ) → ArePlain (decimal n)
unfolding digits
plain-decimal n = plain-digits 64 n [] tt

number : (n : ℕ) → Shows true (decimal n) true []
number n = record { go = λ rest out e. ap (read_from 0) (inside (decimal n) rest (plain_no_markup (decimal n) (plain-decimal n))) ∙ e }

letter : (b : ℕ) → eqb b 38 ≡ false → is_mark b ≡ false → IsPlain b
letter b h k = record { no_entity = h; no_mark = k }

one_package : Shows false (codes " package") false (codes " package")
one_package = plain (codes " package") (letter _ refl refl, (letter _ refl refl, (letter _ refl refl, (letter _ refl refl, (letter _ refl refl, (letter _ refl refl, (letter _ refl refl, (letter _ refl refl, tt))))))))

ending : (b : Bool) → ArePlain (cond b [] (codes "s"))
ending true = tt
ending false = (letter _ refl refl, tt)

count : (n : ℕ) → Shows false (package_count n) false (package_count n)
unfolding package_count
count n = then (plain (decimal n) (plain-decimal n)) (then one_package (plain _ (ending (eqb n 1))))

-- ---- entries

nothing : Shows false [] false []
nothing = record { go = λ rest out e. e }

many : {A : Type 0} (f g : A → List ℕ) → ((x : A) → Shows false (f x) false (g x)) → (xs : List A) → Shows false (flat_map f xs) false (flat_map g xs)
many f g h [] = nothing
many f g h (x ∷ xs) = then (h x) (many f g h xs)

many_numbered : {A : Type 0} (f : ℕ → A → List ℕ) (g : A → List ℕ) → ((n : ℕ) (x : A) → Shows false (f n x) false (g x)) → (n : ℕ) (xs : List A) → Shows false (numbered f n xs) false (flat_map g xs)
many_numbered f g h n [] = nothing
many_numbered f g h n (x ∷ xs) = then (h n x) (many_numbered f g h (n + 1) xs)

-- mark-up by the tags that it has, and what it shows

item : Shows false (codes "<li>") false []
item = record { go = λ rest out e. e }

version : Shows false (codes " <span>") false (32 ∷ [])
version = record { go = λ rest out e. rw e refl }

item_end : Shows false (codes "</span></li>\n") false (10 ∷ [])
item_end = record { go = λ rest out e. rw e refl }

line : (l : Line) → Shows false (html_line l) false (said_line l)
unfolding html_line
line l = then item (then (text l.name) (then version (then (text l.version) item_end)))

version_end : Shows false (codes "</span>") false []
version_end = record { go = λ rest out e. e }

comma_link : Shows false (codes ", <a href=\"#l") true (codes ", ")
comma_link = record { go = λ rest out e. rw e refl }

anchor_end : Shows false (codes "</a>") false []
anchor_end = record { go = λ rest out e. e }

plain_end : Shows false (codes "</li>\n") false (10 ∷ [])
plain_end = record { go = λ rest out e. rw e refl }

link : Shows false (codes "<li><a href=\"#l") true []
link = record { go = λ rest out e. e }

text_link : Shows false (codes "<li><a href=\"#t") true []
text_link = record { go = λ rest out e. e }

tag_end : Shows true (codes "\">") false []
tag_end = record { go = λ rest out e. e }

link_end : Shows false (codes "</a> <span>") false (32 ∷ [])
link_end = record { go = λ rest out e. rw e refl }

version_of : (v : List ℕ) → Shows false (html_version v) false (said_version v)
unfolding html_version
version_of [] = nothing
version_of (b ∷ bs) =
    subst (λ (t : List ℕ). Shows false (html_version (b ∷ bs)) false (32 ∷ t)) (append-nil (shown_text (b ∷ bs))) (then version (then (text (b ∷ bs)) version_end))

requirement_link : (n : ℕ) (x : List ℕ) → Shows false (html_link n x) false (codes ", " ++ shown_text x)
unfolding html_link
requirement_link n x =
    subst (λ (t : List ℕ). Shows false (html_link n x) false (codes ", " ++ t)) (append-nil (shown_text x)) (then comma_link (then (number n) (then tag_end (then (text x) anchor_end))))

link_where : (c : Bool) (n : ℕ) (b : Band) → Shows false (cond c (html_link n b.requirement) []) false (cond c (said_link b) [])
link_where true n b = requirement_link n b.requirement
link_where false n b = nothing

links : (l : Line) (n : ℕ) (bands : List Band) → Shows false (numbered (html_link_of l) n bands) false (flat_map (λ (b : Band). cond (holds b.lines l) (said_link b) []) bands)
links l n bands = many_numbered (html_link_of l) (λ (b : Band). cond (holds b.lines l) (said_link b) []) (λ k b. link_where (holds b.lines l) k b) n bands

only : (l : Line) (bands : List Band) → flat_map (λ (b : Band). cond (holds b.lines l) (said_link b) []) bands ≡ flat_map said_link (bands_with bands l)
only l [] = refl
only l (b ∷ bands) = by (holds b.lines l) refl (only l bands)
  where
    by : (c : Bool) → holds b.lines l ≡ c → flat_map (λ (b : Band). cond (holds b.lines l) (said_link b) []) bands ≡ flat_map said_link (bands_with bands l) →
        flat_map (λ (b : Band). cond (holds b.lines l) (said_link b) []) (b ∷ bands) ≡ flat_map said_link (bands_with (b ∷ bands) l)
    by true e more = rw e (ap (λ (xs : List ℕ). said_link b ++ xs) more)
    by false e more = rw e more

by_package : (bands : List Band) (l : Line) → Shows false (html_package bands l) false (said_package bands l)
unfolding html_package
by_package bands l =
    then item (then (text l.name) (then (version_of l.version) (then (subst (λ (t : List ℕ). Shows false (numbered (html_link_of l) 0 bands) false t) (only l bands) (links l 0 bands)) plain_end)))

text_link_end : Shows false (codes "</a></li>\n") false (10 ∷ [])
text_link_end = record { go = λ rest out e. rw e refl }

entry : (n : ℕ) (b : Band) → Shows false (html_entry n b) false (said_entry b)
unfolding html_entry
entry n b = then link (then (number n) (then tag_end (then (text b.requirement) (then link_end (then (count (length b.lines)) item_end)))))

text_entry : (n : ℕ) (t : Named) → Shows false (html_text_entry n t) false (said_text_entry t)
unfolding html_text_entry
text_entry n t = then text_link (then (number n) (then tag_end (then (text t.name) text_link_end)))

section : Shows false (codes "<section id=\"l") true []
section = record { go = λ rest out e. e }

heading : Shows true (codes "\">\n<h3>") false (10 ∷ [])
heading = record { go = λ rest out e. rw e refl }

list : Shows false (codes "</h3>\n<ul>\n") false (codes "\n\n")
list = record { go = λ rest out e. rw e refl }

section_end : Shows false (codes "</ul>\n</section>\n") false (codes "\n\n")
section_end = record { go = λ rest out e. rw e refl }

band : (n : ℕ) (b : Band) → Shows false (html_band n b) false (said_band b)
unfolding html_band
band n b = then section (then (number n) (then heading (then (text b.requirement) (then list (then (many html_line said_line line b.lines) section_end)))))

summary : Shows false (codes "<details><summary>") false []
summary = record { go = λ rest out e. e }

summary_end : Shows false (codes "</summary>\n") false (10 ∷ [])
summary_end = record { go = λ rest out e. rw e refl }

holders_begin : Shows false (codes "<ul>\n") false (10 ∷ [])
holders_begin = record { go = λ rest out e. rw e refl }

holders_end : Shows false (codes "</ul>\n") false (10 ∷ [])
holders_end = record { go = λ rest out e. rw e refl }

holders : (ls : List Line) → Shows false (html_holders ls) false (said_holders ls)
unfolding html_holders
holders [] = nothing
holders (l ∷ ls) = then holders_begin (then (many html_line said_line line (l ∷ ls)) holders_end)

text_begin : Shows false (codes "<pre id=\"t") true []
text_begin = record { go = λ rest out e. e }

folded : Shows true (codes "\">\n") false (10 ∷ [])
folded = record { go = λ rest out e. rw e refl }

folded_end : Shows false (codes "</pre>\n</details>\n") false (codes "\n\n")
folded_end = record { go = λ rest out e. rw e refl }

text_below : (n : ℕ) (t : Named) → Shows false (html_text n t) false (said_text t)
unfolding html_text
text_below n t = then summary (then (text t.name) (then summary_end (then (holders t.lines) (then text_begin (then (number n) (then folded (then (text t.bytes) folded_end)))))))

-- ---- the page

licences : Shows false (codes "<nav>\n<h2>Licences</h2>\n<ol>\n") false (codes "\nLicences\n\n")
licences = record { go = λ rest out e. rw e refl }

to_packages : Shows false (codes "</ol>\n<h2><a href=\"#packages\">Packages</a></h2>\n") false (codes "\nPackages\n")
to_packages = record { go = λ rest out e. rw e refl }

texts_begin : Shows false (codes "<h2>Licence texts</h2>\n<ol>\n") false (codes "Licence texts\n\n")
texts_begin = record { go = λ rest out e. rw e refl }

texts_end : Shows false (codes "</ol>\n") false (10 ∷ [])
texts_end = record { go = λ rest out e. rw e refl }

contents_end : Shows false (codes "</nav>\n") false (10 ∷ [])
contents_end = record { go = λ rest out e. rw e refl }

text_contents : (ts : List Named) → Shows false (html_text_contents ts) false (said_text_contents ts)
unfolding html_text_list
text_contents [] = nothing
text_contents (t ∷ ts) = then texts_begin (then (many_numbered html_text_entry said_text_entry text_entry 0 (t ∷ ts)) texts_end)

contents : (p : Told) → Shows false (html_contents p.bands p.texts) false (said_contents p)
unfolding html_contents
contents p = then licences (then (many_numbered html_entry said_entry entry 0 p.bands) (then to_packages (then (text_contents p.texts) contents_end)))

title_end : Shows false (codes "</h1>\n") false (10 ∷ [])
title_end = record { go = λ rest out e. rw e refl }

packages : Shows false (codes "<main>\n<h2>Packages by licence</h2>\n") false (codes "\nPackages by licence\n")
packages = record { go = λ rest out e. rw e refl }

all_packages : Shows false (codes "<h2 id=\"packages\">Packages</h2>\n<ul>\n") false (codes "Packages\n\n")
all_packages = record { go = λ rest out e. rw e refl }

packages_end : Shows false (codes "</ul>\n") false (10 ∷ [])
packages_end = record { go = λ rest out e. rw e refl }

texts_heading : Shows false (codes "<h2>Licence texts</h2>\n") false (codes "Licence texts\n")
texts_heading = record { go = λ rest out e. rw e refl }

texts_part : (ts : List Named) → Shows false (html_texts ts) false (said_texts ts)
unfolding html_text_part
texts_part [] = nothing
texts_part (t ∷ ts) = then texts_heading (many_numbered html_text said_text text_below 0 (t ∷ ts))

page_end : Shows false (codes "</main>\n</body>\n</html>\n") false (codes "\n\n\n")
page_end = record { go = λ rest out e. rw e refl }

body : (p : Told) → Shows false (html_body p) false (said_page p)
body p =
    then (text p.title) (then title_end (then (contents p) (then packages (then (many_numbered html_band said_band band 0 p.bands)
    (then all_packages (then (many (html_package p.bands) (said_package p.bands) (by_package p.bands) p.packages) (then packages_end (then (texts_part p.texts) page_end))))))))

regroup : (h t s c r : List ℕ) → (h ++ (t ++ (s ++ (t ++ c)))) ++ r ≡ (h ++ (t ++ s)) ++ (t ++ (c ++ r))
regroup h t s c r = simp append_assoc

pub is_shown : (p : Told) → IsShown p
unfolding html_front
is_shown p = record {
  cut = regroup HTML_HEAD.now (page_text p.title) HTML_STYLE.now (codes "</h1>\n") _;
  says = ap (λ (bs : List ℕ). read_from 0 (untagged false bs)) (sym (append-nil (html_body p))) ∙ (body p).go [] [] refl ∙ ap (λ (ts : List ℕ). Some ts) (append-nil (said_page p));
}
