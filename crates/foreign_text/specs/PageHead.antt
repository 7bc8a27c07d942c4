-- What a page begins with, if it loads nothing, runs nothing, and hides nothing of its body.
use Rattle.std.specs.Prelude.{◌≡◌, ℕ, List, [], ◌∷◌, ◌++◌, Bool, true, not, ◌==◌, codes, flat_map}
use Rattle.std.specs.List.{list_all, list_any}
use Rattle.foreign_text.specs.PageStyle.{is_one_of, is_plain_style}

abbrev pub doctypes : List (List ℕ)
doctypes = codes "<!doctype html>" ∷ codes "<!DOCTYPE html>" ∷ []

-- nothing is loaded, and no script runs
abbrev pub policy : List ℕ
policy =
    codes "http-equiv=\"Content-Security-Policy\" content=\"default-src 'none'; style-src 'unsafe-inline'\""

-- what a page may say of itself: its characters, its width, its colours, and what it loads
abbrev pub known_metas : List (List ℕ)
known_metas =
    codes "charset=\"utf-8\"" ∷
    codes "name=\"viewport\" content=\"width=device-width, initial-scale=1\"" ∷
    codes "name=\"color-scheme\" content=\"light dark\"" ∷ policy ∷ []

abbrev pub meta_tag : List ℕ → List ℕ
meta_tag words = codes "<meta " ++ (words ++ codes ">\n")

-- up to the body
abbrev pub head_with : List ℕ → List (List ℕ) → List ℕ → List ℕ → List ℕ
head_with doctype metas title style =
    doctype ++ (codes "\n<html lang=\"en\">\n<head>\n" ++
    (flat_map meta_tag metas ++
    (codes "<title>" ++ (title ++
    (codes "</title>\n<style>\n" ++ (style ++ codes "</style>\n</head>\n<body>\n"))))))

-- no tag begins in the text, so that it ends with the tag behind it
abbrev pub has_no_tag : List ℕ → Bool
has_no_tag text = not (list_any (λ b. b == 60) text)

-- the page begins with such a head, and these are all the tags of it: there is no script, link,
-- image or base. What may be loaded is said before the title and the style
pub record BeginsPlainly (page : List ℕ) : Type 0 where
  pub doctype : List ℕ
  pub metas : List (List ℕ)
  pub title : List ℕ
  pub style : List ℕ
  pub body : List ℕ
  pub cut : page ≡ head_with doctype metas title style ++ body
  pub is_html : is_one_of doctypes doctype ≡ true
  pub knows_metas : list_all (is_one_of known_metas) metas ≡ true
  pub loads_nothing : is_one_of metas policy ≡ true
  pub closes_title : has_no_tag title ≡ true
  pub hides_nothing : is_plain_style style ≡ true
