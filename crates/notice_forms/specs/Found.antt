-- What is written of the items of a list at some numbers. Only private clauses cite it.
use Rattle.std.specs.Prelude.{ℕ, List, [], ◌∷◌, flat_map, map, slice_get}
use Rattle.std.specs.Option.{option_map_or}
use Rattle.json.specs.Token.{Token}
use Rattle.license_notice.specs.declared.places.Place.{Place}
use Rattle.notice_forms.specs.Markup.{html_link}

abbrev pub found_at : {Y X : Type 0} → (ℕ → Y → List X) → List Y → ℕ → List X
found_at f ys k = option_map_or (f k) (slice_get ys k) []

abbrev pub numbers_of : List Place → List ℕ
numbers_of places = map (λ (p : Place). p.number) places

-- a link to each of these requirements
abbrev pub links_at : List (List ℕ) → List Place → List ℕ
links_at names places = flat_map (found_at html_link names) (numbers_of places)

abbrev pub text_token : ℕ → List ℕ → List Token
text_token k text = Token.string text ∷ []

-- each of these texts
abbrev pub texts_at : List (List ℕ) → List Place → List Token
texts_at texts places = flat_map (found_at text_token texts) (numbers_of places)
