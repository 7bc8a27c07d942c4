use Rattle.std.proofs.Common.{rules, sym, ◌∙◌, ap, ◌≡◌, ◌<◌, ◌≤◌, ◌++◌, map, string_bytes, ℕ, List, [], ◌∷◌, Option, Some, None, Bor, get_or, length, refl}
use Rattle.std.specs.Prelude.{option_map, slice_get, IfSome, MatchOption}
use Rattle.std.specs.Option.{option_copied, option_map_or}
use Rattle.std.proofs.lemmas.List.{append-nil, map-append}
use Rattle.std.proofs.lemmas.Option.{slice_get-map, slice_get_past, slice_get_read}
use Rattle.spdx_requirement.specs.declared.requirement.LicenseReq.{LicenseReq}
use Rattle.spdx_requirement.specs.Items.{Requirement, requirement_of}
use Rattle.spdx_requirement.specs.Texts.{requirement_text}
use Rattle.spdx_meaning.specs.Apart.{name_at}
use Rattle.spdx_meaning.proofs.comparison.apart.push_name.Goals as goal

name_of : (rs : List LicenseReq) (k : ℕ) (found : Option LicenseReq) → slice_get rs k ≡ found → name_at (map requirement_of rs) k ≡ option_map_or (λ q. requirement_text q ∷ []) (option_map requirement_of found) []
name_of rs k found is = ap (λ (z : Option Requirement). option_map_or (λ q. requirement_text q ∷ []) z []) (slice_get-map requirement_of rs k ∙ ap (option_map requirement_of) is)

found : (rs : List LicenseReq) (k : ℕ) (o : Option (Bor LicenseReq)) (P : Bor LicenseReq → Type 0) → IfSome o (λ x. x.now ≡ get_or rs k x.now)
    → MatchOption o (length rs ≤ k) (λ x. (k < length rs) × P x) → slice_get rs k ≡ option_copied o
found rs k None P is at = slice_get_past rs k at
found rs k (Some x) P is at = slice_get_read rs (length rs) k x.now refl at.0 is

pub returns : goal.returns
returns c =
    let rs = c.args.requirements.now in
    let there : slice_get rs c.args.place ≡ Some c.in-Some.requirement.now = found rs c.args.place c.get.result _ c.get.ensures.lookup.1 c.get.ensures.lookup.3 ∙ ap option_copied c.in-Some.is in
    let name : string_bytes c.in_ok-name.name ≡ requirement_text (requirement_of c.in-Some.requirement.now) = search rules in
    let pushed : c.push.new.self.items ≡ c.args.names.now.items ++ (c.in_ok-name.name ∷ []) = search rules in
    ap (map string_bytes) pushed
    ∙ map-append string_bytes c.args.names.now.items (c.in_ok-name.name ∷ [])
    ∙ ap (λ (t : List ℕ). map string_bytes c.args.names.now.items ++ (t ∷ [])) name
    ∙ ap (λ (z : List (List ℕ)). map string_bytes c.args.names.now.items ++ z) (sym (name_of rs c.args.place (Some c.in-Some.requirement.now) there))

pub returns-in_default : goal.returns-in_default
returns-in_default c =
    let rs = c.args.requirements.now in
    let none : c.get.result ≡ None = search rules in
    let there : slice_get rs c.args.place ≡ None = found rs c.args.place c.get.result _ c.get.ensures.lookup.1 c.get.ensures.lookup.3 ∙ ap option_copied none in
    sym (append-nil (map string_bytes c.args.names.now.items))
    ∙ ap (λ (z : List (List ℕ)). map string_bytes c.args.names.now.items ++ z) (sym (name_of rs c.args.place None there))
