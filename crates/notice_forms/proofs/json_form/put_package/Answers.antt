use Rattle.std.proofs.Common.{◌≡◌, ℕ, List, ◌++◌, ◌∙◌, ap, map, flat_map, codes}
use Rattle.json.specs.Token.{Token}
use Rattle.license_notice.specs.Notices.{line_of, names_of}
use Rattle.license_notice.specs.Places.{numbers_from}
use Rattle.license_notice.specs.Rows.{Band}
use Rattle.notice_forms.specs.Found.{found_at, text_token}
use Rattle.notice_forms.specs.Hashed.{hash_in, listed}
use Rattle.notice_forms.specs.Json.{hash_of}
use Rattle.notice_forms.specs.Told.{Named, told}
use Rattle.notice_forms.proofs.Documents.{hashes_are, listed_at}
use Rattle.notice_forms.proofs.Pieces.{begun, written, ended}
use Rattle.notice_forms.proofs.json_form.put_package.Goals as goal

pub returns-clause-tokens : goal.returns-clause-tokens
returns-clause-tokens c =
    let p = told c.args.shown.now in
    let l = line_of c.args.release.now in
    let under = c.of.ensures (map (λ (b : Band). b.lines) p.bands) c.requires.under in
    let beside = c.of-2.ensures (map (λ (t : Named). t.lines) p.texts) c.requires.beside in
    let hashes : map hash_in c.args.texts.now ≡ map (λ (t : Named). hash_of t.bytes) p.texts = hashes_are c.args.texts.now p.texts c.requires.texts in
    let licenses = ap (λ (ns : List ℕ). listed (codes "licenses") (flat_map (found_at text_token (names_of p.bands)) ns)) under
    ∙ listed_at (codes "licenses") (λ (b : Band). b.lines) (λ (b : Band). b.requirement) p.bands l in
    let texts = ap (λ (ns : List ℕ). listed (codes "texts") (flat_map (found_at text_token (map hash_in c.args.texts.now)) ns)) beside
    ∙ ap (λ (hs : List (List ℕ)). listed (codes "texts") (flat_map (found_at text_token hs) (numbers_from 0 (map (λ (t : Named). t.lines) p.texts) l))) hashes
    ∙ listed_at (codes "texts") (λ (t : Named). t.lines) (λ (t : Named). hash_of t.bytes) p.texts l in
    let w1 = written (begun c.args.writer.now.tokens) _ _ c.in_ok-begin_object.ensures.ok in
    let w2 = written w1 _ _ c.in_ok-put_release.ensures.tokens in
    let w3 = written w2 _ _ (c.in_ok-put_requirements.ensures.tokens ∙ ap (λ (ts : List Token). c.put_release.new.writer.tokens ++ ts) licenses) in
    let w4 = written w3 _ _ (c.in_ok-put_hashes.ensures.tokens ∙ ap (λ (ts : List Token). c.put_requirements.new.writer.tokens ++ ts) texts) in
    ended w4 _ _ c.in_ok-end_object.ensures.ok
