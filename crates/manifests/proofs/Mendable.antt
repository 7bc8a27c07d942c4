-- A declared text of a manifest of JSON is found and replaced.
use Rattle.std.proofs.Common.{◌≡◌, ℕ, ◌<◌, ◌^◌, List, [], ◌∷◌, length, arith, refl, subst}
use Rattle.std.proofs.lemmas.List.Elements.{All-head, All-tail}
use Rattle.std.specs.Prelude.{Some}
use Rattle.std.specs.Global.{Vec}
use denote.RawPtr.{null_ptr}
use Rattle.serde_json.specs.Read.{read}
use Rattle.json_places.specs.Literals.{literals}
use Rattle.json_places.specs.Mended.{with_literal}
use Rattle.json_places.specs.Places.{IsRead}
use Rattle.json_places.proofs.Found.{mends_there, stands_somewhere}
use Rattle.json_places.proofs.Scan.{length-literals}
use Rattle.json_places.proofs.Spelled.{ArePlain}
use Rattle.manifests.specs.declared.form.Form.{Form}
use Rattle.manifests.specs.declared.form.Form.TheVariants.{Cargo, Pyproject, Reuse, Plain}
use Rattle.manifests.specs.declared.site.Site.{Site}
use Rattle.manifests.specs.Sites.{IsUnplacedJson, Mends, MendsJson}
use Rattle.manifests.specs.Written.{HasNoMark, IsUnmarked, MayBecome, NeedsNoEscape, StandsAsItIs}
use Rattle.manifests.proofs.Led.{led}
use Rattle.json_places.proofs.Short.{text_short}

are_plain : (text : List ℕ) → NeedsNoEscape text → ArePlain text
are_plain [] h = tt
are_plain (x ∷ xs) h = (All-head StandsAsItIs x xs h, are_plain xs (All-tail StandsAsItIs x xs h))

mends_json : (form : Form) (bytes : List ℕ) (number : ℕ) (new : List ℕ) → MayBecome form bytes number new → (mended : List ℕ) × MendsJson bytes number new mended
mends_json form bytes number new may =
    let is : IsRead bytes may.document = (may.manifest.utf8, may.manifest.reads) in
    let to = led may.document number may.old may.declared in
    let (span, stands) = stands_somewhere bytes may.document to.steps may.old is to.at may.unmarked in
    let few : length (literals bytes) < 2 ^ 64 = let small : length bytes < 2 ^ 64 = may.small in omega (arith, length-literals bytes) in (
      with_literal bytes span new,
      record {
        document = may.document;
        reads = may.manifest.reads;
        old = may.old;
        declared = may.declared;
        changes = record {
          steps = to.steps;
          span = span;
          path = to.path;
          text = to.at;
          stands = stands;
          mends = mends_there bytes may.document to.steps span new few is stands (are_plain new may.plain) may.utf8;
        };
      },
    )

pub mends : (form : Form) (bytes : List ℕ) (number : ℕ) (new : List ℕ) → MayBecome form bytes number new → (mended : List ℕ) × Mends form bytes number new mended
mends Cargo bytes number new may = absurd (let e = may.manifest.json in cc)
mends Pyproject bytes number new may = absurd (let e = may.manifest.json in cc)
mends Reuse bytes number new may = absurd (let e = may.manifest.json in cc)
mends (Plain form) bytes number new may = absurd (let e = may.manifest.json in cc)
mends form bytes number new may = mends_json form bytes number new may

-- a text that is short enough is in some `Vec`: no memory is told of it, since a `Site` is told by its text alone
holding : (text : List ℕ) → length text < 2 ^ 63 → Vec ℕ
holding text small = record { ptr = null_ptr; len = length text; cap = length text; alloc = record { memory = record { seal = tt } }; items = text; ok = (refl, omega arith); small = small }

pub placed : (form : Form) (bytes : List ℕ) → IsUnmarked form bytes → IsUnplacedJson form bytes → ⊥
unfolding holding
placed form bytes un lacks =
    let d = lacks.document in
    let text = lacks.lacks.text in
    let number = lacks.lacks.number in
    let here : read bytes ≡ Some d = lacks.reads in
    let there : read bytes ≡ Some un.document = un.manifest.reads in
    let same : un.document ≡ d = cc in
    let is : IsRead bytes d = (un.manifest.utf8, here) in
    let unmarked = subst (HasNoMark form) same un.unmarked in
    let to = led d number text lacks.lacks.declared in
    let (span, stands) = stands_somewhere bytes d to.steps text is to.at (unmarked number text lacks.lacks.declared lacks.lacks.expression) in
    let small : length bytes < 2 ^ 63 = un.small in
    let short = text_short bytes d to.steps text is to.at in
    let site : Site = record { span = span; quotes = 1; number = number; text = holding text (omega arith) } in
    lacks.lacks.nowhere site refl (record { number = lacks.lacks.declared; steps = to.steps; path = to.path; text = to.at; stands = stands; quotes = refl })
