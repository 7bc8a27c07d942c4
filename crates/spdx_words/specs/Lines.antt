-- Which request the words of a command line say, and which words are refused.
use Rattle.clap.specs.Faults.{fault_of}
use Rattle.clap.specs.Kinds.{IsAmong}
use Rattle.clap.specs.Simple.{App}
use Rattle.clap.specs.Values.{kind_of}
use Rattle.clap.specs.Walk.{Row, Rule, Text, first_of}
use Rattle.clap.specs.declared.error.Error.{Error}
use Rattle.clap.specs.declared.error.kind.ErrorKind.{ErrorKind}
use Rattle.clap.specs.declared.error.kind.ErrorKind.TheVariants as kind
use Rattle.std.specs.Prelude.{◌≡◌, ◌⊎◌, Bool, true, false, ◌||◌, ◌&&◌, List, [], ◌∷◌, Result, Ok}
use Rattle.std.specs.Prelude.{Err, bytes_eq, codes}
use Rattle.spdx_words.specs.Commands.{These, change_formats, check_options, compare_options}
use Rattle.spdx_words.specs.Commands.{diff_options, differ_options, finding_formats, fix_options}
use Rattle.spdx_words.specs.Commands.{gate_formats, gate_options, make_options, manifest_forms}
use Rattle.spdx_words.specs.Commands.{notice_options, page_formats, show_options, simplify_options}
use Rattle.spdx_words.specs.Commands.{source_forms, spdx, spdx_list}
use Rattle.spdx_words.specs.Options.{command, given}
use Rattle.spdx_words.specs.Said.{AreLists, IsChanges, IsCheck, IsCompare, IsFix, IsGate, IsMake}
use Rattle.spdx_words.specs.Said.{IsNotice, IsShow, IsSimplify}
use Rattle.spdx_words.specs.Unfit.{changes_unfit, check_unfit, compare_unfit, differ_unfit}
use Rattle.spdx_words.specs.Unfit.{fix_unfit, gate_unfit, make_unfit, notice_unfit}
use Rattle.spdx_words.specs.declared.packages.request.ChangesRequest.{ChangesRequest}
use Rattle.spdx_words.specs.declared.packages.request.GateRequest.{GateRequest}
use Rattle.spdx_words.specs.declared.packages.request.NoticeRequest.{NoticeRequest}
use Rattle.spdx_words.specs.declared.request.CheckRequest.{CheckRequest}
use Rattle.spdx_words.specs.declared.request.CompareRequest.{CompareRequest}
use Rattle.spdx_words.specs.declared.request.DiffRequest.{DiffRequest}
use Rattle.spdx_words.specs.declared.request.FixRequest.{FixRequest}
use Rattle.spdx_words.specs.declared.request.MakeRequest.{MakeRequest}
use Rattle.spdx_words.specs.declared.request.Request.{Request}
use Rattle.spdx_words.specs.declared.request.Request.TheVariants as request
use Rattle.spdx_words.specs.declared.request.ShowRequest.{ShowRequest}
use Rattle.spdx_words.specs.declared.request.SimplifyRequest.{SimplifyRequest}

-- ---- the command lines

-- a command: what it is called, its options, and whether what they are given doesn't go together
pub record Line : Type 0 where
  pub name : Text
  pub options : List Rule
  pub unfit : List Row → Bool

abbrev pub line : Text → List Rule → (List Row → Bool) → Line
line name options unfit = record { name = name; options = options; unfit = unfit }

-- everything goes together
abbrev pub never : List Row → Bool
never rows = false

abbrev pub check_line : These finding_formats → These manifest_forms → Line
check_line formats forms =
    line (codes "check") (check_options formats.0 forms.0) check_unfit

abbrev pub fix_line : These manifest_forms → Line
fix_line forms = line (codes "fix") (fix_options forms.0) fix_unfit

abbrev pub gate_line : These gate_formats → These source_forms → Line
gate_line formats forms = line (codes "gate") (gate_options formats.0 forms.0) gate_unfit

abbrev pub notice_line : These page_formats → These source_forms → Line
notice_line formats forms =
    line (codes "notice") (notice_options formats.0 forms.0) notice_unfit

abbrev pub diff_line : These change_formats → These source_forms → Line
diff_line formats forms = line (codes "diff") (diff_options formats.0 forms.0) changes_unfit

abbrev pub compare_line : Line
compare_line = line (codes "compare") compare_options compare_unfit

abbrev pub simplify_line : Line
simplify_line = line (codes "simplify") simplify_options never

-- behind `list`

abbrev pub show_line : Line
show_line = line (codes "show") show_options never

abbrev pub make_line : Line
make_line = line (codes "make") make_options make_unfit

abbrev pub differ_line : Line
differ_line = line (codes "diff") differ_options differ_unfit

-- ---- a request

-- `spdx` with one command of such options
abbrev pub of_spdx : Text → List Rule → App
of_spdx name options = spdx (command name options)

-- the app has no fault to find with the words, and what they give goes together
pub record AreFit (app : App) (words : List Text) (unfit : Bool) : Type 0 where
  pub taken : fault_of app words ≡ []
  pub fits : unfit ≡ false

-- the words behind the command's name are fit, and so is what they give its options
abbrev pub Says : Line → (List Row → Type 0) → Text → List Text → Type 0
Says l Is program words =
    AreFit (of_spdx l.name l.options) (program ∷ l.name ∷ words) (l.unfit (given l.options words))
    × Is (given l.options words)

-- the same behind `list`
abbrev pub SaysList : Line → (List Row → Type 0) → List Text → Type 0
SaysList l Is words =
    AreFit spdx_list (codes "list" ∷ l.name ∷ words) (l.unfit (given l.options words))
    × Is (given l.options words)

abbrev pub AreListsIn : DiffRequest → List Row → Type 0
AreListsIn r rows = AreLists (first_of (codes "OLD") rows) (first_of (codes "NEW") rows) r

-- the words, of which the first is the program's name, say this
pub data IsSaid : List Text → Request → Type 0 where
  check : (program : Text) (words : List Text) (r : CheckRequest)
      (formats : These finding_formats) (forms : These manifest_forms) →
      Says (check_line formats forms) (λ rows. IsCheck rows r) program words →
      IsSaid (program ∷ codes "check" ∷ words) (request.Check r)
  fix : (program : Text) (words : List Text) (r : FixRequest) (forms : These manifest_forms) →
      Says (fix_line forms) (λ rows. IsFix rows r) program words →
      IsSaid (program ∷ codes "fix" ∷ words) (request.Fix r)
  gate : (program : Text) (words : List Text) (r : GateRequest)
      (formats : These gate_formats) (forms : These source_forms) →
      Says (gate_line formats forms) (λ rows. IsGate rows r) program words →
      IsSaid (program ∷ codes "gate" ∷ words) (request.Gate r)
  notice : (program : Text) (words : List Text) (r : NoticeRequest)
      (formats : These page_formats) (forms : These source_forms) →
      Says (notice_line formats forms) (λ rows. IsNotice rows r) program words →
      IsSaid (program ∷ codes "notice" ∷ words) (request.Notice r)
  diff : (program : Text) (words : List Text) (r : ChangesRequest)
      (formats : These change_formats) (forms : These source_forms) →
      Says (diff_line formats forms) (λ rows. IsChanges rows r) program words →
      IsSaid (program ∷ codes "diff" ∷ words) (request.Changes r)
  compare : (program : Text) (words : List Text) (r : CompareRequest) →
      Says compare_line (λ rows. IsCompare rows r) program words →
      IsSaid (program ∷ codes "compare" ∷ words) (request.Compare r)
  simplify : (program : Text) (words : List Text) (r : SimplifyRequest) →
      Says simplify_line (λ rows. IsSimplify rows r) program words →
      IsSaid (program ∷ codes "simplify" ∷ words) (request.Simplify r)
  show : (program : Text) (words : List Text) (r : ShowRequest) →
      SaysList show_line (λ rows. IsShow rows r) words →
      IsSaid (program ∷ codes "list" ∷ codes "show" ∷ words) (request.Show r)
  make : (program : Text) (words : List Text) (r : MakeRequest) →
      SaysList make_line (λ rows. IsMake rows r) words →
      IsSaid (program ∷ codes "list" ∷ codes "make" ∷ words) (request.Make r)
  differ : (program : Text) (words : List Text) (r : DiffRequest) →
      SaysList differ_line (AreListsIn r) words →
      IsSaid (program ∷ codes "list" ∷ codes "diff" ∷ words) (request.Diff r)

-- ---- a refusal

-- the kind is of a fault of the words, or what they give doesn't go together
abbrev pub IsOfFault : App → List Text → Bool → ErrorKind → Type 0
IsOfFault app words unfit k = IsAmong k (fault_of app words) ⊎ (unfit ≡ true)

abbrev pub IsFaulty : Line → Text → List Text → ErrorKind → Type 0
IsFaulty l program words k =
    IsOfFault (of_spdx l.name l.options) (program ∷ l.name ∷ words)
    (l.unfit (given l.options words)) k

-- the same behind `list`
abbrev pub IsFaultyList : Line → List Text → ErrorKind → Type 0
IsFaultyList l words k =
    IsOfFault spdx_list (codes "list" ∷ l.name ∷ words) (l.unfit (given l.options words)) k

-- the words behind `list` name one of its commands
abbrev pub is_of_list : Text → Bool
is_of_list word =
    bytes_eq word (codes "show") || (bytes_eq word (codes "make") || bytes_eq word (codes "diff"))

abbrev pub enters_list : List Text → Bool
enters_list [] = false
enters_list (word ∷ words) = is_of_list word

abbrev pub enters_by : Text → List Text → Bool
enters_by word words =
    bytes_eq word (codes "check") || (bytes_eq word (codes "fix")
    || (bytes_eq word (codes "gate") || (bytes_eq word (codes "notice")
    || (bytes_eq word (codes "diff") || (bytes_eq word (codes "compare")
    || (bytes_eq word (codes "simplify") || (bytes_eq word (codes "list")
    && enters_list words)))))))

-- the words name a command
abbrev pub enters : List Text → Bool
enters [] = false
enters (program ∷ []) = false
enters (program ∷ word ∷ words) = enters_by word words

-- the words are refused by an error of this kind
pub data IsRefused : List Text → ErrorKind → Type 0 where
  memory : (words : List Text) (k : ErrorKind) → k ≡ kind.OutOfMemory → IsRefused words k
  unknown : (words : List Text) (k : ErrorKind) → enters words ≡ false → IsRefused words k
  check : (program : Text) (words : List Text) (k : ErrorKind)
      (formats : These finding_formats) (forms : These manifest_forms) →
      IsFaulty (check_line formats forms) program words k →
      IsRefused (program ∷ codes "check" ∷ words) k
  fix : (program : Text) (words : List Text) (k : ErrorKind) (forms : These manifest_forms) →
      IsFaulty (fix_line forms) program words k →
      IsRefused (program ∷ codes "fix" ∷ words) k
  gate : (program : Text) (words : List Text) (k : ErrorKind)
      (formats : These gate_formats) (forms : These source_forms) →
      IsFaulty (gate_line formats forms) program words k →
      IsRefused (program ∷ codes "gate" ∷ words) k
  notice : (program : Text) (words : List Text) (k : ErrorKind)
      (formats : These page_formats) (forms : These source_forms) →
      IsFaulty (notice_line formats forms) program words k →
      IsRefused (program ∷ codes "notice" ∷ words) k
  diff : (program : Text) (words : List Text) (k : ErrorKind)
      (formats : These change_formats) (forms : These source_forms) →
      IsFaulty (diff_line formats forms) program words k →
      IsRefused (program ∷ codes "diff" ∷ words) k
  compare : (program : Text) (words : List Text) (k : ErrorKind) →
      IsFaulty compare_line program words k →
      IsRefused (program ∷ codes "compare" ∷ words) k
  simplify : (program : Text) (words : List Text) (k : ErrorKind) →
      IsFaulty simplify_line program words k →
      IsRefused (program ∷ codes "simplify" ∷ words) k
  show : (program : Text) (words : List Text) (k : ErrorKind) →
      IsFaultyList show_line words k →
      IsRefused (program ∷ codes "list" ∷ codes "show" ∷ words) k
  make : (program : Text) (words : List Text) (k : ErrorKind) →
      IsFaultyList make_line words k →
      IsRefused (program ∷ codes "list" ∷ codes "make" ∷ words) k
  differ : (program : Text) (words : List Text) (k : ErrorKind) →
      IsFaultyList differ_line words k →
      IsRefused (program ∷ codes "list" ∷ codes "diff" ∷ words) k

-- ---- an answer

-- a request is what the words say, and a refusal is for a fault of theirs or for want of memory
abbrev pub IsAnswer : List Text → Result Request Error → Type 0
IsAnswer words (Ok r) = IsSaid words r
IsAnswer words (Err e) = IsRefused words (kind_of e)
