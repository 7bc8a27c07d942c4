-- A fault of a part is one of the whole.
use Rattle.std.proofs.Common.{◌≡◌, ℕ, ◌<◌, List, [], Some, None, map, take, Result, Err, IfErr, length, get_or, sym, subst, String, Global, string_bytes}
use Rattle.spdx_requirement.specs.Rows.{Rows}
use Rattle.spdx_requirement.specs.Failures.{IfRefused}
use Rattle.spdx_requirement.specs.declared.failure.Failure.{Failure}
use Rattle.spdx_requirement.specs.declared.failure.Failure.TheVariants.{Refused, Memory}
use Rattle.spdx_policy.specs.declared.fault.PolicyFault.{PolicyFault}
use Rattle.spdx_policy.specs.declared.reading.draft.ExceptionDraft.{ExceptionDraft}
use Rattle.spdx_policy.specs.declared.reading.draft.ClarifyDraft.{ClarifyDraft}
use Rattle.spdx_policy.specs.declared.error.Key.TheVariants as key
use Rattle.spdx_policy.specs.declared.error.Section.TheVariants as section
use Rattle.spdx_licensee.specs.Replacements.{KnownReplacement}
use Rattle.spdx_policy.specs.declared.error.Key.{Key}
use Rattle.spdx_policy.specs.declared.error.Section.{Section}
use Rattle.spdx_policy.specs.Drafts.{ExceptionRow}
use Rattle.spdx_policy.specs.Rules.{NamedRow}
use Rattle.spdx_policy.specs.Scopes.{ScopeRow}
use Rattle.spdx_policy.specs.Shape.{one}
use Rattle.spdx_policy.specs.Meant.{Each, HasOne, AtEach, IsEntry, IsNamed, IsExempted, IsExempting, IsClarified}
use Rattle.spdx_policy.specs.Blame.{BlamesName, AreEntries, BlamesNames, BlamesRange, BlamesExempted, BlamesExempting, BlamesClarified}
use Rattle.spdx_policy.specs.Drawn.{exception_row, clarify_row}
use Rattle.spdx_policy.proofs.Eaches.{shown_at, each_all, each_before}

pub refused : (P Q : PolicyFault → Type 0) (e : Failure PolicyFault) → IfRefused P e → ((f : PolicyFault) → P f → Q f) → IfRefused Q e
refused P Q (Refused f) blame go = go f blame
refused P Q (Memory m) blame go = tt

pub blamed : {T : Type 0} (P Q : PolicyFault → Type 0) (r : Result T (Failure PolicyFault)) (e : Failure PolicyFault) → r ≡ Err e → IfRefused P e → ((f : PolicyFault) → P f → Q f) → IfErr r (IfRefused Q)
blamed {T} P Q r e is blame go = subst (λ (x : Result T (Failure PolicyFault)). IfErr x (IfRefused Q)) (sym is) (refused P Q e blame go)

-- a name is an entry
named_entry : (c : Rows) (hs : List KnownReplacement) (text : List ℕ) → HasOne (IsNamed c hs) text → HasOne (IsEntry c) text
named_entry c hs text h = (h.1.requirement, h.1.entry)

-- the names of a list are entries
pub entries_of : (c : Rows) (hs : List KnownReplacement) (texts : List (List ℕ)) (ns : List NamedRow) → Each (IsNamed c hs) texts ns → AtEach (HasOne (IsEntry c)) texts
entries_of c hs texts ns all k t at = named_entry c hs t (each_all (IsNamed c hs) texts ns all k t at)

pub names_blame : (c : Rows) (hs : List KnownReplacement) (s : Section) (k : Key) (texts : List (String Global)) (i : ℕ) (x : String Global) (ns : List NamedRow) → i < length texts → x ≡ get_or texts i x
    → Each (IsNamed c hs) (map string_bytes (take i texts)) ns → (f : PolicyFault) → BlamesName c (one s k i) (string_bytes x) f → BlamesNames c s k (map string_bytes texts) f
names_blame c hs s k texts i x ns lt at all f blame =
    (i, string_bytes x, shown_at string_bytes texts i x lt at, (λ j t before there. named_entry c hs t (each_before (IsNamed c hs) string_bytes texts i ns all j t before there)), blame)

pub exempted_blame : (es : List ExceptionDraft) (i : ℕ) (x : ExceptionDraft) (ss : List ScopeRow) → i < length es → x ≡ get_or es i x
    → Each IsExempted (map exception_row (take i es)) ss → (f : PolicyFault) → BlamesRange (section.Exception i) (exception_row x).versions f → BlamesExempted (map exception_row es) f
exempted_blame es i x ss lt at all f blame = (i, exception_row x, shown_at exception_row es i x lt at, each_before IsExempted exception_row es i ss all, blame)

-- what an exception allows are entries
exempting_entries : (c : Rows) (hs : List KnownReplacement) (e : ExceptionRow) → HasOne (IsExempting c hs) e → AreEntries c e
exempting_entries c hs e h = entries_of c hs e.allow h.0 h.1

pub all_entries : (c : Rows) (hs : List KnownReplacement) (es : List ExceptionRow) (lists : List (List NamedRow)) → Each (IsExempting c hs) es lists → AtEach (AreEntries c) es
all_entries c hs es lists all k e at = exempting_entries c hs e (each_all (IsExempting c hs) es lists all k e at)

pub exempting_blame : (c : Rows) (hs : List KnownReplacement) (es : List ExceptionDraft) (i : ℕ) (x : ExceptionDraft) (lists : List (List NamedRow)) → i < length es → x ≡ get_or es i x
    → Each (IsExempting c hs) (map exception_row (take i es)) lists → (f : PolicyFault) → BlamesNames c (section.Exception i) key.Allow (exception_row x).allow f → BlamesExempting c (map exception_row es) f
exempting_blame c hs es i x lists lt at all f blame =
    (i, exception_row x, shown_at exception_row es i x lt at, (λ k e before there. exempting_entries c hs e (each_before (IsExempting c hs) exception_row es i lists all k e before there)), blame)

pub clarified_blame : (es : List ClarifyDraft) (i : ℕ) (x : ClarifyDraft) (ss : List ScopeRow) → i < length es → x ≡ get_or es i x
    → Each IsClarified (map clarify_row (take i es)) ss → (f : PolicyFault) → BlamesRange (section.Clarify i) (clarify_row x).versions f → BlamesClarified (map clarify_row es) f
clarified_blame es i x ss lt at all f blame = (i, clarify_row x, shown_at clarify_row es i x lt at, each_before IsClarified clarify_row es i ss all, blame)

-- what is known of lists that were read whole
pub entries_there : (c : Rows) (hs : List KnownReplacement) (read texts : List (String Global)) (ns : List NamedRow) → read ≡ texts → Each (IsNamed c hs) (map string_bytes read) ns
    → AtEach (HasOne (IsEntry c)) (map string_bytes texts)
entries_there c hs read texts ns e all = subst (λ (ts : List (String Global)). AtEach (HasOne (IsEntry c)) (map string_bytes ts)) e (entries_of c hs (map string_bytes read) ns all)

pub ranges_there : (read es : List ExceptionDraft) (ss : List ScopeRow) → read ≡ es → Each IsExempted (map exception_row read) ss → AtEach (HasOne IsExempted) (map exception_row es)
ranges_there read es ss e all = subst (λ (xs : List ExceptionDraft). AtEach (HasOne IsExempted) (map exception_row xs)) e (each_all IsExempted (map exception_row read) ss all)

pub names_there : (c : Rows) (hs : List KnownReplacement) (read es : List ExceptionDraft) (lists : List (List NamedRow)) → read ≡ es → Each (IsExempting c hs) (map exception_row read) lists
    → AtEach (AreEntries c) (map exception_row es)
names_there c hs read es lists e all = subst (λ (xs : List ExceptionDraft). AtEach (AreEntries c) (map exception_row xs)) e (all_entries c hs (map exception_row read) lists all)

-- of no names each is an entry
pub nothing : (c : Rows) → AtEach (HasOne (IsEntry c)) []
nothing c k x at = let bad : None ≡ Some x = at in absurd (cc)
