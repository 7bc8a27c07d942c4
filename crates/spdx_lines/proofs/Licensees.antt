-- Licensees that are read one by one.
use Rattle.std.proofs.Common.{◌≡◌, ℕ, ◌+◌, ◌<◌, length, drop, get_or, drop-cons, add-one, List, [], ◌∷◌, ◌++◌, Result, Ok, Err, refl, sym, ap, ◌∙◌, append_assoc, append-nil}
use Rattle.std.specs.Borrow.{Bor}
use Rattle.spdx_requirement.specs.Rows.{Rows}
use Rattle.spdx_requirement.specs.Items.{Requirement}
use Rattle.spdx_lexer.specs.Words.{Fault, Span}
use Rattle.spdx_licensee.specs.LicenseeText.{Names, IsLicenseeFault}
use Rattle.std.specs.Result.{result_map_both}
use Rattle.spdx_lines.specs.Program.{Refusal, NoLicensee, texts_of, and_then, licensees_from}
use Rattle.spdx_lines.specs.Found.{found, licensee_of}
use Rattle.spdx_lines.proofs.Licensee.{the_licensee}

-- these licensees, and behind them what comes of the others
abbrev pub behind : List Requirement → Result (List Requirement) Refusal → Result (List Requirement) Refusal
behind reqs (Ok others) = Ok (reqs ++ others)
behind reqs (Err refusal) = Err refusal

pub behind_none : (r : Result (List Requirement) Refusal) → r ≡ behind [] r
behind_none (Ok others) = refl
behind_none (Err refusal) = refl

-- a licensee before the others
abbrev put_before : Requirement → Result (List Requirement) Refusal → Result (List Requirement) Refusal
put_before req r = and_then r (λ reqs. Ok (req ∷ reqs))

-- the n-th licensee before the others, or its fault
abbrev licensee_before : ℕ → Result Requirement (Fault × Span) → Result (List Requirement) Refusal → Result (List Requirement) Refusal
licensee_before n r others = and_then (result_map_both (λ req. req) (λ fault. NoLicensee n fault.0 fault.1) r) (λ req. put_before req others)

one_more : (reqs : List Requirement) (req : Requirement) (r : Result (List Requirement) Refusal) → behind reqs (put_before req r) ≡ behind (reqs ++ req ∷ []) r
one_more reqs req (Ok others) = ap (λ (xs : List Requirement). let r : Result (List Requirement) Refusal = Ok xs in r) (sym (append_assoc reqs (req ∷ []) others))
one_more reqs req (Err refusal) = refl

-- one more is read
pub read_one : (c : Rows) (n : ℕ) (text : List ℕ) (texts : List (List ℕ)) (reqs : List Requirement) (req : Requirement) (all : Result (List Requirement) Refusal) →
    all ≡ behind reqs (licensees_from found c n (text ∷ texts)) → licensee_of c text ≡ Ok req → all ≡ behind (reqs ++ req ∷ []) (licensees_from found c (n + 1) texts)
read_one c n text texts reqs req all e k =
    e ∙ ap (λ x. behind reqs (licensee_before n x (licensees_from found c (n + 1) texts))) k ∙ one_more reqs req (licensees_from found c (n + 1) texts)

-- the next is refused
pub refused_one : (c : Rows) (n : ℕ) (text : List ℕ) (texts : List (List ℕ)) (reqs : List Requirement) (fault : Fault) (s : Span) (all : Result (List Requirement) Refusal) →
    all ≡ behind reqs (licensees_from found c n (text ∷ texts)) → licensee_of c text ≡ Err (fault, s) → all ≡ Err (NoLicensee n fault s)
refused_one c n text texts reqs fault s all e k = e ∙ ap (λ x. behind reqs (licensee_before n x (licensees_from found c (n + 1) texts))) k

-- no more are left
pub read_all : (reqs : List Requirement) (all : Result (List Requirement) Refusal) → all ≡ behind reqs (Ok []) → all ≡ Ok reqs
read_all reqs all e = e ∙ ap (λ (xs : List Requirement). let r : Result (List Requirement) Refusal = Ok xs in r) (append-nil reqs)

-- ---- the words of a program

word_next : (words : List (Bor (List ℕ))) (i : ℕ) (d : Bor (List ℕ)) → i < length words → texts_of (drop i words) ≡ (get_or words i d).now ∷ texts_of (drop (i + 1) words)
word_next words i d lt =
    let next : drop i words ≡ get_or words i d ∷ drop (i + 1) words = rw (add-one, drop-cons words i d) refl in
    ap texts_of next

module _ (c : Rows) (words : List (Bor (List ℕ))) (i : ℕ) (d : Bor (List ℕ)) (lt : i < length words) (all : Result (List Requirement) Refusal) where
  next : (reqs : List Requirement) → all ≡ behind reqs (licensees_from found c (i + 1) (texts_of (drop i words))) → all ≡ behind reqs (licensees_from found c (i + 1) ((get_or words i d).now ∷ texts_of (drop (i + 1) words)))
  next reqs e = e ∙ ap (λ texts. behind reqs (licensees_from found c (i + 1) texts)) (word_next words i d lt)

  pub read_at : (reqs reqs' : List Requirement) (req : Requirement) → all ≡ behind reqs (licensees_from found c (i + 1) (texts_of (drop i words))) → Names c (get_or words i d).now req →
      reqs' ≡ reqs ++ req ∷ [] → all ≡ behind reqs' (licensees_from found c (i + 1 + 1) (texts_of (drop (i + 1) words)))
  read_at reqs reqs' req e h k =
      read_one c (i + 1) (get_or words i d).now (texts_of (drop (i + 1) words)) reqs req all (next reqs e) ((the_licensee c (get_or words i d).now).only_licensee req h)
      ∙ ap (λ rs. behind rs (licensees_from found c (i + 1 + 1) (texts_of (drop (i + 1) words)))) (sym k)

  pub refused_at : (reqs : List Requirement) (fault : Fault) (s : Span) → all ≡ behind reqs (licensees_from found c (i + 1) (texts_of (drop i words))) → IsLicenseeFault c (get_or words i d).now fault s → all ≡ Err (NoLicensee (i + 1) fault s)
  refused_at reqs fault s e h =
      refused_one c (i + 1) (get_or words i d).now (texts_of (drop (i + 1) words)) reqs fault s all (next reqs e) ((the_licensee c (get_or words i d).now).only_fault fault s h)
