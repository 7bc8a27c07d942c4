-- A finding of the short form, and one of GitHub's, has no newline but its last byte.
use Rattle.std.proofs.Common.{◌≡◌, ◌≢◌, ℕ, ◌/◌, ◌%◌, List, [], ◌∷◌, ◌++◌, Bool, true, false, cond, eqb, ltb, flat_map, decimal, chars, codes, refl, sym, ap, ◌∙◌, append_assoc, arith}
use Rattle.std.specs.Fmt.{digits}
use Rattle.std.proofs.Math.Utf8.{encode}
use Rattle.foreign_text.specs.declared.sinks.Sink.{Sink}
use Rattle.foreign_text.specs.declared.sinks.Sink.TheVariants.{Line, Command, Property}
use Rattle.finding_forms.specs.Json.{HasNoNewline}
use Rattle.foreign_text.specs.Hidden.{is_hidden}
use Rattle.foreign_text.specs.Written.{text_for, char_for, visible, numbered, percent, is_command_mark, is_property_mark}
use Rattle.foreign_text.proofs.Bytes.{hidden_newline}
use Rattle.finding_forms.specs.Finding.{Aid, nothing, write, names, note, Seen, Told}
use Rattle.finding_forms.specs.Forms.{IsOneLine, short_text, github_place, github_text}
use Rattle.finding_forms.specs.Message.{helps, named, other_names, names_text, help_text, message_text, place_text}
use Rattle.finding_forms.proofs.JsonLines.{joined, one_line-digits_onto, one_line-decimal}

when : (b : Bool) (xs ys : List ℕ) → (b ≡ true → HasNoNewline xs) → (b ≡ false → HasNoNewline ys) → HasNoNewline (cond b xs ys)
when true xs ys h k = h refl
when false xs ys h k = k refl

-- a character but the newline
one_line-encode : (c : ℕ) → c ≢ 10 → HasNoNewline (encode c)
unfolding encode
one_line-encode c h =
    when (ltb c 128) _ _ (λ _. (h, tt))
    (λ _. when (ltb c 2048) _ _ (λ _. (omega arith, (omega arith, tt)))
    (λ _. when (ltb c 65536) _ _ (λ _. (omega arith, (omega arith, (omega arith, tt)))) (λ _. (omega arith, (omega arith, (omega arith, (omega arith, tt)))))))

not_both : (b : Bool) → b ≡ true → b ≡ false → ⊥
not_both true h k = grind arith
not_both false h k = grind arith

shown : (c : ℕ) → is_hidden c ≡ false → c ≢ 10
shown c h e = not_both (is_hidden c) (ap is_hidden e ∙ hidden_newline) h

one_line-digits : (base n : ℕ) (upper : Bool) → HasNoNewline (digits base upper n)
unfolding digits
one_line-digits base n upper = one_line-digits_onto 64 base n upper [] tt

one_line-percent : (b : ℕ) → HasNoNewline (percent b)
one_line-percent b = (omega arith, joined (digits 16 true (b / 16)) (digits 16 true (b % 16)) (one_line-digits 16 (b / 16) true) (one_line-digits 16 (b % 16) true))

one_line-visible : (c : ℕ) → HasNoNewline (visible c)
one_line-visible c =
    when (eqb c 92) (codes "\\\\") _ (λ _. (omega arith, (omega arith, tt)))
    (λ _. when (is_hidden c) (numbered c) (encode c)
    (λ _. (omega arith, (omega arith, (omega arith, joined (digits 16 false c) (codes "}") (one_line-digits 16 c false) (omega arith, tt)))))
    (λ h. one_line-encode c (shown c h)))

-- each character is written with no newline
abbrev Clean : Sink → Type 0
Clean how = (c : ℕ) → HasNoNewline (char_for how c)

clean_line : Clean Line
clean_line c = one_line-visible c

clean_command : Clean Command
clean_command c = when (is_command_mark c) (percent c) (visible c) (λ _. one_line-percent c) (λ _. one_line-visible c)

clean_property : Clean Property
clean_property c = when (is_property_mark c) (percent c) (visible c) (λ _. one_line-percent c) (λ _. one_line-visible c)

each_clean : (how : Sink) → Clean how → (cs : List ℕ) → HasNoNewline (flat_map (char_for how) cs)
each_clean how clean [] = tt
each_clean how clean (c ∷ cs) = joined (char_for how c) (flat_map (char_for how) cs) (clean c) (each_clean how clean cs)

one_line-text_for : (how : Sink) → Clean how → (text : List ℕ) → HasNoNewline (text_for how text)
one_line-text_for how clean text = each_clean how clean (chars text)

one_line-named : (how : Sink) → Clean how → (text : List ℕ) → HasNoNewline (named how text)
one_line-named how clean text = (omega arith, joined (text_for how text) (codes "`") (one_line-text_for how clean text) (omega arith, tt))

one_line-others : (how : Sink) → Clean how → (texts : List (List ℕ)) → HasNoNewline (other_names how texts)
one_line-others how clean [] = tt
one_line-others how clean (last ∷ []) = (omega arith, (omega arith, (omega arith, (omega arith, one_line-named how clean last))))
one_line-others how clean (name ∷ next ∷ texts) =
    (omega arith, (omega arith, joined (named how name) (other_names how (next ∷ texts)) (one_line-named how clean name) (one_line-others how clean (next ∷ texts))))

words : (text : List ℕ) → HasNoNewline text → (rest : List ℕ) → HasNoNewline rest → HasNoNewline (text ++ rest)
words text h rest k = joined text rest h k

mean : HasNoNewline (codes "did you mean ")
mean = (omega arith, (omega arith, (omega arith, (omega arith, (omega arith, (omega arith, (omega arith, (omega arith, (omega arith, (omega arith, (omega arith, (omega arith, (omega arith, tt)))))))))))))

one_line-names : (how : Sink) → Clean how → (listed : List (List ℕ)) → HasNoNewline (names_text how listed)
one_line-names how clean [] = tt
one_line-names how clean (first ∷ others) =
    words (codes "did you mean ") mean (named how first ++ (other_names how others ++ codes "?"))
    (joined (named how first) (other_names how others ++ codes "?") (one_line-named how clean first) (joined (other_names how others) (codes "?") (one_line-others how clean others) (omega arith, tt)))

one_line-help : (how : Sink) → Clean how → (aid : Aid) → HasNoNewline (help_text how aid)
one_line-help how clean nothing = tt
one_line-help how clean (write mended) =
    (omega arith, (omega arith, (omega arith, (omega arith, (omega arith, (omega arith, one_line-named how clean mended))))))
one_line-help how clean (names listed rule) = one_line-names how clean listed
one_line-help how clean (note text) = one_line-text_for how clean text

one_line-message : (how : Sink) → Clean how → (t : Told) → HasNoNewline (message_text how t)
one_line-message how clean t =
    joined (text_for how t.reason) (cond (helps t.aid) (codes "; " ++ help_text how t.aid) []) (one_line-text_for how clean t.reason)
    (when (helps t.aid) (codes "; " ++ help_text how t.aid) [] (λ _. (omega arith, (omega arith, one_line-help how clean t.aid))) (λ _. tt))

one_line-place : (how : Sink) → Clean how → (t : Told) → HasNoNewline (place_text how t)
one_line-place how clean t =
    joined (text_for how t.file) (58 ∷ (decimal t.seen.line ++ (58 ∷ decimal t.seen.column))) (one_line-text_for how clean t.file)
    (omega arith, joined (decimal t.seen.line) (58 ∷ decimal t.seen.column) (one_line-decimal t.seen.line) (omega arith, one_line-decimal t.seen.column))

pub one_line-short : (t : Told) → IsOneLine (short_text t)
one_line-short t =
    let place = place_text Line t in
    let message = message_text Line t in (
      place ++ (codes ": " ++ message),
      sym (append_assoc place (codes ": " ++ message) (10 ∷ [])),
      joined place (codes ": " ++ message) (one_line-place Line clean_line t) (omega arith, (omega arith, one_line-message Line clean_line t)),
    )

file_mark : (rest : List ℕ) → HasNoNewline rest → HasNoNewline (codes "::error file=" ++ rest)
file_mark rest h =
    (omega arith, (omega arith, (omega arith, (omega arith, (omega arith, (omega arith, (omega arith, (omega arith, (omega arith, (omega arith, (omega arith, (omega arith, (omega arith, h)))))))))))))

one_line-github_place : (s : Seen) → HasNoNewline (github_place s)
one_line-github_place s = (
  omega arith,
  (
    omega arith,
    (
      omega arith,
      (
        omega arith,
        (
          omega arith,
          (
            omega arith,
            joined (decimal s.line) (codes ",col=" ++ (decimal s.column ++ codes "::")) (one_line-decimal s.line)
                (omega arith, (omega arith, (omega arith, (omega arith, (omega arith, joined (decimal s.column) (codes "::") (one_line-decimal s.column) (omega arith, (omega arith, tt))))))),
          ),
        ),
      ),
    ),
  ),
)

pub one_line-github : (t : Told) → IsOneLine (github_text t)
one_line-github t =
    let file = text_for Property t.file in
    let place = github_place t.seen in
    let message = message_text Command t in
    let inner : place ++ (message ++ 10 ∷ []) ≡ (place ++ message) ++ 10 ∷ [] = sym (append_assoc place message (10 ∷ [])) in
    let whole : file ++ (place ++ (message ++ 10 ∷ [])) ≡ (file ++ (place ++ message)) ++ 10 ∷ [] = ap (λ (x : List ℕ). file ++ x) inner ∙ sym (append_assoc file (place ++ message) (10 ∷ [])) in (
      codes "::error file=" ++ (file ++ (place ++ message)),
      ap (λ (x : List ℕ). codes "::error file=" ++ x) whole,
      file_mark (file ++ (place ++ message))
          (joined file (place ++ message) (one_line-text_for Property clean_property t.file) (joined place message (one_line-github_place t.seen) (one_line-message Command clean_command t))),
    )
