-- A text of a document stands somewhere, and another literal in its place changes the document there and nowhere else.
use Rattle.std.proofs.Common.{◌≡◌, ◌≢◌, ℕ, ◌<◌, ◌^◌, ◌==◌, Bool, true, false, cond, if◌then◌else◌, List, [], ◌∷◌, ◌++◌, length, get_or, drop, Some, refl, sym, ap, ◌∙◌, subst, arith}
use Rattle.std.proofs.lemmas.Fmt.{decimal_injective}
use Rattle.std.proofs.lemmas.Option.{slice_get_within, slice_get-get_or, same_Some}
use Rattle.std.specs.Prelude.{slice_get, slice_range, IsSomeAnd, IsUtf8}
use Rattle.text_places.specs.declared.Span.{Span}
use Rattle.text_places.specs.Marks.{mark_text, mark, marked}
use Rattle.text_places.proofs.InOrder.{AreInOrder-at}
use Rattle.json.specs.Lex.{between, lex}
use Rattle.serde_json.specs.Data.{Data, string}
use Rattle.serde_json.specs.Read.{read}
use Rattle.json_places.specs.declared.path.Step.{Step}
use Rattle.json_places.specs.Literals.{literals}
use Rattle.json_places.specs.Paths.{text_at}
use Rattle.json_places.specs.Places.{IsRead, Stands}
use Rattle.json_places.specs.Mended.{with_literal, IsMended}
use Rattle.json_places.proofs.Retext.{retext, texts_of, read_lexemes, IsText}
use Rattle.json_places.proofs.Pieces.{Good}
use Rattle.json_places.proofs.Good.{Good-read}
use Rattle.json_places.proofs.Lexed.{lex-respelled, text_of_literal, literal_of_text}
use Rattle.json_places.proofs.Scan.{literals-in_order}
use Rattle.json_places.proofs.Spelled.{ArePlain, IsText-plain, IsText-mark, read-IsText, respelled-marks, respelled-one}
use Rattle.json_places.proofs.Changed.{text_at-retext, set_at-retext}
use Rattle.json_places.proofs.Utf8.{IsQuoted, AreUtf8, AreUtf8-around, IsUtf8-marked, IsUtf8-with_literal}

-- ---- the literals of a text that is UTF-8

literal_quoted : (text : List ℕ) → Good (lex between text) → (k : ℕ) (span : Span) → slice_get (literals text) k ≡ Some span → IsQuoted (slice_range text span.start span.end)
literal_quoted text good k span e =
    let t = text_of_literal text k span good e in
    record { inner = t.1.inner; quoted = t.1.quoted }

-- each is, and so is what stands before it and behind it
pub literal_utf8 : (text : List ℕ) (k : ℕ) (span : Span) → IsUtf8 text → Good (lex between text) → slice_get (literals text) k ≡ Some span → AreUtf8 text 0 span
literal_utf8 text k span u good e =
    let at = AreInOrder-at 0 (literals text) (length text) k span (literals-in_order text) e in
    AreUtf8-around text 0 span (omega arith) at.0 (literal_quoted text good k span e) u

-- the text is still UTF-8 once its literals are marks
pub marked_literals_utf8 : (text : List ℕ) → IsUtf8 text → Good (lex between text) → IsUtf8 (marked text (literals text))
marked_literals_utf8 text u good = IsUtf8-marked text (literals text) (length text) (literals-in_order text) (literal_quoted text good) u

-- ---- the text with a mark for each literal

-- it is read as the lexemes are whose texts are marks
read-marked : (text : List ℕ) → Good (lex between text) → read (marked text (literals text)) ≡ read_lexemes (retext (λ n s. mark_text n) 0 (lex between text))
read-marked text good =
    ap read (sym (respelled-marks text (literals text)))
    ∙ ap read_lexemes (lex-respelled text (λ n span. mark n) (λ n s. mark_text n) good (λ n span s e is. IsText-mark n))

-- A text that the document has at a path stands somewhere, where it is no mark itself.
pub stands_somewhere : (text : List ℕ) (document : Data) (steps : List Step) (value : List ℕ) → IsRead text document → text_at steps document ≡ Some value
    → ((n : ℕ) → value ≢ mark_text n) → (span : Span) × Stands text document steps span
stands_somewhere text document steps value is at fresh =
    let good = Good-read text document is.1 in
    let marks = text_at-retext (lex between text) document (λ n s. mark_text n) is.1 in
    let led = marks.2 steps value at in
    let place = literal_of_text text led.0 value good led.1 in
    let span = place.0 in
    let lies = AreInOrder-at 0 (literals text) (length text) led.0 span (literals-in_order text) place.1 in
    let parts = literal_utf8 text led.0 span is.0 good place.1 in (
      span,
      record {
        literal = record {
          ordered = lies.0;
          within = lies.1;
          value = subst (λ o. IsSomeAnd o (λ value. IsRead (slice_range text span.start span.end) (string value))) (sym at) (parts.literal, read-IsText (slice_range text span.start span.end) value place.2);
        };
        number = led.0;
        numbered = place.1;
        meant = record {
          marks = marks.0;
          reads = (marked_literals_utf8 text is.0 good, read-marked text good ∙ marks.1);
          after = led.2;
          before = λ e. fresh led.0 (same_Some value (mark_text led.0) (sym at ∙ e));
        };
      },
    )

-- ---- the text with another literal for one

-- a text's number is that of a literal
number_within : (text : List ℕ) (n : ℕ) → Good (lex between text) → n < length (texts_of (lex between text)) → n < length (literals text)
number_within text n good less =
    let place = literal_of_text text n (get_or (texts_of (lex between text)) n []) good (slice_get-get_or (texts_of (lex between text)) n [] less) in
    slice_get_within (literals text) n place.0 place.1

-- marks of different numbers are different
mark_tells : (n m most : ℕ) → most < 2 ^ 64 → n < most → m < most → mark_text n ≡ mark_text m → n ≡ m
mark_tells n m most few less also e = decimal_injective n m (omega arith) (omega arith) (ap (drop 1) e)

either_text : (b : Bool) (x y s t : List ℕ) → IsText x s → IsText y t → IsText (cond b x y) (cond b s t)
either_text true x y s t p q = p
either_text false x y s t p q = q

-- it is read as the lexemes are of whose texts one is the new one
read-with_literal : (text : List ℕ) (k : ℕ) (span : Span) (new : List ℕ) → Good (lex between text) → slice_get (literals text) k ≡ Some span → ArePlain new
    → read (with_literal text span new) ≡ read_lexemes (retext (λ n t. if n == k then new else t) 0 (lex between text))
read-with_literal text k span new good e plain =
    ap read (sym (respelled-one text (literals text) k span new (literals-in_order text) e))
    ∙ ap read_lexemes (lex-respelled text (λ n sp. if n == k then (34 ∷ (new ++ 34 ∷ [])) else slice_range text sp.start sp.end) (λ n t. if n == k then new else t) good
    (λ n sp s e is. either_text (n == k) (34 ∷ (new ++ 34 ∷ [])) (slice_range text sp.start sp.end) new s (IsText-plain new plain) is))

-- Where a path's text stands, another text in quotes changes the document there and nowhere else.
pub mends_there : (text : List ℕ) (document : Data) (steps : List Step) (span : Span) (new : List ℕ) → length (literals text) < 2 ^ 64 → IsRead text document
    → Stands text document steps span → ArePlain new → IsUtf8 new → IsMended text document steps span new (with_literal text span new)
mends_there text document steps span new few is stands plain u =
    let good = Good-read text document is.1 in
    let was = text_of_literal text stands.number span good stands.numbered in
    let marks = sym (read-marked text good) ∙ stands.meant.reads.1 in
    let changed =
    set_at-retext (lex between text) document stands.meant.marks (λ n s. mark_text n) steps stands.number was.0 new
    (λ n m a b less also e. mark_tells n m (length (literals text)) few (number_within text n good less) (number_within text m good also) e)
    is.1 marks stands.meant.after was.2 in
    record {
      replaced = stands.literal;
      spliced = refl;
      reads = (IsUtf8-with_literal text span new (literal_utf8 text stands.number span is.0 good stands.numbered) u, read-with_literal text stands.number span new good stands.numbered plain ∙ changed);
    }
