-- What is shown of a text holds no character that a terminal obeys.
use Rattle.std.proofs.Common.{◌≡◌, ◌<◌, ◌≤◌, ℕ, List, [], ◌∷◌, ◌++◌, Bool, true, false, ◌&&◌, flat_map, chars, codes, sym, ap, ◌∙◌, subst, append-nil, arith}
use Rattle.std.proofs.Math.Utf8.{encode}
use lib.Utf8.{scalar, scalars}
use Rattle.std.specs.Fmt.{digits}
use Rattle.std.specs.Str.{IsUtf8}
use Rattle.std.proofs.lemmas.Str.{IsUtf8-encode, IsUtf8-from_ascii, chars-IsAscii, chars-append, chars-encodes, scalars-chars}
use Rattle.foreign_text.specs.Hidden.{is_hidden}
use Rattle.foreign_text.specs.Written.{numbered}
use Rattle.foreign_text.specs.Read.{IsSafe, NoneObeyed}
use Rattle.foreign_text.specs.declared.sinks.Sink.TheVariants.{Line}
use Rattle.foreign_text.proofs.Bytes.{choose, two, IsPrinted, ArePrinted, printed-append, printed_shown, printed_ascii, hex_printed, scalar_small}
use Rattle.foreign_text.proofs.Safe.{IsHeld, held-nil, held-append}
use Rattle.package_items.specs.Faults.{shown, shown_char}

byte : (b : ℕ) → 32 ≤ b → b < 127 → IsPrinted b
byte b h k = record { from = h; to = k }

unheard : (bs : List ℕ) → ArePrinted bs → NoneObeyed Line bs
unheard [] p = tt
unheard (b ∷ bs) p = (printed_shown b p.0, unheard bs p.1)

held-printed : (bs : List ℕ) → ArePrinted bs → IsHeld Line bs
held-printed bs p = record {
  utf8 = IsUtf8-from_ascii bs (printed_ascii bs p);
  safe = subst (NoneObeyed Line) (sym (chars-IsAscii bs (printed_ascii bs p))) (unheard bs p);
}

numbered_printed : (c : ℕ) → scalar c ≡ true → ArePrinted (numbered c)
numbered_printed c s = (
  byte 92 (omega arith) (omega arith),
  (
    byte 117 (omega arith) (omega arith),
    (
      byte 123 (omega arith) (omega arith),
      printed-append (digits 16 false c) (codes "}") (hex_printed false c (scalar_small c s)) (byte 125 (omega arith) (omega arith), tt),
    ),
  ),
)

one_char : (c : ℕ) → scalar c ≡ true → chars (encode c) ≡ c ∷ []
one_char c s = ap chars (sym (append-nil (encode c))) ∙ chars-encodes (c ∷ []) (ap (λ (b : Bool). b && true) s)

held-encode : (c : ℕ) → scalar c ≡ true → is_hidden c ≡ false → IsHeld Line (encode c)
held-encode c s h = record {
  utf8 = IsUtf8-encode c s;
  safe = subst (NoneObeyed Line) (sym (one_char c s)) (h, tt);
}

held-char : (c : ℕ) → scalar c ≡ true → IsHeld Line (shown_char c)
held-char c s =
    choose (IsHeld Line) (is_hidden c) _ _ (λ _. held-printed (numbered c) (numbered_printed c s)) (λ h. held-encode c s h)

held-chars : (cs : List ℕ) → scalars cs ≡ true → IsHeld Line (flat_map shown_char cs)
held-chars [] s = held-nil Line
held-chars (c ∷ cs) s =
    let p = two (scalar c) (scalars cs) s in held-append Line (shown_char c) (flat_map shown_char cs) (held-char c p.0) (held-chars cs p.1)

pub shown_safe : (text : List ℕ) → IsUtf8 text → IsSafe Line (shown text)
shown_safe text u = (held-chars (chars text) (scalars-chars text u)).safe

joined : (xs ys : List ℕ) → NoneObeyed Line xs → NoneObeyed Line ys → NoneObeyed Line (xs ++ ys)
joined [] ys h k = k
joined (x ∷ xs) ys h k = (h.0, joined xs ys h.1 k)

front_printed : ArePrinted (codes "spdx: ")
front_printed = (
  byte 115 (omega arith) (omega arith),
  (
    byte 112 (omega arith) (omega arith),
    (
      byte 100 (omega arith) (omega arith),
      (byte 120 (omega arith) (omega arith), (byte 58 (omega arith) (omega arith), (byte 32 (omega arith) (omega arith), tt))),
    ),
  ),
)

-- behind the program's name a safe text is safe
pub named_safe : (text : List ℕ) → IsSafe Line text → IsSafe Line (codes "spdx: " ++ text)
named_safe text h =
    let front = held-printed (codes "spdx: ") front_printed in
    subst (NoneObeyed Line) (sym (chars-append (codes "spdx: ") text front.utf8)) (joined (chars (codes "spdx: ")) (chars text) front.safe h)
