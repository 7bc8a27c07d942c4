-- What is put holds no character that its sink obeys.
use Rattle.std.proofs.Common.{◌≡◌, ℕ, ◌/◌, ◌%◌, ◌^◌, ◌<◌, ◌≤◌, List, [], ◌∷◌, ◌++◌, Bool, true, false, not, ◌||◌, ◌&&◌, cond, eqb, flat_map, chars, codes, refl, sym, ap, ◌∙◌, subst, append-nil, arith}
use Rattle.std.proofs.lemmas.Bool.Decides.{nat_tests}
use Rattle.std.proofs.Math.Utf8.{encode}
use lib.Utf8.{scalar, scalars}
use Rattle.std.specs.Char.{digit_value}
use Rattle.std.specs.Str.{IsUtf8}
use Rattle.std.specs.Str.Parse.{AllDigits}
use Rattle.std.specs.Fmt.{digits}
use Rattle.std.proofs.lemmas.Str.{IsUtf8-append, IsUtf8-encode, IsUtf8-from_ascii, IsUtf8-nil, chars-IsAscii, chars-append, chars-encodes, chars-nil}
use Rattle.foreign_text.specs.Hidden.{is_hidden}
use Rattle.foreign_text.specs.Written.{numbered, visible, visible_in_lines, percent, percents, is_command_mark, is_property_mark, is_path_char, message_char, char_for}
use Rattle.foreign_text.specs.declared.sinks.Sink.{Sink}
use Rattle.foreign_text.specs.declared.sinks.Sink.TheVariants.{Line, Lines, Command, Property, Path, Message}
use Rattle.foreign_text.specs.Read.{is_obeyed, NoneObeyed, IsSafe}
use Rattle.foreign_text.proofs.Uris.{AreBytes, scalar_bytes}
use Rattle.foreign_text.proofs.Bytes.{choose, same, two, Lacks, lacks-append, lacks-hex, hex_digits, scalar_small, IsPrinted, ArePrinted, printed-append, printed_shown, printed_ascii, hex_printed, one_ascii}

-- text that holds none of what the sink obeys
pub record IsHeld (sink : Sink) (bs : List ℕ) : Type 0 where
  pub utf8 : IsUtf8 bs
  pub safe : NoneObeyed sink (chars bs)

joined : (sink : Sink) (xs ys : List ℕ) → NoneObeyed sink xs → NoneObeyed sink ys → NoneObeyed sink (xs ++ ys)
joined sink [] ys h k = k
joined sink (x ∷ xs) ys h k = (h.0, joined sink xs ys h.1 k)

pub held-nil : (sink : Sink) → IsHeld sink []
held-nil sink = record { utf8 = IsUtf8-nil; safe = subst (NoneObeyed sink) (sym chars-nil) tt }

pub held-append : (sink : Sink) (xs ys : List ℕ) → IsHeld sink xs → IsHeld sink ys → IsHeld sink (xs ++ ys)
held-append sink xs ys h k = record {
  utf8 = IsUtf8-append xs ys h.utf8 k.utf8;
  safe = subst (NoneObeyed sink) (sym (chars-append xs ys h.utf8)) (joined sink (chars xs) (chars ys) h.safe k.safe);
}

held-ascii : (sink : Sink) (bs : List ℕ) → ArePrinted bs → NoneObeyed sink bs → IsHeld sink bs
held-ascii sink bs p n = record {
  utf8 = IsUtf8-from_ascii bs (printed_ascii bs p);
  safe = subst (NoneObeyed sink) (sym (chars-IsAscii bs (printed_ascii bs p))) n;
}

one_char : (c : ℕ) → scalar c ≡ true → chars (encode c) ≡ c ∷ []
one_char c s = ap chars (sym (append-nil (encode c))) ∙ chars-encodes (c ∷ []) (ap (λ (b : Bool). b && true) s)

held-encode : (sink : Sink) (c : ℕ) → scalar c ≡ true → is_obeyed sink c ≡ false → IsHeld sink (encode c)
held-encode sink c s h = record {
  utf8 = IsUtf8-encode c s;
  safe = subst (NoneObeyed sink) (sym (one_char c s)) (h, tt);
}

-- ---- bytes that are printed

-- a printed byte that is no backquote, colon or comma
pub record IsQuiet (b : ℕ) : Type 0 where
  pub printed : IsPrinted b
  pub colon : eqb b 58 ≡ false
  pub comma : eqb b 44 ≡ false

abbrev pub AreQuiet : List ℕ → Type 0
AreQuiet [] = Unit {0}
AreQuiet (b ∷ bs) = IsQuiet b × AreQuiet bs

quiet-append : (xs ys : List ℕ) → AreQuiet xs → AreQuiet ys → AreQuiet (xs ++ ys)
quiet-append [] ys h k = k
quiet-append (b ∷ bs) ys h k = (h.0, quiet-append bs ys h.1 k)

quiet_printed : (bs : List ℕ) → AreQuiet bs → ArePrinted bs
quiet_printed [] h = tt
quiet_printed (b ∷ bs) h = (h.0.printed, quiet_printed bs h.1)

quiet_all : (bs : List ℕ) → ArePrinted bs → Lacks 58 bs → Lacks 44 bs → AreQuiet bs
quiet_all [] p h k = tt
quiet_all (b ∷ bs) p h k = (record { printed = p.0; colon = h.0; comma = k.0 }, quiet_all bs p.1 h.1 k.1)

quiet_hex : (upper : Bool) (n : ℕ) → n < 16 ^ 64 → AreQuiet (digits 16 upper n)
quiet_hex upper n h =
    quiet_all (digits 16 upper n) (hex_printed upper n h) (lacks-hex 58 upper n (omega arith) h) (lacks-hex 44 upper n (omega arith) h)

byte : (b : ℕ) → 32 ≤ b → b < 127 → eqb b 58 ≡ false → eqb b 44 ≡ false → IsQuiet b
byte b h k i j = record { printed = record { from = h; to = k }; colon = i; comma = j }

quiet_numbered : (c : ℕ) → scalar c ≡ true → AreQuiet (numbered c)
quiet_numbered c s = (
  byte 92 (omega arith) (omega arith) refl refl,
  (
    byte 117 (omega arith) (omega arith) refl refl,
    (
      byte 123 (omega arith) (omega arith) refl refl,
      quiet-append (digits 16 false c) (codes "}") (quiet_hex false c (scalar_small c s)) (byte 125 (omega arith) (omega arith) refl refl, tt),
    ),
  ),
)

quiet_percent : (b : ℕ) → b < 256 → AreQuiet (percent b)
quiet_percent b h = (
  byte 37 (omega arith) (omega arith) refl refl,
  quiet-append (digits 16 true (b / 16)) (digits 16 true (b % 16)) (quiet_hex true (b / 16) (omega (arith, h))) (quiet_hex true (b % 16) (omega arith)),
)

-- a sink of lines obeys no quiet byte
abbrev Hears : Sink → Type 0
Hears sink = (b : ℕ) → IsQuiet b → is_obeyed sink b ≡ false

hears-line : Hears Line
hears-line b h = printed_shown b h.printed

hears-lines : Hears Lines
hears-lines b h = ap (λ (t : Bool). t && not (eqb b 10)) (printed_shown b h.printed)

hears-command : Hears Command
hears-command b h = printed_shown b h.printed

hears-property : Hears Property
hears-property b h = rw (printed_shown b h.printed, h.colon, h.comma) refl

quiet_unheard : (sink : Sink) → Hears sink → (bs : List ℕ) → AreQuiet bs → NoneObeyed sink bs
quiet_unheard sink f [] h = tt
quiet_unheard sink f (b ∷ bs) h = (f b h.0, quiet_unheard sink f bs h.1)

held-quiet : (sink : Sink) → Hears sink → (bs : List ℕ) → AreQuiet bs → IsHeld sink bs
held-quiet sink f bs h = held-ascii sink bs (quiet_printed bs h) (quiet_unheard sink f bs h)

-- ---- characters

held-visible : (sink : Sink) → Hears sink → (c : ℕ) → scalar c ≡ true → (is_hidden c ≡ false → is_obeyed sink c ≡ false) → IsHeld sink (visible c)
held-visible sink f c s h =
    choose (IsHeld sink) (eqb c 92) _ _ (λ _. held-quiet sink f (codes "\\\\") (byte 92 (omega arith) (omega arith) refl refl, (byte 92 (omega arith) (omega arith) refl refl, tt)))
    (λ _. choose (IsHeld sink) (is_hidden c) _ _ (λ _. held-quiet sink f (numbered c) (quiet_numbered c s)) (λ t. held-encode sink c s (h t)))

held-newline : IsHeld Lines (10 ∷ [])
held-newline = record {
  utf8 = IsUtf8-from_ascii (10 ∷ []) (one_ascii 10 (omega arith));
  safe = subst (NoneObeyed Lines) (sym (chars-IsAscii (10 ∷ []) (one_ascii 10 (omega arith)))) (no_newline (is_hidden 10), tt);
}
  where
    no_newline : (b : Bool) → b && false ≡ false
    no_newline true = refl
    no_newline false = refl

held-line : (c : ℕ) → scalar c ≡ true → IsHeld Line (char_for Line c)
held-line c s = held-visible Line hears-line c s (λ h. h)

held-lines : (c : ℕ) → scalar c ≡ true → IsHeld Lines (char_for Lines c)
held-lines c s =
    choose (IsHeld Lines) (eqb c 10) _ _ (λ _. held-newline)
    (λ _. held-visible Lines hears-lines c s (λ h. ap (λ (t : Bool). t && not (eqb c 10)) h))

command_small : (c : ℕ) → is_command_mark c ≡ true → c < 256
command_small c = grind (arith, nat_tests)

property_small : (c : ℕ) → is_property_mark c ≡ true → c < 256
property_small c = grind (arith, nat_tests)

held-command : (c : ℕ) → scalar c ≡ true → IsHeld Command (char_for Command c)
held-command c s =
    choose (IsHeld Command) (is_command_mark c) _ _ (λ m. held-quiet Command hears-command (percent c) (quiet_percent c (command_small c m)))
    (λ _. held-visible Command hears-command c s (λ h. h))

no_colon : (c : ℕ) → is_property_mark c ≡ false → eqb c 58 ≡ false
no_colon c = grind (arith, nat_tests)

no_comma : (c : ℕ) → is_property_mark c ≡ false → eqb c 44 ≡ false
no_comma c = grind (arith, nat_tests)

held-property : (c : ℕ) → scalar c ≡ true → IsHeld Property (char_for Property c)
held-property c s =
    choose (IsHeld Property) (is_property_mark c) _ _ (λ m. held-quiet Property hears-property (percent c) (quiet_percent c (property_small c m)))
    (λ n. held-visible Property hears-property c s (λ h. rw (h, no_colon c n, no_comma c n) refl))

-- ---- paths

a_digit : (b : ℕ) → digit_value b < 16 → is_path_char b ≡ true
a_digit b = grind (arith, nat_tests)

unheard_digits : (ds : List ℕ) → AllDigits 16 ds → NoneObeyed Path ds
unheard_digits [] d = tt
unheard_digits (c ∷ cs) d = (rw (a_digit c d.0) refl, unheard_digits cs d.1)

held-hex : (n : ℕ) → n < 16 ^ 64 → IsHeld Path (digits 16 true n)
held-hex n h = held-ascii Path (digits 16 true n) (hex_printed true n h) (unheard_digits (digits 16 true n) (hex_digits true n h))

held-percent : (b : ℕ) → b < 256 → IsHeld Path (percent b)
held-percent b h =
    held-append Path (37 ∷ []) (digits 16 true (b / 16) ++ digits 16 true (b % 16)) (held-ascii Path (37 ∷ []) (record { from = omega arith; to = omega arith }, tt) (refl, tt))
    (held-append Path (digits 16 true (b / 16)) (digits 16 true (b % 16)) (held-hex (b / 16) (omega (arith, h))) (held-hex (b % 16) (omega arith)))

held-percents : (bs : List ℕ) → AreBytes bs → IsHeld Path (flat_map percent bs)
held-percents [] h = held-nil Path
held-percents (b ∷ bs) h = held-append Path (percent b) (flat_map percent bs) (held-percent b h.0) (held-percents bs h.1)

held-path : (c : ℕ) → scalar c ≡ true → IsHeld Path (char_for Path c)
held-path c s =
    choose (IsHeld Path) (is_path_char c) _ _ (λ t. held-encode Path c s (rw t refl)) (λ _. held-percents (encode c) (scalar_bytes c s))

-- ---- any sink

-- no character is obeyed in a message: what it reads is what counts
message_safe : (cs : List ℕ) → NoneObeyed Message cs
message_safe [] = tt
message_safe (c ∷ cs) = (refl, message_safe cs)

each_held : (sink : Sink) → ((c : ℕ) → scalar c ≡ true → IsHeld sink (char_for sink c)) → (cs : List ℕ) → scalars cs ≡ true → IsHeld sink (flat_map (char_for sink) cs)
each_held sink f [] s = held-nil sink
each_held sink f (c ∷ cs) s =
    let p = two (scalar c) (scalars cs) s in held-append sink (char_for sink c) (flat_map (char_for sink) cs) (f c p.0) (each_held sink f cs p.1)

pub chars_safe : (sink : Sink) (cs : List ℕ) → scalars cs ≡ true → IsSafe sink (flat_map (char_for sink) cs)
chars_safe Line cs s = (each_held Line held-line cs s).safe
chars_safe Lines cs s = (each_held Lines held-lines cs s).safe
chars_safe Command cs s = (each_held Command held-command cs s).safe
chars_safe Property cs s = (each_held Property held-property cs s).safe
chars_safe Path cs s = (each_held Path held-path cs s).safe
chars_safe Message cs s = message_safe (chars (flat_map (char_for Message) cs))
