-- Names are ASCII.
use Rattle.std.proofs.Common.{◌≡◌, ℕ, suc, ◌+◌, ◌<◌, Bool, true, false, cond, List, [], ◌∷◌, take, subst, refl, arith, IsUtf8}
use Rattle.std.specs.Prelude.{take_while}
use Rattle.std.specs.List.{prefix_len}
use Rattle.std.specs.Str.{IsAscii}
use Rattle.std.proofs.lemmas.Bool.Decides.{nat_tests}
use Rattle.std.proofs.lemmas.Str.{IsUtf8-from_ascii}
use Rattle.std.proofs.lemmas.Str.Ascii.{IsAscii-cons, IsAscii-nil}
use Rattle.package_files.specs.Texts.{is_name_byte}

ascii_byte : (b : ℕ) → is_name_byte b ≡ true → b < 128
ascii_byte b h = grind (arith, nat_tests)

abbrev Front : ℕ → List ℕ → ℕ → Type 0
Front b bs n = IsAscii (take n (b ∷ bs))

front_so : (b : ℕ) (bs : List ℕ) (c : Bool) → (c ≡ true → b < 128) → IsAscii (take_while is_name_byte bs) →
    Front b bs (cond c (1 + prefix_len is_name_byte bs) 0)
front_so b bs true low rest =
    let one : suc (prefix_len is_name_byte bs) ≡ 1 + prefix_len is_name_byte bs = omega arith in
    subst (Front b bs) one (IsAscii-cons b (take_while is_name_byte bs) (low refl) rest)
front_so b bs false low rest = IsAscii-nil

ascii_front : (bs : List ℕ) → IsAscii (take_while is_name_byte bs)
ascii_front [] = IsAscii-nil
ascii_front (b ∷ bs) = front_so b bs (is_name_byte b) (ascii_byte b) (ascii_front bs)

pub name_is_text : (bs : List ℕ) → IsUtf8 (take_while is_name_byte bs)
name_is_text bs = IsUtf8-from_ascii (take_while is_name_byte bs) (ascii_front bs)
