-- The bytes of a string, one after another.
use Rattle.std.proofs.Common.{◌≡◌, ◌∙◌, ◌<◌, ◌≤◌, ◌++◌, ap, arith, refl, sym, true≢false, ℕ, Bool, true, false, cond, List, [], ◌∷◌, append_assoc, append-nil, if◌then◌else◌, nat_lt}
use Rattle.std.proofs.lemmas.List.Sums.{fold-append}
use Rattle.std.proofs.lemmas.Str.{IsUtf8-from_is_utf8, encode_ascii, encodes-append, is_utf8-from_IsUtf8}
use Rattle.std.specs.Char.{encode_utf8}
use Rattle.std.specs.List.{fold}
use Rattle.std.specs.Str.{IsUtf8, encode_utf8_all, is_utf8}
use Rattle.netlink_json.specs.Strings.{ascii_escape, escape, escaped, with_escaped}

-- bytes are escaped one by one
pub escaped_all : (is_text : Bool) (text bytes : List ℕ)
    → fold (with_escaped is_text) text bytes ≡ text ++ escaped is_text bytes
escaped_all is_text text [] = sym (append-nil text)
escaped_all is_text text (b ∷ bytes) =
    escaped_all is_text (text ++ escape is_text b) bytes ∙ append_assoc text (escape is_text b) (escaped is_text bytes)

first_of_two : (x : Bool) (p q : List ℕ) → x ≡ true → (if x then p else q) ≡ p
first_of_two true p q is = refl
first_of_two false p q is = absurd (true≢false (sym is))

low_escape : (b : ℕ) → b < 128 → escape true b ≡ ascii_escape b
low_escape b small = first_of_two (nat_lt b 128) (ascii_escape b) (b ∷ []) (grind (arith, small))

high_escape : (b : ℕ) → 128 ≤ b → escape true b ≡ b ∷ []
high_escape b large = grind (arith, large)

-- a character below U+0080 is its byte
pub char_escaped : (text : List ℕ) (c : ℕ) → c < 128
    → fold (with_escaped true) text (encode_utf8 c) ≡ text ++ ascii_escape c
char_escaped text c small =
    ap (fold (with_escaped true) text) (encode_ascii c small) ∙ ap (λ (l : List ℕ). text ++ l) (low_escape c small)

-- and the bytes of any other one are high
abbrev AreHigh : List ℕ → Type 0
AreHigh [] = Unit {0}
AreHigh (b ∷ bytes) = (128 ≤ b) × AreHigh bytes

one_of : (x y z : Bool) (p q r s : List ℕ) → x ≡ false → AreHigh q → AreHigh r → AreHigh s
    → AreHigh (cond x p (cond y q (cond z r s)))
one_of true y z p q r s low high higher highest = absurd (true≢false low)
one_of false true z p q r s low high higher highest = high
one_of false false true p q r s low high higher highest = higher
one_of false false false p q r s low high higher highest = highest

char_high : (c : ℕ) → 128 ≤ c → AreHigh (encode_utf8 c)
unfolding encode_utf8
char_high c large =
    one_of (nat_lt c 128) (nat_lt c 2048) (nat_lt c 65536) _ _ _ _ (grind (arith, large))
    (omega arith, (omega arith, tt)) (omega arith, (omega arith, (omega arith, tt)))
    (omega arith, (omega arith, (omega arith, (omega arith, tt))))

bytes_kept : (text bytes : List ℕ) → AreHigh bytes → fold (with_escaped true) text bytes ≡ text ++ bytes
bytes_kept text [] high = sym (append-nil text)
bytes_kept text (b ∷ bytes) high =
    bytes_kept (text ++ escape true b) bytes high.1
    ∙ ap (λ (l : List ℕ). (text ++ l) ++ bytes) (high_escape b high.0) ∙ append_assoc text (b ∷ []) bytes

pub char_kept : (text : List ℕ) (c : ℕ) → 128 ≤ c → fold (with_escaped true) text (encode_utf8 c) ≡ text ++ encode_utf8 c
char_kept text c large = bytes_kept text (encode_utf8 c) (char_high c large)

-- one more character
pub char_more : (text cs : List ℕ) (c : ℕ)
    → fold (with_escaped true) text (encode_utf8_all (cs ++ (c ∷ [])))
    ≡ fold (with_escaped true) (fold (with_escaped true) text (encode_utf8_all cs)) (encode_utf8 c)
char_more text cs c =
    ap (fold (with_escaped true) text)
    (encodes-append cs (c ∷ []) ∙ ap (λ (l : List ℕ). encode_utf8_all cs ++ l) (append-nil (encode_utf8 c)))
    ∙ fold-append (with_escaped true) text (encode_utf8_all cs) (encode_utf8 c)

-- whether bytes are UTF-8
pub is_text : (bytes : List ℕ) → IsUtf8 bytes → is_utf8 bytes ≡ true
is_text bytes is = is_utf8-from_IsUtf8 bytes is

by_value : (x : Bool) (bytes : List ℕ) → is_utf8 bytes ≡ x → ¬ (IsUtf8 bytes) → is_utf8 bytes ≡ false
by_value true bytes is other = absurd (other (IsUtf8-from_is_utf8 bytes is))
by_value false bytes is other = is

pub is_no_text : (bytes : List ℕ) → ¬ (IsUtf8 bytes) → is_utf8 bytes ≡ false
is_no_text bytes other = by_value (is_utf8 bytes) bytes refl other
