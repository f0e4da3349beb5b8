-- Digits of bytes, appended byte by byte or many at a time.
use Rattle.std.proofs.Common.{◌≡◌, ◌<◌, ◌+◌, ◌*◌, ◌/◌, ◌%◌, ℕ, List, [], ◌∷◌, ◌++◌, IsAscii, add-one, ap, append_assoc, arith, drop, get_or, length, refl, set, slice_index, suc, sym, take, ◌∙◌}
use Rattle.std.proofs.Math.Seq.{take-add}
use Rattle.std.proofs.lemmas.List.{length-set, take_more_set}
use Rattle.std.proofs.lemmas.Str.Ascii.{IsAscii-cons, IsAscii-nil}
use Rattle.std.specs.Prelude.{Bool, true, false, nat_lt, if◌then◌else◌}
use Rattle.netlink_bytes.specs.Text.{hex_digit, hex_digits, hex_pair}
use Rattle.netlink_bytes.specs.TextLaws.{hex_digits-take}

-- two more digits, after a text and the digits of the bytes so far
pub two_digits : (front bytes old new pair : List ℕ) (i : ℕ) → i < length bytes → old ≡ front ++ hex_digits (take i bytes)
    → new ≡ old ++ pair → pair ≡ hex_pair (slice_index bytes i)
    → new ≡ front ++ hex_digits (take (i + 1) bytes)
two_digits front bytes old new pair i less so_far added is =
    let digits : List ℕ = hex_digits (take i bytes) in
    rw (add-one, hex_digits-take bytes i less)
    (added ∙ ap (λ (t : List ℕ). t ++ pair) so_far ∙ ap (λ (t : List ℕ). (front ++ digits) ++ t) is
    ∙ append_assoc front digits (hex_pair (slice_index bytes i)))

digits_append : (xs ys : List ℕ) → hex_digits (xs ++ ys) ≡ hex_digits xs ++ hex_digits ys
unfolding hex_digits
digits_append [] ys = refl
digits_append (x ∷ xs) ys =
    ap (λ (more : List ℕ). hex_digit (x / 16) ∷ (hex_digit (x % 16) ∷ more)) (digits_append xs ys)

-- the digits of more bytes, after a text and the digits of the bytes so far
pub digits_join : (front bytes old new : List ℕ) (i n : ℕ) → old ≡ front ++ hex_digits (take i bytes)
    → new ≡ old ++ hex_digits (take n (drop i bytes)) → new ≡ front ++ hex_digits (take (i + n) bytes)
digits_join front bytes old new i n so_far added =
    let digits : List ℕ = hex_digits (take i bytes) in
    let more : List ℕ = hex_digits (take n (drop i bytes)) in
    added ∙ ap (λ (t : List ℕ). t ++ more) so_far ∙ append_assoc front digits more
    ∙ ap (λ (t : List ℕ). front ++ t)
    (sym (ap hex_digits (take-add i n bytes) ∙ digits_append (take i bytes) (take n (drop i bytes))))

-- two digits, written after those of the bytes so far
pub two_written : (digits bytes pair : List ℕ) (i x y : ℕ) → take (i * 2) digits ≡ hex_digits (take i bytes)
    → i < length bytes → i * 2 + 1 < length digits → pair ≡ hex_pair (slice_index bytes i)
    → x ≡ slice_index pair 0 → y ≡ slice_index pair 1
    → take ((i + 1) * 2) (set (set digits (i * 2) x) (i * 2 + 1) y) ≡ hex_digits (take (i + 1) bytes)
two_written digits bytes pair i x y so_far less room is high low =
    let first : List ℕ = set digits (i * 2) x in
    let long : i * 2 + 1 < length first = omega (arith, length-set digits (i * 2) x, room) in
    let end : (i + 1) * 2 ≡ i * 2 + 1 + 1 = omega arith in
    rw (
      end,
      take_more_set first (i * 2 + 1) y long,
      take_more_set digits (i * 2) x (omega (arith, room)),
      so_far,
      add-one,
      hex_digits-take bytes i less,
      high,
      low,
      is,
    )
    (append_assoc (hex_digits (take i bytes)) (hex_digit (slice_index bytes i / 16) ∷ [])
    (hex_digit (slice_index bytes i % 16) ∷ []))

either_ascii : (b : Bool) (n : ℕ) → n < 16 → (if b then 48 + n else 87 + n) < 128
either_ascii true n less = omega (arith, less)
either_ascii false n less = omega (arith, less)

-- digits are ASCII
pub digits_ascii : (bytes : List ℕ) → ((i : ℕ) → get_or bytes i 0 < 256) → IsAscii (hex_digits bytes)
unfolding hex_digits
digits_ascii [] fits = IsAscii-nil
digits_ascii (b ∷ bytes) fits =
    let high : b / 16 < 16 = omega (arith, fits 0) in
    let low : b % 16 < 16 = omega arith in
    let rest : List ℕ = hex_digits bytes in
    let first : ℕ = hex_digit (b / 16) in
    let second : ℕ = hex_digit (b % 16) in
    IsAscii-cons first (second ∷ rest) (either_ascii (nat_lt (b / 16) 10) (b / 16) high)
    (IsAscii-cons second rest (either_ascii (nat_lt (b % 16) 10) (b % 16) low) (digits_ascii bytes (λ i. fits (suc i))))
