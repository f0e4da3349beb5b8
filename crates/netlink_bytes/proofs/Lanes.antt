-- The digits of 16 bytes at once.
use Rattle.std.proofs.Common.{◌≡◌, ◌<◌, ◌≤◌, ◌+◌, ◌*◌, ◌/◌, ◌%◌, ◌^◌, ◌∙◌, ℕ, List, [], ◌∷◌, ◌++◌, ap, append_assoc, arith, bit_and, get_or, length, map, refl, replicate, subst, sym, take, w8}
use Rattle.std.proofs.lemmas.Grind.{same_number_lists}
use Rattle.std.proofs.lemmas.List.{get_or-map, length-map}
use Rattle.std.proofs.lemmas.List.FromFn.{get_or-map-range_with_len}
use Rattle.std.proofs.lemmas.Nat.{and_le_r, and_mask}
use Rattle.std.proofs.lemmas.Simd.{Each1-all, Each1-get_or, Each1-weaker, Each1-zip2, Each2-splat, get_or-swz_l_below, length-put_chunk, length-swz_l, swz_l, take_more_put_chunk}
use Rattle.std.specs.List.{range_with_len}
use Rattle.std.specs.Simd.Lanes.{Each1, chunk, pick_l, put_chunk, zip2}
use Rattle.netlink_bytes.specs.Text.{hex_digit, hex_digits}
use Rattle.netlink_bytes.proofs.Digits.{digits_join}

-- "0123456789abcdef"
abbrev pub table : List ℕ
table = 48 ∷ 49 ∷ 50 ∷ 51 ∷ 52 ∷ 53 ∷ 54 ∷ 55 ∷ 56 ∷ 57 ∷ 97 ∷ 98 ∷ 99 ∷ 100 ∷ 101 ∷ 102 ∷ []

table_is : map (λ n. get_or table n 0) (range_with_len 0 16) ≡ map hex_digit (range_with_len 0 16)
table_is = refl

digit_is : (n : ℕ) → n < 16 → get_or table n 0 ≡ hex_digit n
digit_is n less =
    sym (get_or-map-range_with_len (λ k. get_or table k 0) 0 16 n n 0 less (omega arith))
    ∙ ap (λ (t : List ℕ). get_or t n 0) table_is ∙ get_or-map-range_with_len hex_digit 0 16 n n 0 less (omega arith)

-- the digits that are looked up for numbers
pub looked_up : (numbers : List ℕ) → length numbers ≡ 16 → Each1 (λ n. n < 16) numbers
    → swz_l w8 16 table 0 numbers ≡ map hex_digit numbers
looked_up numbers size small =
    let long : length (swz_l w8 16 table 0 numbers) ≡ 16 = length-swz_l w8 16 table 0 numbers ∙ size in
    same_number_lists (swz_l w8 16 table 0 numbers) (map hex_digit numbers) (long ∙ sym (length-map numbers hex_digit ∙ size))
    (λ k less.
    let lane : k < length numbers = omega (arith, long, size, less) in
    let below : get_or numbers k 0 < 16 = Each1-get_or (λ n. n < 16) numbers k 0 lane small in
    get_or-swz_l_below w8 16 table 0 numbers k lane below
    ∙ ap (λ (j : ℕ). get_or table j 0) (omega (arith, size, lane)) ∙ digit_is (get_or numbers k 0) below
    ∙ sym (get_or-map hex_digit numbers k 0 0 lane))

listed : (bytes : List ℕ) → length bytes ≡ 16 → bytes ≡ map (λ k. get_or bytes k 0) (range_with_len 0 16)
listed bytes size =
    same_number_lists bytes (map (λ k. get_or bytes k 0) (range_with_len 0 16)) size
    (λ k less. sym (get_or-map-range_with_len (λ j. get_or bytes j 0) 0 16 k k 0 (omega (arith, size, less)) (omega arith)))

abbrev both : List ℕ → List ℕ
both bytes = map hex_digit (map (λ b. b / 16) bytes) ++ map hex_digit (map (λ b. b % 16) bytes)

abbrev Woven : List ℕ → Type 0
Woven bytes =
    pick_l 0 (both bytes) (0 ∷ 16 ∷ 1 ∷ 17 ∷ 2 ∷ 18 ∷ 3 ∷ 19 ∷ 4 ∷ 20 ∷ 5 ∷ 21 ∷ 6 ∷ 22 ∷ 7 ∷ 23 ∷ [])
    ++ pick_l 0 (both bytes) (8 ∷ 24 ∷ 9 ∷ 25 ∷ 10 ∷ 26 ∷ 11 ∷ 27 ∷ 12 ∷ 28 ∷ 13 ∷ 29 ∷ 14 ∷ 30 ∷ 15 ∷ 31 ∷ [])
    ≡ hex_digits bytes

woven_listed : (f : ℕ → ℕ) → Woven (map f (range_with_len 0 16))
unfolding hex_digits
woven_listed f = refl

-- the high and low digits of 16 bytes, one beside the other, are the digits of the bytes
pub woven : (bytes : List ℕ) → length bytes ≡ 16 → Woven bytes
woven bytes size = subst Woven (sym (listed bytes size)) (woven_listed (λ k. get_or bytes k 0))

-- the digits of 16 bytes, written after those of the bytes so far
pub block_written : (digits bytes first second : List ℕ) (i : ℕ) → take (i * 2) digits ≡ hex_digits (take i bytes)
    → i * 2 + 32 ≤ length digits → length first ≡ 16 → length second ≡ 16 → first ++ second ≡ hex_digits (chunk i 16 bytes)
    → take ((i + 16) * 2) (put_chunk (i * 2 + 16) (put_chunk (i * 2) digits first) second)
    ≡ hex_digits (take (i + 16) bytes)
block_written digits bytes first second i so_far room one two is =
    let begun : List ℕ = put_chunk (i * 2) digits first in
    let long : length begun ≡ length digits = length-put_chunk (i * 2) digits first in
    let middle : take (i * 2 + 16) begun ≡ take (i * 2) digits ++ first =
    take_more_put_chunk (i * 2) digits first (i * 2 + 16) (omega (arith, one)) (omega (arith, room)) in
    let all : take ((i + 16) * 2) (put_chunk (i * 2 + 16) begun second) ≡ take (i * 2 + 16) begun ++ second =
    take_more_put_chunk (i * 2 + 16) begun second ((i + 16) * 2) (omega (arith, two)) (omega (arith, room, long)) in
    digits_join [] bytes (take (i * 2) digits) _ i 16 so_far
    (all ∙ ap (λ (t : List ℕ). t ++ second) middle ∙ append_assoc (take (i * 2) digits) first second
    ∙ ap (λ (t : List ℕ). take (i * 2) digits ++ t) is)

pub low_is : (bytes : List ℕ) → map (λ b. bit_and b 15) bytes ≡ map (λ b. b % 16) bytes
low_is [] = refl
low_is (b ∷ bytes) =
    let one : bit_and b 15 ≡ b % 16 = and_mask b 4 in
    rw (one, low_is bytes) refl

-- the numbers whose digits are looked up are small
pub highs_small : (bytes : List ℕ) → length bytes ≡ 16 → Each1 (λ b. b < 256) bytes
    → Each1 (λ n. n < 16) (zip2 (λ a b. a / 2 ^ b) bytes (replicate 16 4))
highs_small bytes size fit =
    let each : Each1 (λ b. b / 16 < 16) bytes =
    Each1-weaker (λ b. b < 256) (λ b. b / 16 < 16) (λ b less. omega (arith, less)) bytes fit in
    Each1-zip2 (λ a b. a / 2 ^ b) (λ n. n < 16) bytes (replicate 16 4) (Each2-splat (λ a b. a / 2 ^ b < 16) bytes 16 4 each)

pub lows_small : (bytes : List ℕ) → length bytes ≡ 16
    → Each1 (λ n. n < 16) (zip2 bit_and bytes (replicate 16 15))
lows_small bytes size =
    let each : Each1 (λ b. bit_and b 15 < 16) bytes =
    Each1-all (λ b. bit_and b 15 < 16) (λ b. omega (arith, and_le_r b 15)) bytes in
    Each1-zip2 bit_and (λ n. n < 16) bytes (replicate 16 15) (Each2-splat (λ a b. bit_and a b < 16) bytes 16 15 each)
