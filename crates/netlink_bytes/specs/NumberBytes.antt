-- std's bytes of an integer are those of `Numbers`.
use Rattle.std.proofs.Common.{◌≡◌, ℕ, zero, suc, ◌+◌, ◌*◌, ◌/◌, ◌%◌, ◌^◌, ◌<◌, List, [], ◌∷◌, ◌++◌, length, reverse, slice_index, ℤ, pos, negsuc, refl, sym, ap, ◌∙◌, arith}
use Rattle.std.proofs.Math.Nat.{div-div-eq-div-mul, div-one, pow-suc, pow-succ', mul_assoc, mul_comm}
use Rattle.std.proofs.lemmas.List.{length-reverse}
use Rattle.std.proofs.lemmas.Grind.{reverse_onto}
use Rattle.std.proofs.lemmas.Int.{ints}
use Rattle.std.specs.Int.{w8, w16, w32, w64, w128, byte_at, bytes_low_first, from_le_bytes, from_be_bytes, to_le_bytes, to_be_bytes, cast_signed, cast_unsigned}
use Rattle.netlink_bytes.specs.Numbers.{number_le, number_be, bytes_le, bytes_be, signed, unsigned}

-- ---- what a writer writes

byte_at-pow : (k x : ℕ) → byte_at k x ≡ x / 256 ^ k % 256
byte_at-pow zero x = ap (λ (y : ℕ). y % 256) (sym (div-one x))
byte_at-pow (suc k) x = refl

-- n / 256^i encoded in k bytes is the k bytes of n from byte i
low_first : (i k n : ℕ) → bytes_le (n / 256 ^ i) k ≡ bytes_low_first i k n
unfolding bytes_le
low_first i zero n = refl
low_first i (suc k) n =
    let shift : n / 256 ^ i / 256 ≡ n / 256 ^ suc i = div-div-eq-div-mul n (256 ^ i) 256 ∙ ap (λ (p : ℕ). n / p) (sym (pow-suc 256 i)) in
    let rest : bytes_le (n / 256 ^ i / 256) k ≡ bytes_low_first (suc i) k n = ap (λ (m : ℕ). bytes_le m k) shift ∙ low_first (suc i) k n in
    rw (byte_at-pow i n, rest) refl

text_low_first : (k n : ℕ) → bytes_le n k ≡ bytes_low_first 0 k n
text_low_first k n = ap (λ (m : ℕ). bytes_le m k) (sym (div-one n)) ∙ low_first 0 k n

text_high_first : (k n : ℕ) → bytes_be n k ≡ reverse (bytes_low_first 0 k n)
unfolding bytes_be
text_high_first k n = ap reverse (text_low_first k n)

pub bytes_le_2 : (n : ℕ) → bytes_le n 2 ≡ to_le_bytes w16 n
bytes_le_2 n = text_low_first 2 n

pub bytes_be_2 : (n : ℕ) → bytes_be n 2 ≡ to_be_bytes w16 n
bytes_be_2 n = text_high_first 2 n

pub bytes_le_4 : (n : ℕ) → bytes_le n 4 ≡ to_le_bytes w32 n
bytes_le_4 n = text_low_first 4 n

pub bytes_be_4 : (n : ℕ) → bytes_be n 4 ≡ to_be_bytes w32 n
bytes_be_4 n = text_high_first 4 n

pub bytes_le_8 : (n : ℕ) → bytes_le n 8 ≡ to_le_bytes w64 n
bytes_le_8 n = text_low_first 8 n

pub bytes_be_8 : (n : ℕ) → bytes_be n 8 ≡ to_be_bytes w64 n
bytes_be_8 n = text_high_first 8 n

pub bytes_le_16 : (n : ℕ) → bytes_le n 16 ≡ to_le_bytes w128 n
bytes_le_16 n = text_low_first 16 n

pub bytes_be_16 : (n : ℕ) → bytes_be n 16 ≡ to_be_bytes w128 n
bytes_be_16 n = text_high_first 16 n

-- ---- what a reader reads

-- the integer in the n bytes from index i, little-endian and big-endian
number_from : ℕ → ℕ → List ℕ → ℕ
number_from i zero bs = 0
number_from i (suc n) bs = slice_index bs i + 256 * number_from (suc i) n bs

high_from : ℕ → ℕ → List ℕ → ℕ
high_from i zero bs = 0
high_from i (suc n) bs = slice_index bs i * 256 ^ n + high_from (suc i) n bs

number_from-cons : (i n b : ℕ) (bs : List ℕ) → number_from (suc i) n (b ∷ bs) ≡ number_from i n bs
unfolding number_from
number_from-cons i zero b bs = refl
number_from-cons i (suc n) b bs = ap (λ (r : ℕ). slice_index bs i + 256 * r) (number_from-cons (suc i) n b bs)

high_from-cons : (i n b : ℕ) (bs : List ℕ) → high_from (suc i) n (b ∷ bs) ≡ high_from i n bs
unfolding high_from
high_from-cons i zero b bs = refl
high_from-cons i (suc n) b bs = ap (λ (r : ℕ). slice_index bs i * 256 ^ n + r) (high_from-cons (suc i) n b bs)

number_le_all : (n : ℕ) (bs : List ℕ) → length bs ≡ n → number_le bs ≡ number_from 0 n bs
unfolding number_le number_from
number_le_all zero [] e = refl
number_le_all zero (b ∷ bs) e = absurd (omega arith)
number_le_all (suc n) [] e = absurd (omega arith)
number_le_all (suc n) (b ∷ bs) e =
    let rest = number_le_all n bs (omega arith) in
    let moved = number_from-cons 0 n b bs in
    omega (arith, rest, moved)

-- a byte that follows others is worth 256 to the power of their number
number_le_last : (bs : List ℕ) (b : ℕ) → number_le (bs ++ b ∷ []) ≡ number_le bs + b * 256 ^ length bs
unfolding number_le
number_le_last [] b = omega arith
number_le_last (x ∷ bs) b =
    let rest = number_le_last bs b in
    let power : 256 ^ suc (length bs) ≡ 256 * 256 ^ length bs = pow-succ' 256 (length bs) in
    let moved : b * (256 * 256 ^ length bs) ≡ 256 * (b * 256 ^ length bs) =
    sym (mul_assoc b 256 (256 ^ length bs)) ∙ ap (λ (c : ℕ). c * 256 ^ length bs) (mul_comm b 256)
    ∙ mul_assoc 256 b (256 ^ length bs) in
    rw (rest, power, moved) (omega arith)

number_be_all : (n : ℕ) (bs : List ℕ) → length bs ≡ n → number_be bs ≡ high_from 0 n bs
unfolding number_be number_le high_from
number_be_all zero [] e = refl
number_be_all zero (b ∷ bs) e = absurd (omega arith)
number_be_all (suc n) [] e = absurd (omega arith)
number_be_all (suc n) (b ∷ bs) e =
    let few : length bs ≡ n = omega arith in
    let last : number_le (reverse (b ∷ bs)) ≡ number_le (reverse bs) + b * 256 ^ length (reverse bs) =
    ap number_le (reverse_onto bs b []) ∙ number_le_last (reverse bs) b in
    let size : length (reverse bs) ≡ n = length-reverse bs ∙ few in
    let rest : number_le (reverse bs) ≡ high_from 0 n bs = number_be_all n bs few in
    let moved = high_from-cons 0 n b bs in
    last ∙ rw (size, rest, moved) (omega arith)

pub number_le_2 : (bs : List ℕ) → length bs ≡ 2 → number_le bs ≡ from_le_bytes w16 bs
unfolding number_from
number_le_2 bs e = let whole = number_le_all 2 bs e in omega arith

pub number_be_2 : (bs : List ℕ) → length bs ≡ 2 → number_be bs ≡ from_be_bytes w16 bs
unfolding high_from
number_be_2 bs e = let whole = number_be_all 2 bs e in omega arith

pub number_le_4 : (bs : List ℕ) → length bs ≡ 4 → number_le bs ≡ from_le_bytes w32 bs
unfolding number_from
number_le_4 bs e = let whole = number_le_all 4 bs e in omega arith

pub number_be_4 : (bs : List ℕ) → length bs ≡ 4 → number_be bs ≡ from_be_bytes w32 bs
unfolding high_from
number_be_4 bs e = let whole = number_be_all 4 bs e in omega arith

pub number_le_8 : (bs : List ℕ) → length bs ≡ 8 → number_le bs ≡ from_le_bytes w64 bs
unfolding number_from
number_le_8 bs e = let whole = number_le_all 8 bs e in omega arith

pub number_be_8 : (bs : List ℕ) → length bs ≡ 8 → number_be bs ≡ from_be_bytes w64 bs
unfolding high_from
number_be_8 bs e = let whole = number_be_all 8 bs e in omega arith

pub number_le_16 : (bs : List ℕ) → length bs ≡ 16 → number_le bs ≡ from_le_bytes w128 bs
unfolding number_from
number_le_16 bs e = let whole = number_le_all 16 bs e in omega arith

pub number_be_16 : (bs : List ℕ) → length bs ≡ 16 → number_be bs ≡ from_be_bytes w128 bs
unfolding high_from
number_be_16 bs e = let whole = number_be_all 16 bs e in omega arith

-- ---- signed integers

pub signed_2 : (n : ℕ) → n < 2 ^ 16 → signed 2 n ≡ cast_signed w16 n
unfolding signed
signed_2 n h = grind (arith, ints)

pub unsigned_2 : (z : ℤ) → unsigned 2 z ≡ cast_unsigned w16 z
unfolding unsigned
unsigned_2 (pos n) = refl
unsigned_2 (negsuc n) = refl

pub signed_4 : (n : ℕ) → n < 2 ^ 32 → signed 4 n ≡ cast_signed w32 n
unfolding signed
signed_4 n h = grind (arith, ints)

pub unsigned_4 : (z : ℤ) → unsigned 4 z ≡ cast_unsigned w32 z
unfolding unsigned
unsigned_4 (pos n) = refl
unsigned_4 (negsuc n) = refl

pub signed_8 : (n : ℕ) → n < 2 ^ 64 → signed 8 n ≡ cast_signed w64 n
unfolding signed
signed_8 n h = grind (arith, ints)

pub unsigned_8 : (z : ℤ) → unsigned 8 z ≡ cast_unsigned w64 z
unfolding unsigned
unsigned_8 (pos n) = refl
unsigned_8 (negsuc n) = refl

pub signed_16 : (n : ℕ) → n < 2 ^ 128 → signed 16 n ≡ cast_signed w128 n
unfolding signed
signed_16 n h = grind (arith, ints)

pub unsigned_16 : (z : ℤ) → unsigned 16 z ≡ cast_unsigned w128 z
unfolding unsigned
unsigned_16 (pos n) = refl
unsigned_16 (negsuc n) = refl

-- ---- a single byte

pub number_le_1 : (bs : List ℕ) → length bs ≡ 1 → number_le bs ≡ slice_index bs 0
unfolding number_from
number_le_1 bs e = let whole = number_le_all 1 bs e in omega arith

pub signed_1 : (n : ℕ) → n < 2 ^ 8 → signed 1 n ≡ cast_signed w8 n
unfolding signed
signed_1 n h = grind (arith, ints)

-- what a proof about a single byte needs
pub ruleset single_byte = (number_le_1, signed_1)

-- what a proof about a reader or a writer needs
pub ruleset numbers_as_bytes = (
  number_le_2,
  number_be_2,
  bytes_le_2,
  bytes_be_2,
  signed_2,
  unsigned_2,
  number_le_4,
  number_be_4,
  bytes_le_4,
  bytes_be_4,
  signed_4,
  unsigned_4,
  number_le_8,
  number_be_8,
  bytes_le_8,
  bytes_be_8,
  signed_8,
  unsigned_8,
  number_le_16,
  number_be_16,
  bytes_le_16,
  bytes_be_16,
  signed_16,
  unsigned_16,
)
