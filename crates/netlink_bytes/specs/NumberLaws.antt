-- Laws about integers and their encodings, for callers to cite.
use Rattle.std.specs.Prelude.{◌≡◌, ◌<◌, ◌≤◌, ℕ, zero, suc, ◌+◌, ◌*◌, ◌/◌, ◌%◌, ◌^◌, List, [], ◌∷◌, ◌++◌, length, reverse, take, drop, ℤ, pos, negsuc, refl}
use Rattle.std.proofs.Common.{ap, arith, sym, ◌∙◌}
use Rattle.std.proofs.Math.Arith.{mod-mul}
use Rattle.std.proofs.Math.Nat.{pow-suc, pow-succ'}
use Rattle.std.proofs.Math.Seq.{take-append_seam}
use Rattle.std.proofs.lemmas.Grind.{reverse_onto}
use Rattle.std.proofs.lemmas.Int.{ints}
use Rattle.std.proofs.lemmas.List.{get_or-drop, length-reverse, length-take-le, reverse-reverse, take-append-drop}
use Rattle.std.proofs.lemmas.Nat.{div_below}
use Rattle.netlink_bytes.specs.Numbers.{IsBytes, IsSigned, number_le, number_be, bytes_le, bytes_be, signed, unsigned}

-- an encoding in w bytes has w bytes
pub length-bytes_le : (n w : ℕ) → length (bytes_le n w) ≡ w
unfolding bytes_le
length-bytes_le n zero = refl
length-bytes_le n (suc w) = let rest = length-bytes_le (n / 256) w in omega (arith, rest)

-- an integer that fits in w bytes reads back from its encoding
pub number_le-bytes_le : (n w : ℕ) → n < 256 ^ w → number_le (bytes_le n w) ≡ n
unfolding number_le bytes_le
number_le-bytes_le n zero fits = omega arith
number_le-bytes_le n (suc w) fits =
    let less : n / 256 < 256 ^ w =
    div_below n 256 (256 ^ w) (omega arith) (rw (pow-suc 256 w) at fits) in
    let rest = number_le-bytes_le (n / 256) w less in
    rw rest (omega arith)

IsBytes-tail : (b : ℕ) (bytes : List ℕ) → IsBytes (b ∷ bytes) → IsBytes bytes
IsBytes-tail b bytes each i = each (suc i)

-- what bytes decode to fits in that many bytes
pub number_le-fits : (bytes : List ℕ) → IsBytes bytes → number_le bytes < 256 ^ length bytes
unfolding number_le
number_le-fits [] each = omega arith
number_le-fits (b ∷ bytes) each =
    let less : number_le bytes < 256 ^ length bytes =
    number_le-fits bytes (IsBytes-tail b bytes each) in
    let byte : b < 256 = each 0 in
    rw (pow-suc 256 (length bytes)) (omega arith)

-- encoding what bytes decode to gives those bytes
pub bytes_le-number_le : (bytes : List ℕ) → IsBytes bytes
    → bytes_le (number_le bytes) (length bytes) ≡ bytes
unfolding number_le bytes_le
bytes_le-number_le [] each = refl
bytes_le-number_le (b ∷ bytes) each =
    let byte : b < 256 = each 0 in
    let low : (b + 256 * number_le bytes) % 256 ≡ b = omega arith in
    let high : (b + 256 * number_le bytes) / 256 ≡ number_le bytes = omega arith in
    rw (low, high, bytes_le-number_le bytes (IsBytes-tail b bytes each)) refl

-- a signed integer reads back from the unsigned one that represents it
pub signed-unsigned : (w : ℕ) (z : ℤ) → IsSigned (suc w) z → signed (suc w) (unsigned (suc w) z) ≡ z
unfolding signed unsigned
signed-unsigned w (pos n) fits = grind (arith, ints)
signed-unsigned w (negsuc n) fits =
    let power : 256 ^ suc w ≡ 256 * 256 ^ w = pow-succ' 256 w in
    rw power (grind (arith, ints))

-- and the unsigned one fits in the same number of bytes
pub unsigned-fits : (w : ℕ) (z : ℤ) → IsSigned (suc w) z → unsigned (suc w) z < 256 ^ suc w
unfolding unsigned
unsigned-fits w (pos n) fits = omega arith
unsigned-fits w (negsuc n) fits = let power : 256 ^ suc w ≡ 256 * 256 ^ w = pow-succ' 256 w in
    omega arith

-- an unsigned integer reads back from the signed one that it represents
pub unsigned-signed : (w n : ℕ) → n < 256 ^ w → unsigned w (signed w n) ≡ n
unfolding signed unsigned
unsigned-signed w n fits = grind (arith, ints)

-- and the signed one fits in the same number of bytes
pub signed-fits : (w n : ℕ) → n < 256 ^ suc w → IsSigned (suc w) (signed (suc w) n)
unfolding signed
signed-fits w n fits = grind (arith, ints)

-- ---- integers of any size, and big-endian

pub length-bytes_be : (n w : ℕ) → length (bytes_be n w) ≡ w
unfolding bytes_be
length-bytes_be n w = length-reverse (bytes_le n w) ∙ length-bytes_le n w

-- the length of an encoding
pub ruleset text_sizes = (length-bytes_le, length-bytes_be)

pow-positive : (w : ℕ) → 0 < 256 ^ w
pow-positive zero = omega arith
pow-positive (suc w) = let less : 0 < 256 ^ w = pow-positive w in rw (pow-suc 256 w) (omega arith)

-- an encoding in w bytes decodes to n modulo 256^w
pub number_le-bytes_le_mod : (n w : ℕ) → number_le (bytes_le n w) ≡ n % 256 ^ w
unfolding number_le bytes_le
number_le-bytes_le_mod n zero = omega arith
number_le-bytes_le_mod n (suc w) =
    let rest = number_le-bytes_le_mod (n / 256) w in
    let power : 256 ^ suc w ≡ 256 ^ w * 256 = pow-suc 256 w in
    let digits : n % (256 ^ w * 256) ≡ (n / 256 % 256 ^ w) * 256 + n % 256 =
    mod-mul n (pow-positive w) (omega arith) in
    rw (rest, power, digits) (omega arith)

pub number_be-bytes_be_mod : (n w : ℕ) → number_be (bytes_be n w) ≡ n % 256 ^ w
unfolding number_be bytes_be
number_be-bytes_be_mod n w =
    ap number_le (reverse-reverse (bytes_le n w)) ∙ number_le-bytes_le_mod n w

pub number_be-bytes_be : (n w : ℕ) → n < 256 ^ w → number_be (bytes_be n w) ≡ n
unfolding number_be bytes_be
number_be-bytes_be n w fits =
    ap number_le (reverse-reverse (bytes_le n w)) ∙ number_le-bytes_le n w fits

-- the items of an encoding are bytes
pub IsBytes-bytes_le : (n w : ℕ) → IsBytes (bytes_le n w)
unfolding bytes_le
IsBytes-bytes_le n zero i = omega arith
IsBytes-bytes_le n (suc w) zero = omega arith
IsBytes-bytes_le n (suc w) (suc i) = IsBytes-bytes_le (n / 256) w i

pub IsBytes-append : (xs ys : List ℕ) → IsBytes xs → IsBytes ys → IsBytes (xs ++ ys)
IsBytes-append [] ys first later i = later i
IsBytes-append (x ∷ xs) ys first later zero = first zero
IsBytes-append (x ∷ xs) ys first later (suc i) =
    IsBytes-append xs ys (IsBytes-tail x xs first) later i

IsBytes-alone : (b : ℕ) → b < 256 → IsBytes (b ∷ [])
IsBytes-alone b small zero = small
IsBytes-alone b small (suc i) = omega arith

pub IsBytes-reverse : (bytes : List ℕ) → IsBytes bytes → IsBytes (reverse bytes)
IsBytes-reverse [] each = each
IsBytes-reverse (b ∷ bytes) each =
    rw (reverse_onto bytes b [])
    (IsBytes-append (reverse bytes) (b ∷ []) (IsBytes-reverse bytes (IsBytes-tail b bytes each))
    (IsBytes-alone b (each 0)))

pub IsBytes-bytes_be : (n w : ℕ) → IsBytes (bytes_be n w)
unfolding bytes_be
IsBytes-bytes_be n w = IsBytes-reverse (bytes_le n w) (IsBytes-bytes_le n w)

pub number_be-fits : (bytes : List ℕ) → IsBytes bytes → number_be bytes < 256 ^ length bytes
unfolding number_be
number_be-fits bytes each =
    rw (length-reverse bytes) at (number_le-fits (reverse bytes) (IsBytes-reverse bytes each))

pub bytes_be-number_be : (bytes : List ℕ) → IsBytes bytes
    → bytes_be (number_be bytes) (length bytes) ≡ bytes
unfolding number_be bytes_be
bytes_be-number_be bytes each =
    let backward : bytes_le (number_le (reverse bytes)) (length bytes) ≡ reverse bytes =
    ap (bytes_le (number_le (reverse bytes))) (sym (length-reverse bytes))
    ∙ bytes_le-number_le (reverse bytes) (IsBytes-reverse bytes each) in
    ap reverse backward ∙ reverse-reverse bytes

-- the first w bytes are the encoding, whatever follows it
pub take-bytes_le : (n w : ℕ) (rest : List ℕ) → take w (bytes_le n w ++ rest) ≡ bytes_le n w
take-bytes_le n w rest =
    ap (λ (k : ℕ). take k (bytes_le n w ++ rest)) (sym (length-bytes_le n w))
    ∙ take-append_seam (bytes_le n w) rest

pub take-bytes_be : (n w : ℕ) (rest : List ℕ) → take w (bytes_be n w ++ rest) ≡ bytes_be n w
take-bytes_be n w rest =
    ap (λ (k : ℕ). take k (bytes_be n w ++ rest)) (sym (length-bytes_be n w))
    ∙ take-append_seam (bytes_be n w) rest

-- ---- parts of bytes

pub IsBytes-drop : (n : ℕ) (bytes : List ℕ) → IsBytes bytes → IsBytes (drop n bytes)
IsBytes-drop n bytes each i = rw get_or-drop (each (n + i))

pub IsBytes-take : (n : ℕ) (bytes : List ℕ) → IsBytes bytes → IsBytes (take n bytes)
IsBytes-take zero bytes each i = omega arith
IsBytes-take (suc n) [] each i = omega arith
IsBytes-take (suc n) (x ∷ bytes) each zero = each zero
IsBytes-take (suc n) (x ∷ bytes) each (suc i) = IsBytes-take n bytes (λ j. each (suc j)) i

-- bytes are the encoding of the integer at their start and what follows it
pub split_number : (w : ℕ) (bytes : List ℕ) → IsBytes bytes → w ≤ length bytes
    → bytes ≡ bytes_le (number_le (take w bytes)) w ++ drop w bytes
split_number w bytes each long =
    let size : length (take w bytes) ≡ w = length-take-le w bytes long in
    let text : bytes_le (number_le (take w bytes)) w ≡ take w bytes =
    ap (bytes_le (number_le (take w bytes))) (sym size)
    ∙ bytes_le-number_le (take w bytes) (IsBytes-take w bytes each) in
    sym (take-append-drop w bytes) ∙ ap (λ (front : List ℕ). front ++ drop w bytes) (sym text)

-- and that integer fits in w bytes
pub front-fits : (w : ℕ) (bytes : List ℕ) → IsBytes bytes → w ≤ length bytes
    → number_le (take w bytes) < 256 ^ w
front-fits w bytes each long =
    let fits = number_le-fits (take w bytes) (IsBytes-take w bytes each) in
    rw (length-take-le w bytes long) at fits
