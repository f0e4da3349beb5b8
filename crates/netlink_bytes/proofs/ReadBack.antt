-- The laws about integers and their encodings.
use Rattle.std.proofs.Common.{◌≡◌, ℕ, suc, ◌+◌, ◌*◌, ◌^◌, List, [], ◌∷◌, reverse, ap, ◌∙◌, refl, arith}
use Rattle.std.proofs.Math.Nat.{mul-add, mul_assoc, mul_comm, pow-suc}
use Rattle.netlink_bytes.specs.Laws.{NumberIsSum, TextIsBytes, TextReadsBack, BytesReadBack, SignedReadsBack, UnsignedReadsBack, WrittenIsRead, WrittenSignedIsRead, weighed}
use Rattle.netlink_bytes.specs.NumberLaws.{length-bytes_le, length-bytes_be, IsBytes-bytes_le, IsBytes-bytes_be, number_le-bytes_le, number_be-bytes_be, number_le-bytes_le_mod, number_be-bytes_be_mod, number_le-fits, number_be-fits, bytes_le-number_le, bytes_be-number_be, take-bytes_le, take-bytes_be, signed-unsigned, unsigned-fits, unsigned-signed, signed-fits}
use Rattle.netlink_bytes.specs.Numbers.{number_le, number_be, signed, unsigned}

weighed-number_le : (i : ℕ) (bytes : List ℕ) → weighed i bytes ≡ 256 ^ i * number_le bytes
unfolding number_le
weighed-number_le i [] = omega arith
weighed-number_le i (b ∷ bytes) =
    let rest = weighed-number_le (suc i) bytes in
    let power : 256 ^ suc i ≡ 256 ^ i * 256 = pow-suc 256 i in
    let first : b * 256 ^ i ≡ 256 ^ i * b = mul_comm b (256 ^ i) in
    let later : 256 ^ i * 256 * number_le bytes ≡ 256 ^ i * (256 * number_le bytes) = mul_assoc (256 ^ i) 256 (number_le bytes) in
    let whole : 256 ^ i * (b + 256 * number_le bytes) ≡ 256 ^ i * b + 256 ^ i * (256 * number_le bytes) =
    mul-add (256 ^ i) b (256 * number_le bytes) in
    rw (rest, power, first, later, whole) refl

sum_le : (bytes : List ℕ) → number_le bytes ≡ weighed 0 bytes
sum_le bytes = let e = weighed-number_le 0 bytes in omega (arith, e)

pub number_is_sum : NumberIsSum
unfolding number_be
number_is_sum bytes = (sum_le bytes, sum_le (reverse bytes))

pub text_is_bytes : TextIsBytes
text_is_bytes n w = (length-bytes_le n w, length-bytes_be n w, IsBytes-bytes_le n w, IsBytes-bytes_be n w)

pub text_reads_back : TextReadsBack
text_reads_back n w = (number_le-bytes_le_mod n w, number_be-bytes_be_mod n w)

pub bytes_read_back : BytesReadBack
bytes_read_back bytes w size each = (
  rw size at (bytes_le-number_le bytes each),
  rw size at (bytes_be-number_be bytes each),
  rw size at (number_le-fits bytes each),
  rw size at (number_be-fits bytes each),
)

pub signed_reads_back : SignedReadsBack
signed_reads_back w z fits = (unsigned-fits w z fits, signed-unsigned w z fits)

pub unsigned_reads_back : UnsignedReadsBack
unsigned_reads_back w n fits = (signed-fits w n fits, unsigned-signed (suc w) n fits)

pub written_is_read : WrittenIsRead
written_is_read n w rest fits = (
  ap number_le (take-bytes_le n w rest) ∙ number_le-bytes_le n w fits,
  ap number_be (take-bytes_be n w rest)
      ∙ number_be-bytes_be n w fits,
)

pub written_signed_is_read : WrittenSignedIsRead
written_signed_is_read w z rest fits =
    let read = written_is_read (unsigned (suc w) z) (suc w) rest (unsigned-fits w z fits) in
    let back = signed-unsigned w z fits in
    (ap (signed (suc w)) read.0 ∙ back, ap (signed (suc w)) read.1 ∙ back)
