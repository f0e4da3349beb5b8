-- Integers at offsets, and codes with what follows them.
use Rattle.std.proofs.Common.{◌≡◌, ℕ, ℤ, ◌+◌, ◌<◌, ◌≤◌, ◌^◌, List, ◌++◌, length, take, drop, ap, sym, ◌∙◌}
use Rattle.std.proofs.lemmas.List.{take_at, drop_at}
use Rattle.netlink_bytes.specs.Numbers.{IsBytes, IsSigned, number_le, bytes_le, signed, unsigned}
use Rattle.netlink_bytes.specs.NumberLaws.{length-bytes_le, number_le-bytes_le, front-fits, split_number, signed-unsigned, unsigned-signed, unsigned-fits, signed-fits}
use Rattle.netlink_packet_core.specs.Sizes.{length-code}
use Rattle.netlink_packet_core.specs.Payload.{code_bytes}
use Rattle.netlink_packet_core.specs.Frame.{IsCodeAndRest}

-- the size of a payload that has a code
pub length-code_and_rest : (payload : List ℕ) (code : ℤ) (rest : List ℕ) → IsCodeAndRest payload code rest
    → length payload ≡ 4 + length rest
length-code_and_rest payload code rest is = ap length is.whole ∙ length-code (unsigned 4 code) rest

-- a code reads back from its encoding
code-code_bytes : (code : ℤ) → IsSigned 4 code → signed 4 (number_le (code_bytes code)) ≡ code
code-code_bytes code fits =
    ap (signed 4) (number_le-bytes_le (unsigned 4 code) 4 (unsigned-fits 3 code fits)) ∙ signed-unsigned 3 code fits

-- the first four bytes are the encoding of a code
pub code_of-front : (payload : List ℕ) → IsBytes payload → 4 ≤ length payload
    → IsCodeAndRest payload (signed 4 (number_le (take 4 payload))) (drop 4 payload)
code_of-front payload each long =
    let fits : number_le (take 4 payload) < 256 ^ 4 = front-fits 4 payload each long in
    record {
      whole = split_number 4 payload each long
          ∙ ap (λ (n : ℕ). bytes_le n 4 ++ drop 4 payload) (sym (unsigned-signed 4 (number_le (take 4 payload)) fits));
      in_range = signed-fits 3 (number_le (take 4 payload)) fits;
    }

front-code : (payload : List ℕ) (code : ℤ) (rest : List ℕ) → IsCodeAndRest payload code rest → signed 4 (number_le (take 4 payload)) ≡ code
front-code payload code rest is =
    ap (λ (b : List ℕ). signed 4 (number_le (take 4 b))) is.whole
    ∙ ap (λ (b : List ℕ). signed 4 (number_le b)) (take_at (code_bytes code) rest 4 (length-bytes_le (unsigned 4 code) 4))
    ∙ code-code_bytes code is.in_range

rest-code : (payload : List ℕ) (code : ℤ) (rest : List ℕ) → IsCodeAndRest payload code rest → drop 4 payload ≡ rest
rest-code payload code rest is = ap (drop 4) is.whole ∙ drop_at (code_bytes code) rest 4 (length-bytes_le (unsigned 4 code) 4)

-- a payload has only one code and one rest
pub code_once : (payload : List ℕ) (c d : ℤ) (r s : List ℕ) → IsCodeAndRest payload c r → IsCodeAndRest payload d s → (c ≡ d) × (r ≡ s)
code_once payload c d r s p q =
    (sym (front-code payload c r p) ∙ front-code payload d s q, sym (rest-code payload c r p) ∙ rest-code payload d s q)
