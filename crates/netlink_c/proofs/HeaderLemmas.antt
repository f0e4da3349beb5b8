-- A header from two integers of 8 bytes.
use Rattle.std.proofs.Common.{◌≡◌, ℕ, ◌+◌, ◌*◌, ◌/◌, ◌%◌, ◌<◌, ◌≤◌, ◌^◌, List, [], ◌∷◌, length, take, drop, slice_index, ap, ◌∙◌, arith, length-drop}
use Rattle.std.proofs.lemmas.List.{drop-drop}
use Rattle.netlink_packet_core.specs.Header.{field, header_of}
use Rattle.netlink_packet_core.specs.NumberLaws.{IsBytes-drop, front-fits}
use Rattle.netlink_packet_core.specs.Numbers.{number_le}
use Rattle.netlink_packet_core.specs.declared.header.NetlinkHeader.{NetlinkHeader}

-- an integer of 4 bytes is two of 2 bytes
two_of_two : (bytes : List ℕ) → 2 ≤ length bytes → number_le (take 4 bytes) ≡ number_le (take 2 bytes) + 65536 * number_le (take 2 (drop 2 bytes))
unfolding number_le
two_of_two [] long = omega (arith, long)
two_of_two (a ∷ []) long = omega (arith, long)
two_of_two (a ∷ (b ∷ more)) long = omega arith

-- and one of 8 bytes is two of 4 bytes
two_of_four : (bytes : List ℕ) → 4 ≤ length bytes
    → number_le (take 8 bytes) ≡ number_le (take 4 bytes) + 4294967296 * number_le (take 4 (drop 4 bytes))
unfolding number_le
two_of_four [] long = omega (arith, long)
two_of_four (a ∷ []) long = omega (arith, long)
two_of_four (a ∷ (b ∷ [])) long = omega (arith, long)
two_of_four (a ∷ (b ∷ (c ∷ []))) long = omega (arith, long)
two_of_four (a ∷ (b ∷ (c ∷ (d ∷ more)))) long = omega arith

-- the parts of an integer of 8 bytes
low : (n a b : ℕ) → a < 4294967296 → n ≡ a + 4294967296 * b → n % 4294967296 ≡ a
low n a b fits is = omega arith

high : (n a b : ℕ) → a < 4294967296 → n ≡ a + 4294967296 * b → n / 4294967296 ≡ b
high n a b fits is = omega arith

middle : (n a b c : ℕ) → a < 4294967296 → b < 65536 → n ≡ a + 4294967296 * (b + 65536 * c) → n / 4294967296 % 65536 ≡ b
middle n a b c fits fits_b is = omega arith

top : (n a b c : ℕ) → a < 4294967296 → b < 65536 → n ≡ a + 4294967296 * (b + 65536 * c) → n / 281474976710656 ≡ c
top n a b c fits fits_b is = omega arith

-- an integer of w bytes at an offset fits
fits_at : (at w : ℕ) (bytes : List ℕ) → ((i : ℕ) → slice_index bytes i < 256) → at + w ≤ length bytes
    → number_le (take w (drop at bytes)) < 256 ^ w
fits_at at w bytes each inside = front-fits w (drop at bytes) (IsBytes-drop at bytes each) (omega (arith, length-drop at bytes))

pub header_of_halves : (bytes : List ℕ) (front back : ℕ) → ((i : ℕ) → slice_index bytes i < 256) → 16 ≤ length bytes
    → front ≡ field 0 8 bytes → back ≡ field 8 8 bytes
    → ◌≡◌ {A = NetlinkHeader} (record {
      length = front % 4294967296;
      message_type = front / 4294967296 % 65536;
      flags = front / 281474976710656;
      sequence_number = back % 4294967296;
      port_number = back / 4294967296;
    }) (header_of bytes)
header_of_halves bytes front back each long is_front is_back =
    let first = fits_at 0 4 bytes each (omega arith) in
    let second = fits_at 4 2 bytes each (omega arith) in
    let fourth = fits_at 8 4 bytes each (omega arith) in
    let pair = two_of_two (drop 4 bytes) (omega (arith, length-drop 4 bytes))
    ∙ ap (λ (rest : List ℕ). number_le (take 2 (drop 4 bytes)) + 65536 * number_le (take 2 rest)) (drop-drop 2 4 bytes) in
    let fronts = is_front ∙ two_of_four bytes (omega arith) in
    let parts = fronts ∙ ap (λ (n : ℕ). number_le (take 4 bytes) + 4294967296 * n) pair in
    let backs = is_back ∙ two_of_four (drop 8 bytes) (omega (arith, length-drop 8 bytes))
    ∙ ap (λ (rest : List ℕ). number_le (take 4 (drop 8 bytes)) + 4294967296 * number_le (take 4 rest)) (drop-drop 4 8 bytes) in
    λ i. record {
      length = low front _ _ first fronts i;
      message_type = middle front _ _ _ first second parts i;
      flags = top front _ _ _ first second parts i;
      sequence_number = low back _ _ fourth backs i;
      port_number = high back _ _ fourth backs i;
    }
