use Rattle.std.proofs.Common.{◌≡◌, ◌/◌, ◌%◌, ◌^◌, ◌∙◌, ℕ, ap, bit_and, map, replicate}
use Rattle.std.proofs.lemmas.Simd.{length-zip2, zip2_splat}
use Rattle.netlink_bytes.specs.Text.{hex_digit}
use Rattle.netlink_bytes.proofs.Lanes.{highs_small, low_is, lows_small, woven}
use Rattle.netlink_bytes.proofs.hexadecimal.pairs_of.Goals as goal

pub returns-clause-digits : goal.returns-clause-digits
returns-clause-digits c =
    let bytes = c.args.bytes in
    let high : c.digits_of-high.result ≡ map hex_digit (map (λ b. b / 16) bytes) =
    c.digits_of-high.ensures ∙ ap (map hex_digit) (zip2_splat (λ (a b : ℕ). a / 2 ^ b) bytes 16 4 c.requires.size) in
    let low : c.digits_of-low.result ≡ map hex_digit (map (λ b. b % 16) bytes) =
    c.digits_of-low.ensures ∙ ap (map hex_digit) (zip2_splat bit_and bytes 16 15 c.requires.size ∙ low_is bytes) in
    rw (high, low) (woven bytes c.requires.size)

pub digits_of-high-requires-clause-size : goal.digits_of-high-requires-clause-size
digits_of-high-requires-clause-size c =
    length-zip2 (λ (a b : ℕ). a / 2 ^ b) c.args.bytes (replicate 16 4) c.requires.size ∙ c.requires.size

pub digits_of-high-requires-clause-digits : goal.digits_of-high-requires-clause-digits
digits_of-high-requires-clause-digits c = highs_small c.args.bytes c.requires.size c.requires.fit

pub digits_of-low-requires-clause-size : goal.digits_of-low-requires-clause-size
digits_of-low-requires-clause-size c =
    length-zip2 bit_and c.args.bytes (replicate 16 15) c.requires.size ∙ c.requires.size

pub digits_of-low-requires-clause-digits : goal.digits_of-low-requires-clause-digits
digits_of-low-requires-clause-digits c = lows_small c.args.bytes c.requires.size
