-- The sizes of encodings, for callers to cite.
use Rattle.std.specs.Prelude.{◌≡◌, ℕ, ◌+◌, List, ◌++◌, length, refl}
use Rattle.std.proofs.Common.{ap, ◌∙◌, length-append}
use Rattle.netlink_bytes.specs.Numbers.{bytes_le}
use Rattle.netlink_bytes.specs.NumberLaws.{length-bytes_le}
use Rattle.netlink_packet_core.specs.Header.{header_bytes}
use Rattle.netlink_packet_core.specs.declared.header.NetlinkHeader.{NetlinkHeader}

-- a header has 16 bytes
pub length-header_bytes : (h : NetlinkHeader) → length (header_bytes h) ≡ 16
unfolding bytes_le
length-header_bytes h = refl

-- and what follows it adds to them
pub length-header_and : (h : NetlinkHeader) (more : List ℕ)
    → length (header_bytes h ++ more) ≡ 16 + length more
length-header_and h more =
    length-append (header_bytes h) more ∙ ap (λ (n : ℕ). n + length more) (length-header_bytes h)

-- a code has 4 bytes, and what follows it adds to them
pub length-code : (n : ℕ) (rest : List ℕ) → length (bytes_le n 4 ++ rest) ≡ 4 + length rest
length-code n rest =
    length-append (bytes_le n 4) rest ∙ ap (λ (k : ℕ). k + length rest) (length-bytes_le n 4)

pub ruleset text_sizes = (length-header_bytes, length-code)
