-- Segments of routes by IPv6 (linux/seg6.h, linux/seg6_iptunnel.h, linux/seg6_hmac.h, linux/rpl.h).
use Rattle.std.specs.Prelude.{ℕ, zero, suc, ◌==◌, ◌||◌, ◌+◌, ◌*◌, ◌-◌, Bool, List, [], ◌∷◌, ◌++◌, codes, decimal, drop, if◌then◌else◌, length, nat_lt, slice_index, take, true}
use Rattle.std.specs.Fmt.{digits}
use Rattle.std.specs.Int.Bits.{bit_and}
use Rattle.netlink_packet_core.specs.Fields.{number_at}
use Rattle.netlink_packet_core.specs.Numbers.{number_be}
use Rattle.netlink_words.specs.Parts.{keyed}
use Rattle.netlink_words.specs.Text.{ip_words}

-- SEG6_IPTUN_MODE_* of linux/seg6_iptunnel.h
unfoldable pub mode_name : ℕ → List ℕ
mode_name n =
    if n == 0 then codes "inline"
    else if n == 1 then codes "encap"
    else if n == 2 then codes "l2encap"
    else if n == 3 then codes "encap.red"
    else if n == 4 then codes "l2encap.red"
    else codes "<unknown>"

-- the segment with an index, of 16 bytes; empty if the bytes end before its end
unfoldable pub segment_at : List ℕ → ℕ → List ℕ
segment_at bytes n =
    if nat_lt (length bytes) (n * 16 + 16) then [] else take 16 (drop (n * 16) bytes)

-- this many segments, the last one first
unfoldable pub segments_of : List ℕ → ℕ → List (List ℕ)
segments_of bytes zero = []
segments_of bytes (suc n) = ip_words (segment_at bytes n) ∷ segments_of bytes n

-- their number, and the segments in brackets
unfoldable pub list_parts : List ℕ → ℕ → List (List ℕ)
list_parts bytes n = (codes "segs " ++ (decimal n ++ codes " [")) ∷ (segments_of bytes n ++ (codes "]" ∷ []))

-- no key of an HMAC: the flag 0x8 is not set, or the header, which has eight bytes and this many
-- words of eight bytes, is too short for an HMAC of 40 bytes at its end, or the bytes end before
-- the key
abbrev pub has_no_key : ℕ → ℕ → ℕ → Bool
has_no_key words flags size = bit_and flags 0x8 == 0 || nat_lt words 4 || nat_lt size (words * 8 - 24)

-- the key of the HMAC at the end of a header
unfoldable pub hmac_part : ℕ → ℕ → List ℕ → List ℕ
hmac_part words flags srh =
    if has_no_key words flags (length srh) then []
    else codes "hmac " ++ digits 16 true (number_be (take 4 (drop (words * 8 - 28) srh)))

-- a `struct ipv6_sr_hdr`: 8 bytes and segments; the number of the segments is one more than the
-- index of the first
unfoldable pub srh_parts : List ℕ → List (List ℕ)
srh_parts srh =
    if nat_lt (length srh) 8 then []
    else list_parts (drop 8 srh) (slice_index srh 4 + 1)
    ++ (hmac_part (slice_index srh 1) (slice_index srh 5) srh ∷ [])

-- a mode of four bytes, and a `struct ipv6_sr_hdr`
unfoldable pub seg6_parts : List ℕ → List (List ℕ)
seg6_parts value =
    if nat_lt (length value) 4 then []
    else keyed (codes "mode") (mode_name (number_at 0 4 value)) ∷ srh_parts (drop 4 value)

-- a `struct ipv6_rpl_sr_hdr`: 8 bytes, of which the fourth is the number of the segments that are
-- left, and segments
unfoldable pub rpl_parts : List ℕ → List (List ℕ)
rpl_parts srh = if nat_lt (length srh) 8 then [] else list_parts (drop 8 srh) (slice_index srh 3)
