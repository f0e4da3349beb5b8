-- The line of an announced prefix, in the order of `ip monitor prefix`, by its payload.
use Rattle.std.specs.Prelude.{ℕ, ◌==◌, not, List, [], ◌∷◌, ◌++◌, length, nat_lt, slice_index, take, Option, Some, None, codes, decimal, if◌then◌else◌}
use Rattle.std.specs.Int.{cast_unsigned, w32}
use Rattle.std.specs.Int.Bits.{bit_and}
use Rattle.netlink_family.specs.Finding.{first_at}
use Rattle.netlink_packet_core.specs.Fields.{number_at}
use Rattle.netlink_packet_core.specs.Numbers.{signed}
use Rattle.netlink_route.specs.declared.prefixes.TheConstants.{PREFIX_ADDRESS, PREFIX_CACHEINFO}
use Rattle.netlink_names.specs.Device.{device_part}
use Rattle.netlink_names.specs.declared.device.Known.{Known}
use Rattle.netlink_words.specs.Parts.{number_part, or_empty, when, with_part, with_parts}
use Rattle.netlink_words.specs.Text.{ip_words}

-- the address, and the index of the link
abbrev pub prefix_address : List ℕ → List ℕ
prefix_address payload = or_empty (first_at 12 payload PREFIX_ADDRESS)

abbrev pub prefix_index : List ℕ → ℕ
prefix_index payload = cast_unsigned w32 (signed 4 (number_at 4 4 (take 12 payload)))

-- an address and the length of the prefix, unless the address is empty
unfoldable pub with_length : List ℕ → ℕ → List ℕ
with_length [] size = []
with_length (b ∷ address) size = codes "prefix " ++ ((b ∷ address) ++ (codes "/" ++ decimal size))

unfoldable pub prefix_part : List ℕ → ℕ → List ℕ
prefix_part address size = with_length (ip_words address) size

-- two bits for each: IF_PREFIX_* of net/if_inet6.h, and the flags of RFC 4861, 4.6.2
unfoldable pub flag_parts : ℕ → List (List ℕ)
flag_parts flags =
    when (not (bit_and flags 0x81 == 0)) (codes "onlink") ∷ when (not (bit_and flags 0x42 == 0)) (codes "autoconf") ∷ []

-- how long the prefix is valid and preferred, in seconds
unfoldable pub lifetime_parts : Option (List ℕ) → List (List ℕ)
lifetime_parts None = []
lifetime_parts (Some info) =
    if nat_lt (length info) 8 then []
    else number_part (codes "valid") (Some (number_at 4 4 info))
    ∷ number_part (codes "preferred") (Some (number_at 0 4 info)) ∷ []

-- the prefix, the link, the flags and the lifetimes
unfoldable pub prefix_line : List Known → List ℕ → List ℕ
prefix_line known payload =
    with_parts
    (with_parts
    (with_part (with_part [] (prefix_part (prefix_address payload) (slice_index (take 12 payload) 9)))
    (device_part known (codes "dev") (Some (prefix_index payload))))
    (flag_parts (slice_index (take 12 payload) 10)))
    (lifetime_parts (first_at 12 payload PREFIX_CACHEINFO))
    ++ codes "\n"
