-- What the kernel keeps of a route that was looked up, and the lifetime of a route.
use Rattle.std.specs.Prelude.{ℕ, ℤ, ◌==◌, ◌||◌, not, false, List, [], ◌∷◌, ◌++◌, length, int_div, nat_lt, pos, Option, Some, None, codes, decimal, if◌then◌else◌}
use Rattle.std.specs.Fmt.{digits, signed_decimal}
use Rattle.std.specs.Int.Bits.{bit_and}
use Rattle.std.specs.List.{fold}
use Rattle.std.specs.Ordering.{int_eq}
use Rattle.netlink_packet_core.specs.Fields.{number_at}
use Rattle.netlink_packet_core.specs.Numbers.{signed}
use Rattle.netlink_words.specs.Text.{separated}

-- the flags of linux/in_route.h, in the order of `ip`
abbrev pub cache_flag_order : List ℕ
cache_flag_order =
    0x80000000 ∷ 0x40000000 ∷ 0x20000000 ∷ 0x10000000 ∷ 0x08000000 ∷ 0x00800000 ∷ 0x00400000
    ∷ 0x00020000 ∷ 0x04000000 ∷ 0x00040000 ∷ 0x01000000 ∷ 0x00200000 ∷ 0x00010000 ∷ 0x00080000 ∷ []

unfoldable pub cache_flag_name : ℕ → List ℕ
cache_flag_name bit =
    if bit == 0x80000000 then codes "local"
    else if bit == 0x40000000 then codes "reject"
    else if bit == 0x20000000 then codes "mc"
    else if bit == 0x10000000 then codes "brd"
    else if bit == 0x08000000 then codes "dst-nat"
    else if bit == 0x00800000 then codes "src-nat"
    else if bit == 0x00400000 then codes "masq"
    else if bit == 0x00020000 then codes "dst-direct"
    else if bit == 0x04000000 then codes "src-direct"
    else if bit == 0x00040000 then codes "redirected"
    else if bit == 0x01000000 then codes "redirect"
    else if bit == 0x00200000 then codes "fastroute"
    else if bit == 0x00010000 then codes "notify"
    else if bit == 0x00080000 then codes "proxy"
    else []

abbrev pub with_cache_flag : ℕ → List ℕ → ℕ → List ℕ
with_cache_flag flags text bit =
    if bit_and flags bit == 0 then text else separated (codes ",") text (cache_flag_name bit)

abbrev pub with_rest : ℕ → List ℕ → List ℕ
with_rest rest text =
    if rest == 0 then text else separated (codes ",") text (digits 16 false rest)

-- the names of the flags that are set
unfoldable pub named_cache_flags : ℕ → List ℕ
named_cache_flags flags = fold (with_cache_flag flags) [] cache_flag_order

unfoldable pub cache_flags : ℕ → List ℕ
cache_flags flags = with_rest (bit_and flags 0x02100000) (named_cache_flags flags)

abbrev pub cache_of : List ℕ → List ℕ
cache_of [] = codes "cache"
cache_of (b ∷ names) = codes "cache <" ++ ((b ∷ names) ++ codes ">")

-- an IPv4 route that was looked up, by its family and flags
abbrev pub cache_part : ℕ → ℕ → List ℕ
cache_part family flags =
    if not (family == 2) || bit_and flags 0x200 == 0 then [] else cache_of (cache_flags flags)

-- a lifetime in hundredths of a second
abbrev pub expires_part : ℤ → List ℕ
expires_part expires =
    if int_eq expires (pos 0) then []
    else codes "expires " ++ (signed_decimal (int_div expires (pos 100)) ++ codes "sec")

abbrev pub error_part : ℕ → List ℕ
error_part error = if error == 0 then [] else codes "error " ++ decimal error

-- the lifetime and the error in `struct rta_cacheinfo`
abbrev pub lifetime_parts : Option (List ℕ) → List (List ℕ)
lifetime_parts None = []
lifetime_parts (Some info) =
    if nat_lt (length info) 16 then []
    else expires_part (signed 4 (number_at 8 4 info)) ∷ error_part (number_at 12 4 info) ∷ []
