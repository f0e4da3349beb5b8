-- The flags and the lifetimes of an address.
use Rattle.std.specs.Prelude.{ℕ, ℤ, ◌==◌, ◌||◌, false, not, Bool, List, [], ◌∷◌, ◌++◌, length, nat_lt, Option, Some, None, codes, decimal, if◌then◌else◌}
use Rattle.std.specs.Fmt.{digits, signed_decimal}
use Rattle.std.specs.Int.Bits.{bit_and}
use Rattle.std.specs.List.{fold}
use Rattle.netlink_packet_core.specs.Fields.{number_at}
use Rattle.netlink_packet_core.specs.Numbers.{signed}
use Rattle.netlink_words.specs.Parts.{keyed, when, with_part}

-- the flags in the order of `ip`
abbrev pub flag_order : List ℕ
flag_order =
    0x1 ∷ 0x2 ∷ 0x4 ∷ 0x8 ∷ 0x10 ∷ 0x20 ∷ 0x40 ∷ 0x80 ∷ 0x100 ∷ 0x200 ∷ 0x400 ∷ 0x800 ∷ []

-- IFA_F_* of linux/if_addr.h
unfoldable pub address_flag : ℕ → ℕ → List ℕ
address_flag family bit =
    if bit == 0x1 then (if family == 10 then codes "temporary" else codes "secondary")
    else if bit == 0x2 then codes "nodad"
    else if bit == 0x4 then codes "optimistic"
    else if bit == 0x8 then codes "dadfailed"
    else if bit == 0x10 then codes "home"
    else if bit == 0x20 then codes "deprecated"
    else if bit == 0x40 then codes "tentative"
    else if bit == 0x80 then codes "dynamic"
    else if bit == 0x100 then codes "mngtmpaddr"
    else if bit == 0x200 then codes "noprefixroute"
    else if bit == 0x400 then codes "autojoin"
    else if bit == 0x800 then codes "stable-privacy"
    else []

-- a flag is set; that of permanent addresses is not
abbrev pub is_shown : ℕ → ℕ → Bool
is_shown flags bit =
    if bit == 0x80 then bit_and flags bit == 0 else not (bit_and flags bit == 0)

-- a text, followed by the name of a flag if that is shown
abbrev pub with_flag : ℕ → ℕ → List ℕ → ℕ → List ℕ
with_flag family flags text bit =
    with_part text (when (is_shown flags bit) (address_flag family bit))

-- a text, followed by the names of the flags that are shown
unfoldable pub named_flags : ℕ → ℕ → List ℕ → List ℕ
named_flags family flags text = fold (with_flag family flags) text flag_order

-- the bits without a name
unfoldable pub rest_part : ℕ → List ℕ
rest_part rest = if rest == 0 then [] else keyed (codes "flags") (digits 16 false rest)

-- a text, followed by the flags
unfoldable pub flags_text : ℕ → ℕ → List ℕ → List ℕ
flags_text family flags text =
    with_part (named_flags family flags text) (rest_part (bit_and flags 0xfffff000))

-- a time in seconds
abbrev pub seconds_text : ℕ → List ℕ
seconds_text seconds =
    if seconds == 0xffffffff then codes "forever" else decimal seconds ++ codes "sec"

-- how long an address is preferred, which is a signed number if it is deprecated
abbrev pub preferred_text : ℕ → ℕ → ℤ → List ℕ
preferred_text flags seconds number =
    if seconds == 0xffffffff || bit_and flags 0x20 == 0 then seconds_text seconds
    else signed_decimal number ++ codes "sec"

-- how long an address is valid and preferred, by its flags and its `struct ifa_cacheinfo`
unfoldable pub lifetime_parts : ℕ → Option (List ℕ) → List (List ℕ)
lifetime_parts flags None = []
lifetime_parts flags (Some info) =
    if nat_lt (length info) 16 then []
    else keyed (codes "valid_lft") (seconds_text (number_at 4 4 info))
    ∷ keyed (codes "preferred_lft") (preferred_text flags (number_at 0 4 info) (signed 4 (number_at 0 4 info))) ∷ []
