-- The flags of a link by their names (IFF_* of linux/if.h).
use Rattle.std.specs.Prelude.{ℕ, ◌==◌, ◌&&◌, false, not, List, [], ◌∷◌, codes, if◌then◌else◌}
use Rattle.std.specs.Fmt.{digits}
use Rattle.std.specs.Int.Bits.{bit_and}
use Rattle.std.specs.List.{fold}
use Rattle.netlink_words.specs.Text.{separated}

-- the flags but for RUNNING (0x40), in the order of `ip`
abbrev pub flag_order : List ℕ
flag_order =
    0x8 ∷ 0x2 ∷ 0x10 ∷ 0x1000 ∷ 0x80 ∷ 0x200 ∷ 0x100 ∷ 0x400 ∷ 0x800
    ∷ 0x4 ∷ 0x8000 ∷ 0x4000 ∷ 0x2000 ∷ 0x20 ∷ 0x1 ∷ 0x10000 ∷ 0x20000 ∷ 0x40000 ∷ []

-- the name of each
unfoldable pub flag_name : ℕ → List ℕ
flag_name bit =
    if bit == 0x8 then codes "LOOPBACK"
    else if bit == 0x2 then codes "BROADCAST"
    else if bit == 0x10 then codes "POINTOPOINT"
    else if bit == 0x1000 then codes "MULTICAST"
    else if bit == 0x80 then codes "NOARP"
    else if bit == 0x200 then codes "ALLMULTI"
    else if bit == 0x100 then codes "PROMISC"
    else if bit == 0x400 then codes "MASTER"
    else if bit == 0x800 then codes "SLAVE"
    else if bit == 0x4 then codes "DEBUG"
    else if bit == 0x8000 then codes "DYNAMIC"
    else if bit == 0x4000 then codes "AUTOMEDIA"
    else if bit == 0x2000 then codes "PORTSEL"
    else if bit == 0x20 then codes "NOTRAILERS"
    else if bit == 0x1 then codes "UP"
    else if bit == 0x10000 then codes "LOWER_UP"
    else if bit == 0x20000 then codes "DORMANT"
    else if bit == 0x40000 then codes "ECHO"
    else []

-- up, and not running
abbrev pub first_flag : ℕ → List ℕ
first_flag flags =
    if not (bit_and flags 0x1 == 0) && bit_and flags 0x40 == 0 then codes "NO-CARRIER" else []

-- a text, followed by the name of a flag if that is set
abbrev pub with_flag : ℕ → List ℕ → ℕ → List ℕ
with_flag flags text bit =
    if bit_and flags bit == 0 then text else separated (codes ",") text (flag_name bit)

-- a text, followed by the names of the flags that are set
unfoldable pub named_flags : ℕ → List ℕ → List ℕ
named_flags flags text = fold (with_flag flags) text flag_order

-- a text, followed by the bits without a name
abbrev pub with_unnamed : ℕ → List ℕ → List ℕ
with_unnamed rest text =
    if rest == 0 then text else separated (codes ",") text (digits 16 false rest)

unfoldable pub flags_text : ℕ → List ℕ
flags_text flags =
    with_unnamed (bit_and flags 0xfff80000) (named_flags flags (first_flag flags))
