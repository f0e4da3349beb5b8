-- Encapsulation by ILA, Identifier Locator Addressing (linux/ila.h).
use Rattle.std.specs.Prelude.{ℕ, ◌==◌, ◌≡◌, ◌/◌, ◌%◌, List, [], ◌∷◌, ◌++◌, false, Option, Some, None, codes, if◌then◌else◌}
use Rattle.std.specs.Fmt.{digits}
use Rattle.std.specs.Option.{option_map}
use Rattle.netlink_family.specs.Finding.{found_in, shape_at}
use Rattle.netlink_family.specs.declared.block_view.BlockView.{BlockView}
use Rattle.netlink_family.specs.declared.shape.Shape.TheVariants.{Be64, U8}
use Rattle.netlink_packet_core.specs.Numbers.{number_be}
use Rattle.netlink_route.specs.declared.encapsulations.TheConstants.{ILA_ATTR_CSUM_MODE, ILA_ATTR_HOOK_TYPE, ILA_ATTR_IDENT_TYPE, ILA_ATTR_LOCATOR}
use Rattle.netlink_words.specs.Parts.{keyed}
use Rattle.netlink_route_lines.specs.Values.{byte_of}

-- ILA_CSUM_* of linux/ila.h
unfoldable pub checksum_name : ℕ → List ℕ
checksum_name n =
    if n == 0 then codes "adj-transport"
    else if n == 1 then codes "neutral-map"
    else if n == 2 then codes "no-action"
    else if n == 3 then codes "neutral-map-auto"
    else codes "unknown"

-- ILA_ATYPE_* of linux/ila.h
unfoldable pub identifier_name : ℕ → List ℕ
identifier_name n =
    if n == 0 then codes "iid"
    else if n == 1 then codes "luid"
    else if n == 2 then codes "virt-v4"
    else if n == 3 then codes "virt-uni-v6"
    else if n == 4 then codes "virt-multi-v6"
    else if n == 5 then codes "nonlocal-addr"
    else if n == 32 then codes "use-format"
    else codes "unknown"

-- ILA_HOOK_ROUTE_* of linux/ila.h
unfoldable pub hook_name : ℕ → List ℕ
hook_name n = if n == 0 then codes "output" else if n == 1 then codes "input" else codes "unknown"

-- a locator, 64 bits as four numbers
unfoldable pub locator_text : ℕ → List ℕ
locator_text n =
    digits 16 false (n / 281474976710656)
    ++ (codes ":" ++ (digits 16 false (n / 4294967296 % 65536)
    ++ (codes ":" ++ (digits 16 false (n / 65536 % 65536) ++ (codes ":" ++ digits 16 false (n % 65536))))))

unfoldable pub locator_part : Option ℕ → List ℕ
locator_part None = []
locator_part (Some n) = locator_text n

-- each of these numbers with its key and its name
unfoldable pub checksum_part : Option ℕ → List ℕ
checksum_part None = []
checksum_part (Some n) = keyed (codes "csum-mode") (checksum_name n)

unfoldable pub identifier_part : Option ℕ → List ℕ
identifier_part None = []
identifier_part (Some n) = keyed (codes "ident-type") (identifier_name n)

unfoldable pub hook_part : Option ℕ → List ℕ
hook_part None = []
hook_part (Some n) = keyed (codes "hook-type") (hook_name n)

-- the locator, how the checksum stays right, the type of the identifier, and the place of the hook
unfoldable pub ila_parts : List ℕ → List (List ℕ)
ila_parts block =
    locator_part (option_map number_be (found_in block ILA_ATTR_LOCATOR))
    ∷ checksum_part (byte_of block ILA_ATTR_CSUM_MODE)
    ∷ identifier_part (byte_of block ILA_ATTR_IDENT_TYPE)
    ∷ hook_part (byte_of block ILA_ATTR_HOOK_TYPE) ∷ []

-- a view of the values of this type
abbrev pub IsIla : BlockView → Type 0
IsIla view =
    (shape_at view ILA_ATTR_LOCATOR ≡ Be64) × (shape_at view ILA_ATTR_CSUM_MODE ≡ U8)
    × (shape_at view ILA_ATTR_IDENT_TYPE ≡ U8) × (shape_at view ILA_ATTR_HOOK_TYPE ≡ U8)
