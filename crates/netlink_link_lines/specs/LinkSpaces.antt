-- The network namespaces of a link.
use Rattle.std.specs.Prelude.{ℕ, ℤ, ◌==◌, not, List, [], ◌∷◌, ◌++◌, slice_index, Option, Some, None, codes, int_lt, pos, if◌then◌else◌}
use Rattle.std.specs.Fmt.{signed_decimal}
use Rattle.std.specs.Option.{option_map}
use Rattle.netlink_family.specs.Finding.{first_at}
use Rattle.netlink_packet_core.specs.Numbers.{number_le, signed}
use Rattle.netlink_route.specs.declared.links.TheConstants.{IFLA_LINK_NETNSID, IFLA_NEW_IFINDEX, IFLA_NEW_NETNSID, IFLA_PROTO_DOWN}
use Rattle.netlink_words.specs.Parts.{when}

-- a key and a signed number
unfoldable pub signed_part : List ℕ → Option ℤ → List ℕ
signed_part key None = []
signed_part key (Some n) = key ++ (codes " " ++ signed_decimal n)

-- the id of the network namespace of a lower link
unfoldable pub space_part : Option ℤ → List ℕ
space_part None = []
space_part (Some id) =
    if int_lt id (pos 0) then codes "link-netnsid unknown"
    else signed_part (codes "link-netnsid") (Some id)

unfoldable pub down_part : Option ℕ → List ℕ
down_part None = []
down_part (Some n) = when (not (n == 0)) (codes "protodown on")

-- the first number of a kind
abbrev pub space_id : List ℕ → ℕ → Option ℤ
space_id payload kind = option_map (λ value. signed 4 (number_le value)) (first_at 16 payload kind)

-- the namespace of the lower link, the namespace and the index that the link got, and whether its
-- protocol is down
unfoldable pub space_parts : List ℕ → List (List ℕ)
space_parts payload =
    space_part (space_id payload IFLA_LINK_NETNSID)
    ∷ signed_part (codes "new-netnsid") (space_id payload IFLA_NEW_NETNSID)
    ∷ signed_part (codes "new-ifindex") (space_id payload IFLA_NEW_IFINDEX)
    ∷ down_part (option_map (λ value. slice_index value 0) (first_at 16 payload IFLA_PROTO_DOWN)) ∷ []
