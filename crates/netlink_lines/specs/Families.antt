-- The address families of messages (linux/socket.h, linux/rtnetlink.h).
use Rattle.std.specs.Prelude.{ℕ, ◌==◌, ◌&&◌, not, Bool, List, [], ◌∷◌, length, nat_le, slice_index}
use Rattle.std.specs.List.{list_any}

-- AF_UNSPEC, AF_INET, AF_BRIDGE, AF_INET6, AF_MPLS, RTNL_FAMILY_IPMR and RTNL_FAMILY_IP6MR
abbrev pub described : List ℕ
described = 0 ∷ 2 ∷ 7 ∷ 10 ∷ 28 ∷ 128 ∷ 129 ∷ []

-- the address family in a payload, its first byte; 0 without one
abbrev pub family_of : List ℕ → ℕ
family_of [] = 0
family_of (family ∷ rest) = family

-- a message of this type is about an address, a route or a neighbour, and the first byte of its payload is another
-- family
abbrev pub is_foreign : ℕ → List ℕ → Bool
is_foreign t payload =
    not (length payload == 0)
    && ((nat_le 20 t && nat_le t 30) && not (list_any (λ one. one == slice_index payload 0) described))
