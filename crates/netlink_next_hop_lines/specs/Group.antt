-- The members of a group of next hops (`struct nexthop_grp` of linux/nexthop.h), its type, and what a resilient group has.
use Rattle.std.specs.Prelude.{ℕ, ◌==◌, ◌+◌, ◌*◌, List, [], ◌∷◌, ◌++◌, Option, Some, None, codes, decimal, if◌then◌else◌}
use Rattle.std.specs.Option.{option_map}
use Rattle.netlink_family.specs.Finding.{first_at, found_in}
use Rattle.netlink_next_hop_lines.specs.Time.{time_text}
use Rattle.netlink_packet_core.specs.Numbers.{number_le}
use Rattle.netlink_route.specs.declared.next_hop_objects.TheConstants.{NHA_GROUP, NHA_GROUP_TYPE, NHA_RES_GROUP_BUCKETS, NHA_RES_GROUP_IDLE_TIMER, NHA_RES_GROUP_UNBALANCED_TIME, NHA_RES_GROUP_UNBALANCED_TIMER}
use Rattle.netlink_words.specs.Parts.{keyed, number_part, or_zero}
use Rattle.netlink_words.specs.Text.{separated}

-- the id of a member, by its bytes from the lowest on
abbrev pub id_of : ℕ → ℕ → ℕ → ℕ → ℕ
id_of a b c d = d * 16777216 + c * 65536 + b * 256 + a

-- a member by its id and its weight less 1; a weight of 1 is left out
abbrev pub member_text : ℕ → ℕ → List ℕ
member_text id weight = if weight == 0 then decimal id else decimal id ++ (codes "," ++ decimal (weight + 1))

-- a text, followed by a member
abbrev pub with_member : List ℕ → ℕ → ℕ → List ℕ
with_member text id weight = separated (codes "/") text (member_text id weight)

-- a text, followed by the members in bytes, of 8 bytes each
unfoldable pub with_members : List ℕ → List ℕ → List ℕ
with_members text [] = text
with_members text (a ∷ []) = text
with_members text (a ∷ b ∷ []) = text
with_members text (a ∷ b ∷ c ∷ []) = text
with_members text (a ∷ b ∷ c ∷ d ∷ []) = text
with_members text (a ∷ b ∷ c ∷ d ∷ low ∷ []) = text
with_members text (a ∷ b ∷ c ∷ d ∷ low ∷ high ∷ []) = text
with_members text (a ∷ b ∷ c ∷ d ∷ low ∷ high ∷ e ∷ []) = text
with_members text (a ∷ b ∷ c ∷ d ∷ low ∷ high ∷ e ∷ f ∷ rest) =
    with_members (with_member text (id_of a b c d) (high * 256 + low)) rest

unfoldable pub members_text : List ℕ → List ℕ
members_text bytes = with_members [] bytes

unfoldable pub group_part : Option (List ℕ) → List ℕ
group_part None = []
group_part (Some group) = keyed (codes "group") (members_text group)

-- NEXTHOP_GRP_TYPE_* of linux/nexthop.h
unfoldable pub type_part : Option ℕ → List ℕ
type_part None = []
type_part (Some n) =
    if n == 0 then []
    else if n == 1 then keyed (codes "type") (codes "resilient")
    else keyed (codes "type") (decimal n)

unfoldable pub group_parts : List ℕ → List (List ℕ)
group_parts payload =
    group_part (first_at 8 payload NHA_GROUP)
    ∷ type_part (option_map number_le (first_at 8 payload NHA_GROUP_TYPE)) ∷ []

-- a number of a kind, or 0
abbrev pub number_in : List ℕ → ℕ → ℕ
number_in block kind = or_zero (option_map number_le (found_in block kind))

-- the number of buckets and the times of a resilient group
unfoldable pub resilience_parts : List ℕ → List (List ℕ)
resilience_parts block =
    number_part (codes "buckets") (Some (number_in block NHA_RES_GROUP_BUCKETS))
    ∷ keyed (codes "idle_timer") (time_text (number_in block NHA_RES_GROUP_IDLE_TIMER))
    ∷ keyed (codes "unbalanced_timer") (time_text (number_in block NHA_RES_GROUP_UNBALANCED_TIMER))
    ∷ keyed (codes "unbalanced_time") (time_text (number_in block NHA_RES_GROUP_UNBALANCED_TIME)) ∷ []

unfoldable pub resilience_in : Option (List ℕ) → List (List ℕ)
resilience_in None = []
resilience_in (Some block) = resilience_parts block
