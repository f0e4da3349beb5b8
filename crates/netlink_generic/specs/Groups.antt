-- The multicast groups of a family.
use Rattle.std.specs.Prelude.{ℕ, ◌≡◌, List, [], Option, Some, None}
use Rattle.std.specs.Option.{option_map}
use denote.Ref.{Bor}
use Rattle.netlink_packet_core.specs.Attribute.{Attribute}
use Rattle.netlink_packet_core.specs.Numbers.{number_le}
use Rattle.netlink_packet_core.specs.Walk.{Starts}
use Rattle.netlink_family.specs.Finding.{first_at, found_in}
use Rattle.netlink_family.specs.Strings.{until_nul}
use Rattle.netlink_generic.specs.declared.controller.TheConstants.{CTRL_ATTR_MCAST_GROUPS, CTRL_ATTR_MCAST_GRP_ID, CTRL_ATTR_MCAST_GRP_NAME, GENL_HDRLEN}

-- the bytes, or none
abbrev pub or_empty : Option (List ℕ) → List ℕ
or_empty None = []
or_empty (Some bytes) = bytes

-- the array of multicast groups in a payload, empty if there is none
abbrev pub groups_in : List ℕ → List ℕ
groups_in payload = or_empty (first_at GENL_HDRLEN payload CTRL_ATTR_MCAST_GROUPS)

-- the name and the id in the attributes of a group
abbrev pub group_name : List ℕ → Option (List ℕ)
group_name group = option_map until_nul (found_in group CTRL_ATTR_MCAST_GRP_NAME)

abbrev pub group_id : List ℕ → Option ℕ
group_id group = option_map number_le (found_in group CTRL_ATTR_MCAST_GRP_ID)

-- one call of `next` at `bytes`: the name and the id of the array's next element; `rest` is what is
-- still unread
abbrev pub YieldsGroup : List ℕ → Option (Option (Bor (List ℕ)) × Option ℕ) → List ℕ → Type 0
YieldsGroup bytes None rest = (bytes ≡ []) × (rest ≡ [])
YieldsGroup bytes (Some item) rest =
    (a : Attribute) × Starts bytes a rest
    × (option_map (λ name. name.now) item.0 ≡ group_name a.value) × (item.1 ≡ group_id a.value)
