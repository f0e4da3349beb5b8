-- A group of next hops that have an id.
use Rattle.std.specs.Prelude.{ℕ, ◌+◌, ◌==◌, List, [], ◌∷◌, Option, Some, None, codes, decimal, if◌then◌else◌}
use Rattle.netlink_family.specs.Finding.{found_in}
use Rattle.netlink_json.specs.Fields.{Field, items_of, object_of, present}
use Rattle.netlink_json.specs.Json as json
use Rattle.netlink_json.specs.Json.{Json}
use Rattle.netlink_objects.specs.Forms.{number_of, word_json}
use Rattle.netlink_objects.specs.Rows.{field_of}
use Rattle.netlink_packet_core.specs.Fields.{number_at}
use Rattle.netlink_route.specs.declared.next_hop_objects.TheConstants.{NHA_RES_GROUP_BUCKETS, NHA_RES_GROUP_IDLE_TIMER, NHA_RES_GROUP_UNBALANCED_TIME, NHA_RES_GROUP_UNBALANCED_TIMER}
use Rattle.netlink_words.specs.Parts.{or_zero}

-- ---- members

-- a member by its id and its weight less 1; without the weight if that is 1
abbrev pub weight_json : ℕ → Option Json
weight_json less = if less == 0 then None else Some (json.number (less + 1))

abbrev pub member_fields : ℕ → ℕ → List Field
member_fields id less =
    present (codes "id") (json.number id) ∷ field_of (codes "weight") (weight_json less) ∷ []

-- the member at the start of bytes, a `struct nexthop_grp` of 8 bytes: the id, and the weight in two bytes
abbrev pub member_json : List ℕ → Json
member_json group = object_of (member_fields (number_at 0 4 group) (number_at 4 2 group))

-- the members, one after another
unfoldable pub group_items : List ℕ → List Json
group_items [] = []
group_items (a ∷ []) = []
group_items (a ∷ b ∷ []) = []
group_items (a ∷ b ∷ c ∷ []) = []
group_items (a ∷ b ∷ c ∷ d ∷ []) = []
group_items (a ∷ b ∷ c ∷ d ∷ e ∷ []) = []
group_items (a ∷ b ∷ c ∷ d ∷ e ∷ f ∷ []) = []
group_items (a ∷ b ∷ c ∷ d ∷ e ∷ f ∷ g ∷ []) = []
group_items (a ∷ b ∷ c ∷ d ∷ e ∷ f ∷ g ∷ h ∷ rest) =
    member_json (a ∷ b ∷ c ∷ d ∷ e ∷ f ∷ g ∷ h ∷ rest) ∷ group_items rest

abbrev pub members_json : List ℕ → Json
members_json group = json.array (items_of (group_items group))

-- a group, unless it has no bytes
abbrev pub group_json : List ℕ → Option Json
group_json [] = None
group_json (b ∷ group) = Some (members_json (b ∷ group))

-- ---- the type

-- NEXTHOP_GRP_TYPE_* of linux/nexthop.h, except the first one
abbrev pub type_word : ℕ → List ℕ
type_word n = if n == 0 then [] else if n == 1 then codes "resilient" else decimal n

abbrev pub type_json : Option ℕ → Option Json
type_json None = None
type_json (Some n) = word_json (type_word n)

-- ---- what a resilient group has

-- a number; 0 if there is none
abbrev pub number_in : Option (List ℕ) → ℕ
number_in None = 0
number_in (Some value) = or_zero (number_of value)

-- how long a group may be unbalanced, and how long it is
abbrev pub unbalanced_fields : List ℕ → List Field
unbalanced_fields block =
    present (codes "unbalanced_timer") (json.hundredths (number_in (found_in block NHA_RES_GROUP_UNBALANCED_TIMER)))
    ∷ present (codes "unbalanced_time") (json.hundredths (number_in (found_in block NHA_RES_GROUP_UNBALANCED_TIME))) ∷ []

-- the number of buckets, and times
abbrev pub resilient_fields : List ℕ → List Field
resilient_fields block =
    present (codes "buckets") (json.number (number_in (found_in block NHA_RES_GROUP_BUCKETS)))
    ∷ present (codes "idle_timer") (json.hundredths (number_in (found_in block NHA_RES_GROUP_IDLE_TIMER)))
    ∷ unbalanced_fields block

abbrev pub resilient_json : Option (List ℕ) → Option Json
resilient_json None = None
resilient_json (Some block) = Some (object_of (resilient_fields block))
