-- The line of the VNIs of a VXLAN link, in the order of `bridge monitor vni`, by its message type and payload.
use Rattle.std.specs.Prelude.{ℕ, ◌==◌, ◌||◌, Bool, List, [], ◌∷◌, ◌++◌, bytes_eq, take, Option, Some, None, codes, decimal, if◌then◌else◌}
use Rattle.std.specs.Option.{option_map}
use Rattle.netlink_bridge_lines.specs.Words.{front, range_text}
use Rattle.netlink_family.specs.Finding.{first_at, found_in}
use Rattle.netlink_names.specs.declared.device.Known.{Known}
use Rattle.netlink_packet_core.specs.Fields.{number_at}
use Rattle.netlink_packet_core.specs.Numbers.{number_le}
use Rattle.netlink_route.specs.declared.vni_filters.TheConstants.{VXLAN_VNIFILTER_ENTRY, VXLAN_VNIFILTER_ENTRY_END, VXLAN_VNIFILTER_ENTRY_GROUP, VXLAN_VNIFILTER_ENTRY_GROUP6, VXLAN_VNIFILTER_ENTRY_START}
use Rattle.netlink_words.specs.Parts.{or_empty, or_zero, with_parts}
use Rattle.netlink_words.specs.Text.{ip_words}

-- the first VNI and the last; 0 if there is only one
abbrev pub vni_text : ℕ → ℕ → List ℕ
vni_text first last = if last == 0 then decimal first else range_text first last

-- an address of zeros is none
abbrev pub is_zero : List ℕ → Bool
is_zero address =
    bytes_eq address (0 ∷ 0 ∷ 0 ∷ 0 ∷ [])
    || bytes_eq address (0 ∷ 0 ∷ 0 ∷ 0 ∷ 0 ∷ 0 ∷ 0 ∷ 0 ∷ 0 ∷ 0 ∷ 0 ∷ 0 ∷ 0 ∷ 0 ∷ 0 ∷ 0 ∷ [])

abbrev pub shown_address : List ℕ → List ℕ
shown_address address = if is_zero address then [] else address

-- the address of IPv4, or else that of IPv6
abbrev pub one_of : Option (List ℕ) → Option (List ℕ) → List ℕ
one_of None six = or_empty six
one_of (Some four) six = four

-- the VNIs, and the address to which their packets go
unfoldable pub vni_parts : List ℕ → List (List ℕ)
vni_parts block =
    vni_text
    (or_zero (option_map number_le (found_in block VXLAN_VNIFILTER_ENTRY_START)))
    (or_zero (option_map number_le (found_in block VXLAN_VNIFILTER_ENTRY_END)))
    ∷ ip_words (shown_address (one_of (found_in block VXLAN_VNIFILTER_ENTRY_GROUP) (found_in block VXLAN_VNIFILTER_ENTRY_GROUP6)))
    ∷ []

unfoldable pub vnis_in : Option (List ℕ) → List (List ℕ)
vnis_in None = []
vnis_in (Some block) = vni_parts block

-- the line of a message: the first entry counts
unfoldable pub vni_line : List Known → ℕ → List ℕ → List ℕ
vni_line known t payload =
    with_parts (with_parts [] (front known t (number_at 4 4 (take 8 payload))))
    (vnis_in (first_at 8 payload VXLAN_VNIFILTER_ENTRY))
    ++ codes "\n"
