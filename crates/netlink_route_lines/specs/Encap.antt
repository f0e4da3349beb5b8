-- The encapsulation of a route and of a next hop (linux/lwtunnel.h, linux/mpls_iptunnel.h).
use Rattle.std.specs.Prelude.{ℕ, ◌==◌, ◌≡◌, ◌||◌, Bool, not, List, [], ◌∷◌, ◌++◌, Option, Some, None, codes, if◌then◌else◌}
use Rattle.std.specs.Int.Bits.{bit_and}
use Rattle.std.specs.Option.{option_map}
use Rattle.netlink_family.specs.Finding.{found_in, shape_at}
use Rattle.netlink_family.specs.Shapes.{Row, rows_in}
use Rattle.netlink_family.specs.declared.block_view.BlockView.{BlockView}
use Rattle.netlink_family.specs.declared.shape.Shape.TheVariants.{Be16, Be64, U8}
use Rattle.netlink_packet_core.specs.Numbers.{number_be}
use Rattle.netlink_route.specs.declared.encapsulations.TheConstants.{BPF, ILA, IOAM6, IP, IP6, LWTUNNEL_IP_DST, LWTUNNEL_IP_FLAGS, LWTUNNEL_IP_ID, LWTUNNEL_IP_SRC, LWTUNNEL_IP_TOS, LWTUNNEL_IP_TTL, MPLS, MPLS_IPTUNNEL_DST, MPLS_IPTUNNEL_TTL, RPL, RPL_IPTUNNEL_SRH, SEG6, SEG6_IPTUNNEL_SRH, SEG6_LOCAL, XFRM}
use Rattle.netlink_words.specs.Parts.{keyed, number_part, when, with_parts}
use Rattle.netlink_words.specs.Text.{ip_words}
use Rattle.netlink_route_lines.specs.Ila.{ila_parts}
use Rattle.netlink_route_lines.specs.Ioam6.{ioam6_parts}
use Rattle.netlink_route_lines.specs.Mpls.{labels_text}
use Rattle.netlink_route_lines.specs.Program.{bpf_parts}
use Rattle.netlink_route_lines.specs.Seg6.{rpl_parts, seg6_parts}
use Rattle.netlink_route_lines.specs.Seg6Local.{local_parts}
use Rattle.netlink_route_lines.specs.Values.{byte_of, value_of}
use Rattle.netlink_route_lines.specs.Xfrm.{xfrm_parts}
use Rattle.netlink_names.specs.declared.device.Known.{Known}

-- LWTUNNEL_ENCAP_* of linux/lwtunnel.h
unfoldable pub encap_name : ℕ → List ℕ
encap_name n =
    if n == 1 then codes "mpls"
    else if n == 2 then codes "ip"
    else if n == 3 then codes "ila"
    else if n == 4 then codes "ip6"
    else if n == 5 then codes "seg6"
    else if n == 6 then codes "bpf"
    else if n == 7 then codes "seg6local"
    else if n == 8 then codes "rpl"
    else if n == 9 then codes "ioam6"
    else if n == 10 then codes "xfrm"
    else codes "unknown"

-- the labels of MPLS and the time to live
unfoldable pub mpls_parts : List ℕ → List (List ℕ)
mpls_parts block =
    labels_text (value_of block MPLS_IPTUNNEL_DST) ∷ number_part (codes "ttl") (byte_of block MPLS_IPTUNNEL_TTL) ∷ []

-- the id of a tunnel, its source and its destination; a tunnel of IPv6 has the kinds of one of IPv4
unfoldable pub tunnel_ends : List ℕ → List (List ℕ)
tunnel_ends block =
    number_part (codes "id") (option_map number_be (found_in block LWTUNNEL_IP_ID))
    ∷ keyed (codes "src") (ip_words (value_of block LWTUNNEL_IP_SRC))
    ∷ keyed (codes "dst") (ip_words (value_of block LWTUNNEL_IP_DST)) ∷ []

-- the flags of a tunnel
unfoldable pub tunnel_flags : Option ℕ → List (List ℕ)
tunnel_flags None = []
tunnel_flags (Some flags) =
    when (not (bit_and flags 0x4 == 0)) (codes "key")
    ∷ when (not (bit_and flags 0x1 == 0)) (codes "csum")
    ∷ when (not (bit_and flags 0x8 == 0)) (codes "seq") ∷ []

-- the hop limit of a tunnel and its type of service, each with its key, and the flags
unfoldable pub tunnel_rest : List ℕ → List ℕ → List ℕ → List (List ℕ)
tunnel_rest limit service block =
    number_part limit (byte_of block LWTUNNEL_IP_TTL)
    ∷ number_part service (byte_of block LWTUNNEL_IP_TOS)
    ∷ tunnel_flags (option_map number_be (found_in block LWTUNNEL_IP_FLAGS))

-- a type with a name, and so with values that are known here
unfoldable pub has_values : ℕ → Bool
has_values kind =
    kind == 1 || kind == 2 || kind == 3 || kind == 4 || kind == 5
    || kind == 6 || kind == 7 || kind == 8 || kind == 9 || kind == 10

-- what belongs to a type; nothing for other types
unfoldable pub encap_values : List Known → ℕ → List ℕ → List (List ℕ)
encap_values known kind block =
    if kind == 1 then mpls_parts block
    else if kind == 2 then tunnel_ends block ++ tunnel_rest (codes "ttl") (codes "tos") block
    else if kind == 3 then ila_parts block
    else if kind == 4 then tunnel_ends block ++ tunnel_rest (codes "hoplimit") (codes "tc") block
    else if kind == 5 then seg6_parts (value_of block SEG6_IPTUNNEL_SRH)
    else if kind == 6 then bpf_parts block
    else if kind == 7 then local_parts known block
    else if kind == 8 then rpl_parts (value_of block RPL_IPTUNNEL_SRH)
    else if kind == 9 then ioam6_parts block
    else if kind == 10 then xfrm_parts known block
    else []

-- the same for a value that may be missing
unfoldable pub found_values : List Known → ℕ → Option (List ℕ) → List (List ℕ)
found_values known kind None = []
found_values known kind (Some block) = encap_values known kind block

-- a value, if its type has a name
unfoldable pub nest_value : ℕ → Option (List ℕ) → Option (List ℕ)
nest_value kind found = if has_values kind then found else None

-- the name of the type and what belongs to it, if there are both a type and a value
unfoldable pub encap_part : List Known → Option ℕ → Option (List ℕ) → List ℕ
encap_part known None value = []
encap_part known (Some kind) None = []
encap_part known (Some kind) (Some block) =
    with_parts (codes "encap " ++ encap_name kind) (found_values known kind (nest_value kind (Some block)))

-- the policy of the values of a type, by the table of routes
abbrev pub policy_of : ℕ → Option ℕ
policy_of kind =
    if kind == 1 then Some MPLS
    else if kind == 2 then Some IP
    else if kind == 3 then Some ILA
    else if kind == 4 then Some IP6
    else if kind == 5 then Some SEG6
    else if kind == 6 then Some BPF
    else if kind == 7 then Some SEG6_LOCAL
    else if kind == 8 then Some RPL
    else if kind == 9 then Some IOAM6
    else if kind == 10 then Some XFRM
    else None

-- a view of the values of a type, by the rows of that table
abbrev pub IsEncap : List Row → ℕ → BlockView → Type 0
IsEncap rows kind view = (rows_in view.rows.list.now ≡ rows) × (policy_of kind ≡ Some view.policy)

-- a view of values of MPLS, and of those of a tunnel
abbrev pub IsMpls : BlockView → Type 0
IsMpls view = shape_at view MPLS_IPTUNNEL_TTL ≡ U8

abbrev pub IsTunnel : BlockView → Type 0
IsTunnel view =
    (shape_at view LWTUNNEL_IP_ID ≡ Be64) × (shape_at view LWTUNNEL_IP_TTL ≡ U8) × (shape_at view LWTUNNEL_IP_TOS ≡ U8)
    × (shape_at view LWTUNNEL_IP_FLAGS ≡ Be16)
