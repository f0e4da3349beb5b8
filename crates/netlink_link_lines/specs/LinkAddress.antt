-- The type of a device and its addresses.
use Rattle.std.specs.Prelude.{ℕ, ◌==◌, List, [], ◌∷◌, ◌++◌, bytes_eq, length, take, codes, if◌then◌else◌}
use Rattle.std.specs.Int.Bits.{bit_and}
use Rattle.netlink_family.specs.Finding.{first_at}
use Rattle.netlink_packet_core.specs.Fields.{number_at}
use Rattle.netlink_route.specs.declared.links.TheConstants.{IFLA_ADDRESS, IFLA_BROADCAST, IFLA_PERM_ADDRESS}
use Rattle.netlink_words.specs.Parts.{or_empty}
use Rattle.netlink_link_lines.specs.Hardware.{hardware_text}
use Rattle.netlink_words.specs.Parts.{keyed}
use Rattle.netlink_words.specs.Text.{bytes_text, ip_words}

-- the size of the IP addresses of a type of tunnel
unfoldable pub ip_size : ℕ → ℕ
ip_size layer =
    if layer == 768 then 4
    else if layer == 776 then 4
    else if layer == 778 then 4
    else if layer == 769 then 16
    else if layer == 823 then 16
    else 0

-- an address of a device
unfoldable pub link_address : ℕ → List ℕ → List ℕ
link_address layer bytes =
    if length bytes == ip_size layer then ip_words bytes else bytes_text bytes

-- the address of the peer, if there is one
abbrev pub broadcast_key : ℕ → List ℕ
broadcast_key flags = if bit_and flags 0x10 == 0 then codes "brd" else codes "peer"

-- a permanent address, if it is another one than the own address
unfoldable pub permanent_part : ℕ → List ℕ → List ℕ → List ℕ
permanent_part layer own permanent =
    if bytes_eq permanent own then [] else keyed (codes "permaddr") (link_address layer permanent)

-- the first address of a kind; empty if there is none
abbrev pub link_own : List ℕ → ℕ → List ℕ
link_own payload kind = or_empty (first_at 16 payload kind)

-- the type of the device and the flags of the link, in the header
abbrev pub layer_of : List ℕ → ℕ
layer_of payload = number_at 2 2 (take 16 payload)

abbrev pub flags_of : List ℕ → ℕ
flags_of payload = number_at 8 4 (take 16 payload)

-- the type of the device, its address, the broadcast address and the permanent address
unfoldable pub hardware_parts : List ℕ → List (List ℕ)
hardware_parts payload =
    (codes "link/" ++ hardware_text (layer_of payload))
    ∷ link_address (layer_of payload) (link_own payload IFLA_ADDRESS)
    ∷ keyed (broadcast_key (flags_of payload)) (link_address (layer_of payload) (link_own payload IFLA_BROADCAST))
    ∷ permanent_part (layer_of payload) (link_own payload IFLA_ADDRESS) (link_own payload IFLA_PERM_ADDRESS) ∷ []
