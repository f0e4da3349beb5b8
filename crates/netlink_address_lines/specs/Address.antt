-- The line of an address, in the order of `ip -o addr`, by its message type and its payload.
use Rattle.std.specs.Prelude.{ℕ, List, [], ◌∷◌, ◌++◌, take, slice_index, Option, Some, None, bytes_eq, codes, decimal, if◌then◌else◌}
use Rattle.std.specs.Option.{option_map}
use Rattle.netlink_family.specs.Finding.{first_at}
use Rattle.netlink_family.specs.Strings.{until_nul}
use Rattle.netlink_packet_core.specs.Fields.{number_at}
use Rattle.netlink_packet_core.specs.Numbers.{number_le}
use Rattle.netlink_route.specs.declared.addresses.TheConstants.{IFA_ADDRESS, IFA_ANYCAST, IFA_BROADCAST, IFA_CACHEINFO, IFA_FLAGS, IFA_LABEL, IFA_LOCAL, IFA_RT_PRIORITY}
use Rattle.netlink_address_lines.specs.AddressFlags.{flags_text, lifetime_parts}
use Rattle.netlink_names.specs.Device.{device_text}
use Rattle.netlink_words.specs.NumberNames.{address_verb_text, family_text, scope_text}
use Rattle.netlink_words.specs.Parts.{keyed, number_part, or_empty, with_part, with_parts}
use Rattle.netlink_words.specs.Text.{ip_words, name_text}
use Rattle.netlink_names.specs.declared.device.Known.{Known}

abbrev pub address_header : List ℕ → List ℕ
address_header payload = take 8 payload

-- the first IP address of a kind; empty if there is none
abbrev pub address_ip : List ℕ → ℕ → List ℕ
address_ip payload kind = or_empty (first_at 8 payload kind)

-- the peer's address, if it is another one
abbrev pub peer_words : List ℕ → List ℕ → List ℕ
peer_words local [] = []
peer_words local (b ∷ far) =
    if bytes_eq (b ∷ far) local then [] else codes " peer " ++ ip_words (b ∷ far)

-- the link's own address, the peer's address, and the length of the prefix; without a local
-- address the other one is the link's own
abbrev pub own_text : List ℕ → List ℕ → ℕ → List ℕ
own_text [] [] prefix = []
own_text [] (b ∷ far) prefix = ip_words (b ∷ far) ++ (codes "/" ++ decimal prefix)
own_text (b ∷ local) far prefix =
    ip_words (b ∷ local) ++ (peer_words (b ∷ local) far ++ (codes "/" ++ decimal prefix))

-- the metric of an address; none without the text of the address
unfoldable pub metric_part : List ℕ → Option ℕ → List ℕ
metric_part [] metric = []
metric_part (b ∷ own) metric = number_part (codes "metric") metric

-- a number, or a byte
abbrev pub or_byte : Option ℕ → ℕ → ℕ
or_byte None byte = byte
or_byte (Some n) byte = n

-- the flags in the attribute, or those in the header
abbrev pub address_flags : List ℕ → ℕ
address_flags payload =
    or_byte (option_map number_le (first_at 8 payload IFA_FLAGS)) (slice_index (address_header payload) 2)

-- the addresses of the link and the peer, and the length of the prefix
abbrev pub own_of : List ℕ → List ℕ
own_of payload =
    own_text (address_ip payload IFA_LOCAL) (address_ip payload IFA_ADDRESS) (slice_index (address_header payload) 1)

-- the addresses, metric and scope
unfoldable pub place_parts : List ℕ → List (List ℕ)
place_parts payload =
    own_of payload
    ∷ metric_part (own_of payload) (option_map number_le (first_at 8 payload IFA_RT_PRIORITY))
    ∷ keyed (codes "brd") (ip_words (address_ip payload IFA_BROADCAST))
    ∷ keyed (codes "any") (ip_words (address_ip payload IFA_ANYCAST))
    ∷ keyed (codes "scope") (scope_text (slice_index (address_header payload) 3)) ∷ []

abbrev pub label_part : Option (List ℕ) → List ℕ
label_part None = []
label_part (Some label) = name_text label

unfoldable pub address_front : List Known → ℕ → List ℕ → List ℕ
address_front known t payload =
    address_verb_text t
    ++ (decimal (number_at 4 4 (address_header payload))
    ++ (codes ": "
    ++ (device_text known (number_at 4 4 (address_header payload))
    ++ (codes " " ++ family_text (slice_index (address_header payload) 0)))))

-- the verb, index, name and family; addresses, metric and scope; flags; label; lifetimes
unfoldable pub address_line : List Known → ℕ → List ℕ → List ℕ
address_line known t payload =
    with_parts
    (with_part
    (flags_text (slice_index (address_header payload) 0) (address_flags payload)
    (with_parts (address_front known t payload) (place_parts payload)))
    (label_part (option_map until_nul (first_at 8 payload IFA_LABEL))))
    (lifetime_parts (address_flags payload) (first_at 8 payload IFA_CACHEINFO))
    ++ codes "\n"
