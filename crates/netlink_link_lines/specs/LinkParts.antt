-- The settings of a link: the parts of its line before the type of the device.
use Rattle.std.specs.Prelude.{ℕ, ◌==◌, not, List, [], ◌∷◌, slice_index, Option, Some, None, codes, decimal, if◌then◌else◌}
use Rattle.std.specs.Option.{option_map}
use Rattle.netlink_family.specs.Finding.{first_at}
use Rattle.netlink_family.specs.Strings.{until_nul}
use Rattle.netlink_packet_core.specs.Numbers.{number_le}
use Rattle.netlink_route.specs.declared.links.TheConstants.{IFLA_EVENT, IFLA_GROUP, IFLA_LINKMODE, IFLA_MASTER, IFLA_MTU, IFLA_OPERSTATE, IFLA_QDISC, IFLA_TXQLEN}
use Rattle.netlink_names.specs.Device.{device_part}
use Rattle.netlink_words.specs.NumberNames.{state_text}
use Rattle.netlink_words.specs.Parts.{keyed, number_part, string_part, when}
use Rattle.netlink_names.specs.declared.device.Known.{Known}

-- the operational state
unfoldable pub state_part : Option ℕ → List ℕ
state_part None = []
state_part (Some state) = keyed (codes "state") (state_text state)

-- IF_LINK_MODE_* of linux/if.h
unfoldable pub mode_text : ℕ → List ℕ
mode_text n =
    if n == 0 then codes "DEFAULT" else if n == 1 then codes "DORMANT" else decimal n

unfoldable pub mode_part : Option ℕ → List ℕ
mode_part None = []
mode_part (Some mode) = keyed (codes "mode") (mode_text mode)

unfoldable pub group_text : ℕ → List ℕ
group_text n = if n == 0 then codes "default" else decimal n

unfoldable pub group_part : Option ℕ → List ℕ
group_part None = []
group_part (Some group) = keyed (codes "group") (group_text group)

-- a length other than 0
unfoldable pub queue_part : Option ℕ → List ℕ
queue_part None = []
queue_part (Some n) = when (not (n == 0)) (number_part (codes "qlen") (Some n))

-- IFLA_EVENT_* of linux/if_link.h
unfoldable pub event_text : ℕ → List ℕ
event_text n =
    if n == 1 then codes "REBOOT"
    else if n == 2 then codes "FEATURE CHANGE"
    else if n == 3 then codes "BONDING FAILOVER"
    else if n == 4 then codes "NOTIFY PEERS"
    else if n == 5 then codes "RESEND IGMP"
    else if n == 6 then codes "BONDING OPTION"
    else decimal n

-- an event other than 0
unfoldable pub event_part : Option ℕ → List ℕ
event_part None = []
event_part (Some n) = when (not (n == 0)) (keyed (codes "event") (event_text n))

-- the first attribute of a kind as a number, a byte and a string
abbrev pub setting : List ℕ → ℕ → Option ℕ
setting payload kind = option_map number_le (first_at 16 payload kind)

abbrev pub setting_byte : List ℕ → ℕ → Option ℕ
setting_byte payload kind = option_map (λ value. slice_index value 0) (first_at 16 payload kind)

-- the MTU, queueing discipline, master, state, mode, group, length of the queue and event
unfoldable pub setting_parts : List Known → List ℕ → List (List ℕ)
setting_parts known payload =
    number_part (codes "mtu") (setting payload IFLA_MTU)
    ∷ string_part (codes "qdisc") (option_map until_nul (first_at 16 payload IFLA_QDISC))
    ∷ device_part known (codes "master") (setting payload IFLA_MASTER)
    ∷ state_part (setting_byte payload IFLA_OPERSTATE)
    ∷ mode_part (setting_byte payload IFLA_LINKMODE)
    ∷ group_part (setting payload IFLA_GROUP)
    ∷ queue_part (setting payload IFLA_TXQLEN)
    ∷ event_part (setting payload IFLA_EVENT) ∷ []
