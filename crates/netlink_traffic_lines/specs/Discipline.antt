-- What a queueing discipline has.
use Rattle.std.specs.Prelude.{ℕ, ◌==◌, List, [], ◌∷◌, slice_index, Option, Some, None, codes, if◌then◌else◌}
use Rattle.std.specs.Option.{option_map}
use Rattle.netlink_family.specs.Finding.{first_at}
use Rattle.netlink_packet_core.specs.Numbers.{number_le}
use Rattle.netlink_route.specs.declared.traffic_control.TheConstants.{TCA_EGRESS_BLOCK, TCA_HW_OFFLOAD, TCA_INGRESS_BLOCK, TCA_OPTIONS}
use Rattle.netlink_names.specs.Device.{device_part}
use Rattle.netlink_names.specs.declared.device.Known.{Known}
use Rattle.netlink_traffic_lines.specs.Ids.{handle_of, handle_text, index_of, info_of, kind_of, parent_of, parent_part}
use Rattle.netlink_traffic_lines.specs.Options.{options_text}
use Rattle.netlink_traffic_lines.specs.Values.{counted}
use Rattle.netlink_words.specs.Parts.{number_part, or_zero, with_parts}
use Rattle.netlink_words.specs.Text.{name_text}

-- the parent, unless it is 0
unfoldable pub above_part : ℕ → List ℕ
above_part parent = if parent == 0 then [] else parent_part parent

-- the kind, the id, the link and the parent
unfoldable pub discipline_front : List Known → List ℕ → List (List ℕ)
discipline_front known payload =
    name_text (kind_of payload)
    ∷ handle_text (handle_of payload)
    ∷ device_part known (codes "dev") (Some (index_of payload))
    ∷ above_part (parent_of payload) ∷ []

-- how many use it, unless it is one
unfoldable pub users_part : ℕ → List ℕ
users_part users = if users == 1 then [] else number_part (codes "refcnt") (Some users)

-- whether the hardware does the work, by the number that says so
abbrev pub offload_of : List ℕ → Option ℕ
offload_of payload = option_map (λ value. slice_index value 0) (first_at 20 payload TCA_HW_OFFLOAD)

unfoldable pub offload_part : Option ℕ → List ℕ
offload_part None = []
offload_part (Some n) = if n == 0 then [] else codes "offloaded"

-- the blocks of filters at its two sides, 0 without one
abbrev pub ingress_of : List ℕ → ℕ
ingress_of payload = or_zero (option_map number_le (first_at 20 payload TCA_INGRESS_BLOCK))

abbrev pub egress_of : List ℕ → ℕ
egress_of payload = or_zero (option_map number_le (first_at 20 payload TCA_EGRESS_BLOCK))

-- how many use it, and whether the hardware does the work
unfoldable pub discipline_state : List ℕ → List (List ℕ)
discipline_state payload =
    users_part (info_of payload)
    ∷ offload_part (offload_of payload) ∷ []

unfoldable pub block_parts : ℕ → ℕ → List (List ℕ)
block_parts ingress egress =
    counted (codes "ingress_block") ingress ∷ counted (codes "egress_block") egress ∷ []

-- a text, followed by what a queueing discipline has
unfoldable pub discipline_text : List Known → List ℕ → List ℕ → List ℕ
discipline_text known payload text =
    options_text (kind_of payload) (first_at 20 payload TCA_OPTIONS)
    (with_parts
    (with_parts (with_parts text (discipline_front known payload)) (discipline_state payload))
    (block_parts (ingress_of payload) (egress_of payload)))
