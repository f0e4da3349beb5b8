-- The line of a message about actions of traffic control, by its message type and payload.
use Rattle.std.specs.Prelude.{ℕ, List, [], ◌∷◌, ◌++◌, Option, Some, None, codes}
use Rattle.std.specs.Option.{option_map}
use Rattle.netlink_family.specs.Finding.{first_at}
use Rattle.netlink_family.specs.Strings.{until_nul}
use Rattle.netlink_packet_core.specs.Numbers.{number_le}
use Rattle.netlink_route.specs.declared.traffic_actions.TheConstants.{TCA_ACT_INDEX, TCA_ACT_KIND, TCA_ROOT_COUNT, TCA_ROOT_TAB}
use Rattle.netlink_traffic_lines.specs.Traffic.{verb_text}
use Rattle.netlink_traffic_lines.specs.Values.{number_in, value_in}
use Rattle.netlink_words.specs.Parts.{keyed, number_part, or_empty, or_zero, with_parts}
use Rattle.netlink_words.specs.Text.{name_text}

-- the first action of a list, in which they are numbered from 0 in a dump and else from 1; empty if there is none
unfoldable pub first_or : Option (List ℕ) → Option (List ℕ) → List ℕ
first_or None second = or_empty second
first_or (Some action) second = action

abbrev pub action_in : List ℕ → List ℕ
action_in list = first_or (value_in list 0) (value_in list 1)

-- how many there are
abbrev pub count_of : List ℕ → ℕ
count_of payload = or_zero (option_map number_le (first_at 4 payload TCA_ROOT_COUNT))

abbrev pub list_of : List ℕ → List ℕ
list_of payload = or_empty (first_at 4 payload TCA_ROOT_TAB)

-- the kind of an action; empty if it is missing
abbrev pub kind_in : List ℕ → List ℕ
kind_in action = until_nul (or_empty (value_in action TCA_ACT_KIND))

-- the kind and the index of an action
unfoldable pub action_parts : List ℕ → List (List ℕ)
action_parts action =
    keyed (codes "action") (name_text (kind_in action))
    ∷ number_part (codes "index") (number_in action TCA_ACT_INDEX) ∷ []

-- the verb, and how many there are
unfoldable pub action_front : ℕ → List ℕ → List (List ℕ)
action_front t payload = verb_text t ∷ number_part (codes "total acts") (Some (count_of payload)) ∷ []

-- the line of a message
unfoldable pub action_line : ℕ → List ℕ → List ℕ
action_line t payload =
    with_parts (with_parts [] (action_front t payload)) (action_parts (action_in (list_of payload))) ++ codes "\n"
