-- The line of a message of traffic control, in the order of `tc monitor`, by its message type and payload.
use Rattle.std.specs.Prelude.{ℕ, ◌==◌, ◌/◌, ◌%◌, List, [], ◌∷◌, ◌++◌, codes, if◌then◌else◌}
use Rattle.netlink_names.specs.declared.device.Known.{Known}
use Rattle.netlink_traffic_lines.specs.Class.{class_parts}
use Rattle.netlink_traffic_lines.specs.Discipline.{discipline_text}
use Rattle.netlink_traffic_lines.specs.Filter.{chain_text, filter_text}
use Rattle.netlink_words.specs.Parts.{with_parts}

-- the verb, by the two lowest bits of the type
unfoldable pub verb_text : ℕ → List ℕ
verb_text t = if t % 4 == 1 then codes "deleted" else if t % 4 == 2 then codes "Get" else []

-- what the message is about, by its group of types
unfoldable pub group_text : ℕ → List ℕ
group_text group =
    if group == 9 then codes "qdisc"
    else if group == 10 then codes "class"
    else if group == 11 then codes "filter"
    else codes "chain"

unfoldable pub traffic_front : ℕ → List (List ℕ)
traffic_front t = verb_text t ∷ group_text (t / 4) ∷ []

-- a text, followed by what a message of a group has
unfoldable pub own_text : List Known → ℕ → List ℕ → List ℕ → List ℕ
own_text known group payload text =
    if group == 9 then discipline_text known payload text
    else if group == 10 then with_parts text (class_parts known payload)
    else if group == 11 then filter_text known payload text
    else chain_text known payload text

-- the line of a message
unfoldable pub traffic_line : List Known → ℕ → List ℕ → List ℕ
traffic_line known t payload = own_text known (t / 4) payload (with_parts [] (traffic_front t)) ++ codes "\n"
