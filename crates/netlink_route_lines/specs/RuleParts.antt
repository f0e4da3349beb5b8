-- Parts of the line of a rule.
use Rattle.std.specs.Prelude.{ℕ, ◌==◌, ◌||◌, Bool, List, [], ◌∷◌, ◌++◌, length, nat_lt, slice_index, take, Option, Some, None, codes, decimal, if◌then◌else◌}
use Rattle.std.specs.Fmt.{signed_decimal}
use Rattle.std.specs.Int.Bits.{bit_and}
use Rattle.std.specs.Option.{option_map}
use Rattle.netlink_family.specs.Finding.{first_at}
use Rattle.netlink_packet_core.specs.Fields.{number_at}
use Rattle.netlink_packet_core.specs.Numbers.{number_le, signed}
use Rattle.netlink_route.specs.declared.rules.TheConstants.{FRA_FLOW, FRA_GOTO, FRA_SUPPRESS_IFGROUP, FRA_SUPPRESS_PREFIXLEN, FRA_TABLE}
use Rattle.netlink_words.specs.Parts.{or_empty}
use Rattle.netlink_words.specs.NumberNames.{protocol_text, route_type_text, table_text}
use Rattle.netlink_words.specs.Parts.{keyed, realms_part}
use Rattle.netlink_words.specs.Text.{name_text}

-- a byte and the flags of the header
abbrev pub rule_byte : List ℕ → ℕ → ℕ
rule_byte payload at = slice_index (take 12 payload) at

abbrev pub rule_flags : List ℕ → ℕ
rule_flags payload = number_at 8 4 (take 12 payload)

-- the first attribute of a kind, as bytes, a number and a byte
abbrev pub rule_bytes : List ℕ → ℕ → List ℕ
rule_bytes payload kind = or_empty (first_at 12 payload kind)

abbrev pub rule_number : List ℕ → ℕ → Option ℕ
rule_number payload kind = option_map number_le (first_at 12 payload kind)

abbrev pub rule_small : List ℕ → ℕ → Option ℕ
rule_small payload kind = option_map (λ value. slice_index value 0) (first_at 12 payload kind)

-- a link by its name, and whether there is none
unfoldable pub link_part : List ℕ → Option (List ℕ) → Bool → List ℕ
link_part key None gone = []
link_part key (Some name) gone =
    key ++ (codes " " ++ (name_text name ++ (if gone then codes " [detached]" else [])))

-- the first and the last user of a range
unfoldable pub users_part : List ℕ → List ℕ
users_part range =
    if nat_lt (length range) 8 then []
    else codes "uidrange " ++ (decimal (number_at 0 4 range) ++ (codes "-" ++ decimal (number_at 4 4 range)))

-- the first and the last port of a range
abbrev pub port_range : List ℕ → ℕ → ℕ → List ℕ
port_range key first last =
    key ++ (codes " " ++ (decimal first
    ++ (if first == last then [] else codes "-" ++ decimal last)))

unfoldable pub ports_part : List ℕ → List ℕ → List ℕ
ports_part key range =
    if nat_lt (length range) 4 then [] else port_range key (number_at 0 2 range) (number_at 2 2 range)

-- all ones is none
unfoldable pub suppressed_part : Option ℕ → List ℕ
suppressed_part None = []
suppressed_part (Some n) =
    if n == 4294967295 then [] else codes "suppress_prefixlength " ++ signed_decimal (signed 4 n)

unfoldable pub group_text : ℕ → List ℕ
group_text n =
    if n == 4294967295 then []
    else if n == 0 then codes "suppress_ifgroup default"
    else codes "suppress_ifgroup " ++ signed_decimal (signed 4 n)

unfoldable pub group_part : Option ℕ → List ℕ
group_part None = []
group_part (Some n) = group_text n

-- the number of the table
abbrev pub table_or : Option ℕ → ℕ → ℕ
table_or None n = n
table_or (Some table) n = table

unfoldable pub rule_table : List ℕ → ℕ
rule_table payload = table_or (rule_number payload FRA_TABLE) (rule_byte payload 4)

-- the table to look in, and what of it is not used
unfoldable pub table_parts : ℕ → List ℕ → List (List ℕ)
table_parts table payload =
    keyed (codes "lookup") (table_text table)
    ∷ suppressed_part (rule_number payload FRA_SUPPRESS_PREFIXLEN)
    ∷ group_part (rule_number payload FRA_SUPPRESS_IFGROUP) ∷ []

-- the same unless the table is 0, and the realms
unfoldable pub lookup_parts : List ℕ → List (List ℕ)
lookup_parts payload =
    (if rule_table payload == 0 then [] else table_parts (rule_table payload) payload)
    ++ (realms_part (codes "realms") (codes "realms") (rule_number payload FRA_FLOW) ∷ [])

-- the rule that follows
abbrev pub target_text : Option ℕ → List ℕ
target_text None = codes "none"
target_text (Some priority) = decimal priority

unfoldable pub goto_part : ℕ → Option ℕ → List ℕ
goto_part flags target =
    codes "goto " ++ (target_text target
    ++ (if bit_and flags 0x4 == 0 then [] else codes " [unresolved]"))

-- the name of an action; none for one that looks in a table
unfoldable pub action_text : ℕ → List ℕ
action_text action =
    if action == 1 then []
    else if action == 3 then codes "nop"
    else if action == 10 then codes "masquerade"
    else route_type_text action

unfoldable pub action_part : List ℕ → List ℕ
action_part payload =
    if rule_byte payload 7 == 2
    then goto_part (rule_flags payload) (rule_number payload FRA_GOTO)
    else action_text (rule_byte payload 7)

-- who installed the rule, unless that is nobody or the kernel
unfoldable pub installer_part : Option ℕ → List ℕ
installer_part None = []
installer_part (Some n) = if n == 0 || n == 2 then [] else keyed (codes "proto") (protocol_text n)
