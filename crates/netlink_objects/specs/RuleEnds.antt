-- What a rule does, as members of its object.
use Rattle.std.specs.Prelude.{ℕ, ◌==◌, ◌/◌, ◌%◌, not, List, [], ◌∷◌, Option, Some, None, codes, if◌then◌else◌}
use Rattle.std.specs.Fmt.{signed_decimal}
use Rattle.std.specs.Int.Bits.{bit_and}
use Rattle.netlink_json.specs.Fields.{Field, absent, present}
use Rattle.netlink_json.specs.Json as json
use Rattle.netlink_packet_core.specs.Numbers.{signed}
use Rattle.netlink_route.specs.declared.rules.TheConstants.{FRA_FLOW, FRA_GOTO, FRA_SUPPRESS_IFGROUP, FRA_SUPPRESS_PREFIXLEN}
use Rattle.netlink_route_lines.specs.RuleParts.{rule_byte, rule_bytes, rule_flags, rule_number, rule_table}
use Rattle.netlink_words.specs.NumberNames.{route_type_text}
use Rattle.netlink_words.specs.Parts.{realm_text}
use Rattle.netlink_words.specs.Text.{ip_words}
use Rattle.netlink_objects.specs.Forms.{long_word, when_json, word_json}
use Rattle.netlink_objects.specs.RouteValues.{from_word}
use Rattle.netlink_objects.specs.Rows.{field_of}
use Rattle.netlink_objects.specs.declared.form.Form.TheVariants as form

-- the length of the prefixes that are not used; all ones is none
unfoldable pub suppressed_field : Option ℕ → Field
suppressed_field None = absent
suppressed_field (Some n) =
    if n == 4294967295 then absent else present (codes "suppress_prefixlen") (json.signed (signed 4 n))

-- the group of links whose routes are not used; all ones is none
unfoldable pub suppressed_group : ℕ → List ℕ
suppressed_group n =
    if n == 4294967295 then []
    else if n == 0 then codes "default"
    else signed_decimal (signed 4 n)

unfoldable pub group_field : Option ℕ → Field
group_field None = absent
group_field (Some n) = field_of (codes "suppress_ifgroup") (word_json (suppressed_group n))

-- the table to look in, and what of it is not used, unless the table is 0
unfoldable pub table_fields : ℕ → List ℕ → List Field
table_fields table payload =
    field_of (codes "table") (word_json (long_word form.Table table))
    ∷ suppressed_field (rule_number payload FRA_SUPPRESS_PREFIXLEN)
    ∷ group_field (rule_number payload FRA_SUPPRESS_IFGROUP) ∷ []

unfoldable pub lookup_fields : List ℕ → List Field
lookup_fields payload = if rule_table payload == 0 then [] else table_fields (rule_table payload) payload

-- the realms of a flow, the first unless it is 0
unfoldable pub realms_fields : Option ℕ → List Field
realms_fields None = []
realms_fields (Some flow) =
    field_of (codes "flow_from") (word_json (from_word (flow / 65536)))
    ∷ present (codes "flow_to") (json.text (realm_text (flow % 65536))) ∷ []

unfoldable pub flow_fields : List ℕ → List Field
flow_fields payload = realms_fields (rule_number payload FRA_FLOW)

-- the priority of the rule that follows, and whether there is none
unfoldable pub target_field : Option ℕ → Field
target_field None = present (codes "goto") (json.text (codes "none"))
target_field (Some priority) = present (codes "goto") (json.number priority)

unfoldable pub goto_fields : ℕ → Option ℕ → List Field
goto_fields flags target =
    target_field target
    ∷ field_of (codes "unresolved") (when_json (not (bit_and flags 0x4 == 0)) json.null) ∷ []

-- the address that a rule translates to; without one that of the outgoing link
unfoldable pub translation_field : List ℕ → Field
translation_field [] = present (codes "masquerade") json.null
translation_field (b ∷ ip) = present (codes "nat_gateway") (json.text (b ∷ ip))

-- an action other than `goto`; none for one that looks in a table
unfoldable pub action_field : ℕ → List ℕ → Field
action_field action gateway =
    if action == 1 then absent
    else if action == 3 then present (codes "nop") json.null
    else if action == 10 then translation_field (ip_words gateway)
    else present (codes "action") (json.text (route_type_text action))

-- the attribute 5 has the address of a translation
unfoldable pub action_fields : List ℕ → List Field
action_fields payload =
    if rule_byte payload 7 == 2 then goto_fields (rule_flags payload) (rule_number payload FRA_GOTO)
    else action_field (rule_byte payload 7) (rule_bytes payload 5) ∷ []
