-- The properties of a link: its alternative names.
use Rattle.std.specs.Prelude.{ℕ, ◌≡◌, ◌==◌, List, [], Option, Some, None, codes, if◌then◌else◌}
use Rattle.std.specs.List.{fold}
use Rattle.netlink_family.specs.Listing.{listed}
use Rattle.netlink_family.specs.Shapes.{Row, rows_in}
use Rattle.netlink_family.specs.Strings.{until_nul}
use Rattle.netlink_family.specs.Values.{value_shape}
use Rattle.netlink_family.specs.declared.block_view.BlockView.{BlockView}
use Rattle.netlink_family.specs.declared.shape.Shape.TheVariants as shape
use Rattle.netlink_family.specs.declared.value.Value.{Value}
use Rattle.netlink_packet_core.specs.Attribute.{Attribute}
use Rattle.netlink_route.specs.declared.links.TheConstants.{IFLA_ALT_IFNAME, PROPERTIES}
use Rattle.netlink_words.specs.Parts.{string_part, with_part}

-- a property that is an alternative name
unfoldable pub alternative_part : ℕ → List ℕ → List ℕ
alternative_part kind value =
    if kind == IFLA_ALT_IFNAME then string_part (codes "altname") (Some (until_nul value)) else []

abbrev pub with_alternative : List ℕ → Attribute → List ℕ
with_alternative text property = with_part text (alternative_part property.kind property.value)

-- a text, followed by the alternative names in a list of properties
unfoldable pub alternatives_text : List ℕ → Option (List ℕ) → List ℕ
alternatives_text text None = text
alternatives_text text (Some list) = fold with_alternative text (listed list)

-- a view of a list of properties, by the rows of the table of links, and a property of one
abbrev pub IsProperties : List Row → BlockView → Type 0
IsProperties rows view = (rows_in view.rows.list.now ≡ rows) × (view.policy ≡ PROPERTIES)

abbrev pub IsProperty : ℕ → Value → Type 0
IsProperty kind value = kind ≡ IFLA_ALT_IFNAME → value_shape value ≡ shape.Str
