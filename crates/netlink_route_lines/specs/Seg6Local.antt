-- Routes to segments of this host (linux/seg6_local.h).
use Rattle.std.specs.Prelude.{ℕ, ◌==◌, ◌≡◌, not, Bool, List, [], ◌∷◌, ◌++◌, Option, Some, None, codes, if◌then◌else◌}
use Rattle.std.specs.Int.Bits.{bit_and}
use Rattle.netlink_family.specs.Finding.{found_in, shape_at}
use Rattle.netlink_family.specs.Shapes.{Row, rows_in}
use Rattle.netlink_family.specs.declared.block_view.BlockView.{BlockView}
use Rattle.netlink_family.specs.declared.shape.Shape.TheVariants.{U32, U8}
use Rattle.netlink_names.specs.Device.{device_part}
use Rattle.netlink_names.specs.declared.device.Known.{Known}
use Rattle.netlink_route.specs.declared.encapsulations.TheConstants.{SEG6_LOCAL, SEG6_LOCAL_ACTION, SEG6_LOCAL_BPF, SEG6_LOCAL_FLAVORS, SEG6_LOCAL_FLV_LCBLOCK_BITS, SEG6_LOCAL_FLV_LCNODE_FN_BITS, SEG6_LOCAL_FLV_OPERATION, SEG6_LOCAL_IIF, SEG6_LOCAL_NH4, SEG6_LOCAL_NH6, SEG6_LOCAL_OIF, SEG6_LOCAL_SRH, SEG6_LOCAL_TABLE, SEG6_LOCAL_VRFTABLE}
use Rattle.netlink_words.specs.NumberNames.{table_text}
use Rattle.netlink_words.specs.Parts.{keyed, number_part}
use Rattle.netlink_words.specs.Text.{ip_words, separated}
use Rattle.netlink_route_lines.specs.Program.{found_program}
use Rattle.netlink_route_lines.specs.Seg6.{srh_parts}
use Rattle.netlink_route_lines.specs.Values.{byte_of, number_of, value_of}

-- SEG6_LOCAL_ACTION_* of linux/seg6_local.h
unfoldable pub action_name : ℕ → List ℕ
action_name n =
    if n == 0 then codes "<unknown>"
    else if n == 1 then codes "End"
    else if n == 2 then codes "End.X"
    else if n == 3 then codes "End.T"
    else if n == 4 then codes "End.DX2"
    else if n == 5 then codes "End.DX6"
    else if n == 6 then codes "End.DX4"
    else if n == 7 then codes "End.DT6"
    else if n == 8 then codes "End.DT4"
    else if n == 9 then codes "End.B6"
    else if n == 10 then codes "End.B6.Encaps"
    else if n == 11 then codes "End.BM"
    else if n == 12 then codes "End.S"
    else if n == 13 then codes "End.AS"
    else if n == 14 then codes "End.AM"
    else if n == 15 then codes "End.BPF"
    else if n == 16 then codes "End.DT46"
    else codes "<invalid>"

-- a table after a key
unfoldable pub named_table : List ℕ → Option ℕ → List ℕ
named_table key None = []
named_table key (Some n) = keyed key (table_text n)

unfoldable pub table_parts : List ℕ → List (List ℕ)
table_parts block =
    named_table (codes "table") (number_of block SEG6_LOCAL_TABLE)
    ∷ named_table (codes "vrftable") (number_of block SEG6_LOCAL_VRFTABLE) ∷ []

-- the next hops and the links
unfoldable pub way_parts : List Known → List ℕ → List (List ℕ)
way_parts known block =
    keyed (codes "nh4") (ip_words (value_of block SEG6_LOCAL_NH4))
    ∷ keyed (codes "nh6") (ip_words (value_of block SEG6_LOCAL_NH6))
    ∷ device_part known (codes "iif") (number_of block SEG6_LOCAL_IIF)
    ∷ device_part known (codes "oif") (number_of block SEG6_LOCAL_OIF) ∷ []

-- names of flavors, followed by another one if the flavor is set
abbrev pub with_flavor : List ℕ → Bool → List ℕ → List ℕ
with_flavor names holds name = if holds then separated (codes ",") names name else names

-- SEG6_LOCAL_FLV_OP_* of linux/seg6_local.h, as bits
unfoldable pub flavor_names : ℕ → List ℕ
flavor_names n =
    with_flavor
    (with_flavor
    (with_flavor (with_flavor [] (not (bit_and n 0x2 == 0)) (codes "psp")) (not (bit_and n 0x4 == 0)) (codes "usp"))
    (not (bit_and n 0x8 == 0)) (codes "usd"))
    (not (bit_and n 0x10 == 0)) (codes "next-csid")

-- the key is there even if no flavor has a name
unfoldable pub operation_parts : Option ℕ → List (List ℕ)
operation_parts None = []
operation_parts (Some n) = codes "flavors" ∷ flavor_names n ∷ []

unfoldable pub flavor_parts : List ℕ → List (List ℕ)
flavor_parts block =
    operation_parts (number_of block SEG6_LOCAL_FLV_OPERATION)
    ++ (number_part (codes "lblen") (byte_of block SEG6_LOCAL_FLV_LCBLOCK_BITS)
    ∷ number_part (codes "nflen") (byte_of block SEG6_LOCAL_FLV_LCNODE_FN_BITS) ∷ [])

unfoldable pub found_flavors : Option (List ℕ) → List (List ℕ)
found_flavors None = []
found_flavors (Some block) = flavor_parts block

-- what follows the action
unfoldable pub rest_parts : List Known → List ℕ → List (List ℕ)
rest_parts known block =
    srh_parts (value_of block SEG6_LOCAL_SRH)
    ++ (table_parts block
    ++ (way_parts known block
    ++ (found_program (codes "endpoint") (found_in block SEG6_LOCAL_BPF)
    ++ found_flavors (found_in block SEG6_LOCAL_FLAVORS))))

-- the action and what follows it; nothing without an action
unfoldable pub action_parts : List Known → List ℕ → Option ℕ → List (List ℕ)
action_parts known block None = []
action_parts known block (Some action) = keyed (codes "action") (action_name action) ∷ rest_parts known block

abbrev pub local_parts : List Known → List ℕ → List (List ℕ)
local_parts known block = action_parts known block (number_of block SEG6_LOCAL_ACTION)

-- a view of the values of this type, by the rows of the table of routes; of its tables, its links
-- and its flavors
abbrev pub IsLocal : List Row → BlockView → Type 0
IsLocal rows view = (rows_in view.rows.list.now ≡ rows) × (view.policy ≡ SEG6_LOCAL)

abbrev pub HasTables : BlockView → Type 0
HasTables view = (shape_at view SEG6_LOCAL_TABLE ≡ U32) × (shape_at view SEG6_LOCAL_VRFTABLE ≡ U32)

abbrev pub HasLinks : BlockView → Type 0
HasLinks view = (shape_at view SEG6_LOCAL_IIF ≡ U32) × (shape_at view SEG6_LOCAL_OIF ≡ U32)

abbrev pub HasFlavors : BlockView → Type 0
HasFlavors view =
    (shape_at view SEG6_LOCAL_FLV_OPERATION ≡ U32) × (shape_at view SEG6_LOCAL_FLV_LCBLOCK_BITS ≡ U8)
    × (shape_at view SEG6_LOCAL_FLV_LCNODE_FN_BITS ≡ U8)
