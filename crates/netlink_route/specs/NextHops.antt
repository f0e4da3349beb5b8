-- The next hops of a route.
use Rattle.std.specs.Prelude.{ℕ, ◌≡◌, ◌==◌, ◌/◌, ◌%◌, length, Option, Some, None, if◌then◌else◌}
use Rattle.netlink_packet_core.specs.Numbers.{number_le, signed}
use Rattle.netlink_packet_core.specs.Steps.{unread}
use Rattle.netlink_family.specs.Iteration.{YieldsValue}
use Rattle.netlink_family.specs.Shapes.{rows_in, within}
use Rattle.netlink_family.specs.declared.attributes.Attributes.{Attributes}
use Rattle.netlink_family.specs.declared.value.Value.{Value}
use Rattle.netlink_family.specs.declared.value.Value.TheVariants.{HeaderNested}
use Rattle.netlink_route.specs.declared.next_hops.NextHop.{NextHop}

-- the next hop of an attribute whose value is an index and attributes; the kind is the flags and the
-- hops
abbrev pub hop_of : ℕ → Value → Option NextHop
hop_of word (HeaderNested header inner) =
    if length header.bytes.now == 4 then Some (record {
      flags = word % 256;
      hops = word / 256;
      ifindex = signed 4 (number_le header.bytes.now);
      attributes = inner;
    }) else None
hop_of word _ = None

abbrev pub hop_by : Option (ℕ × Value) → Option NextHop
hop_by None = None
hop_by (Some item) = hop_of item.0 item.1

-- one call of `next`: the attribute of the list that it reads, as a next hop
abbrev pub YieldsHop : Attributes → Option NextHop → Attributes → Type 0
YieldsHop before hop after =
    (item : Option (ℕ × Value))
    × YieldsValue (within (rows_in before.rows.list.now) before.block.now) before.policy (unread before.walk) item (unread after.walk)
    × (hop ≡ hop_by item)
