use Rattle.std.proofs.Common.{◌≡◌, ◌-◌, [], rules, true, drop, length, take}
use Rattle.netlink_packet_core.specs.Steps.{unread}
use Rattle.netlink_shapes.specs.Choices.{none_chosen}
use Rattle.netlink_shapes.specs.Shapes.{has_type, rows_in, within}
use Rattle.netlink_shapes.specs.Short.{is_short}
use Rattle.netlink_family.proofs.Payloads.{short_good}
use Rattle.netlink_family.proofs.checked.CheckedAttributes.new.Goals as goal

pub returns-then-is_short-clause-later : goal.returns-then-is_short-clause-later
returns-then-is_short-clause-later g c =
    let t = c.args.message_type in
    let own : has_type g.F.Table.types t ≡ true = search rules in
    let short : is_short (g.F.Table.short t) (g.F.Table.header_len t) c.args.payload.now ≡ true = search rules in
    let none : unread c.new.result ≡ [] = search rules in
    short_good (has_type g.F.Table.types t) (g.F.Table.short t) (g.F.Table.header_len t) (g.F.Table.rows t) t c.args.payload.now
    [] (unread c.new.result) own short none

pub invariant_of-result-clause-chosen : goal.invariant_of-result-clause-chosen
invariant_of-result-clause-chosen g c = none_chosen (within (rows_in c.rows_of-rows.result.list.now) []) 0

pub invariant_of-result-2-clause-chosen : goal.invariant_of-result-2-clause-chosen
invariant_of-result-2-clause-chosen g c =
    none_chosen (within (rows_in c.rows_of-rows.result.list.now)
    (take (length c.args.payload.now - c.header_len-size.result) (drop c.header_len-size.result c.args.payload.now))) 0
