use Rattle.std.proofs.Common.{◌≡◌, ◌∙◌, List, rules, sym, ℕ}
use Rattle.netlink_json.specs.Fields.{items_written, with_item}
use Rattle.netlink_objects.specs.NextHopGroup.{member_json}
use Rattle.netlink_objects.proofs.Groups.{member_step, no_member}
use Rattle.netlink_objects.proofs.next_hop_group.put_members.Goals as goal

pub loop-rest-preserved : goal.loop-rest-preserved
loop-rest-preserved c =
    let rest : List ℕ = c.loop-rest.rest.now in
    let put : items_written c.put_member.new.items ≡ with_item (items_written c.loop-rest.items) (member_json rest) =
    search rules in
    member_step (items_written c.loop-rest.items) (items_written c.put_member.new.items) _ rest
    c.in-len8-up.len_at_least put c.loop-rest.invariant

pub returns : goal.returns
returns c =
    sym (no_member (items_written c.loop-rest.items) c.loop-rest.rest.now c.in_default.len_below) ∙ c.loop-rest.invariant
