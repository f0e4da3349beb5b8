use Rattle.std.proofs.Common.{◌≡◌, OnOk, codes, subst}
use Rattle.netlink_family.specs.Finding.{found_in}
use Rattle.netlink_json.specs.Fields.{Written, present, with_field, written}
use Rattle.netlink_json.specs.Json.{hundredths}
use Rattle.netlink_objects.specs.NextHopGroup.{number_in}
use Rattle.netlink_route.specs.declared.next_hop_objects.TheConstants.{NHA_RES_GROUP_UNBALANCED_TIME}
use Rattle.netlink_objects.proofs.next_hop_group.put_unbalanced.Goals as goal

pub returns : goal.returns
returns c =
    subst (λ (w : Written). OnOk c.put_time-2.result (written c.put_time-2.new.object ≡ with_field w (present (codes "unbalanced_time") (hundredths (number_in (found_in c.args.nest.now.block.now NHA_RES_GROUP_UNBALANCED_TIME))))))
    c.in_ok-put_time.ensures c.put_time-2.ensures
