use Rattle.std.proofs.Common.{◌≡◌, ◌∙◌, OnOk, ap, codes, subst, ℕ}
use Rattle.netlink_family.specs.Finding.{found_in}
use Rattle.netlink_json.specs.Fields.{Field, Written, present, with_field, with_fields, written}
use Rattle.netlink_json.specs.Json.{hundredths, number}
use Rattle.netlink_objects.specs.NextHopGroup.{number_in, unbalanced_fields}
use Rattle.netlink_route.specs.declared.next_hop_objects.TheConstants.{NHA_RES_GROUP_IDLE_TIMER}
use Rattle.netlink_objects.proofs.next_hop_group.put_resilient_fields.Goals as goal

pub returns : goal.returns
returns c =
    let idle : Field =
    present (codes "idle_timer") (hundredths (number_in (found_in c.args.nest.now.block.now NHA_RES_GROUP_IDLE_TIMER))) in
    subst (λ (w : Written). OnOk c.put_unbalanced.result (written c.put_unbalanced.new.object ≡ with_fields w (unbalanced_fields c.args.nest.now.block.now)))
    (c.in_ok-put_time.ensures
    ∙ ap (λ (w : Written). with_field w idle)
    (c.in_ok-put_number.ensures.adds
    ∙ ap (λ (n : ℕ). with_field (written c.args.object.now) (present (codes "buckets") (number n))) c.number_in.ensures))
    c.put_unbalanced.ensures
