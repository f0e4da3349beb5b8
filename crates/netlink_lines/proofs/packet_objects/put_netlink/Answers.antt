use Rattle.std.proofs.Common.{◌∙◌, ap, codes}
use Rattle.netlink_json.specs.Fields.{Written, present, with_field}
use Rattle.netlink_json.specs.Json.{number}
use Rattle.netlink_lines.proofs.Shown.{on_ok_then}
use Rattle.netlink_lines.proofs.packet_objects.put_netlink.Goals as goal

pub returns : goal.returns
returns c =
    on_ok_then c.put_number-2.result
    (λ adds. adds ∙ ap (λ (w : Written). with_field w (present (codes "bytes") (number c.args.size))) c.in_ok-put_number.ensures.adds)
    c.put_number-2.ensures.adds
