use Rattle.std.proofs.Common.{◌-◌, ◌<◌, length, arith}
use Rattle.netlink_attributes.specs.Attribute.{padding}
use Rattle.netlink_attributes.specs.ZeroPadding.{short_padding}
use Rattle.netlink_attributes.proofs.canonical.is_zero_padded.Goals as goal

pub returns-else-end-bytes : goal.returns-else-end-bytes
returns-else-end-bytes c =
    let inside = c.requires.inside in
    let multiple = c.nla_align-end.ensures in
    let short : length c.args.bytes.now - c.args.size < padding c.args.size = omega (arith, c.if-end-bytes.false) in (
      λ yes. absurd (let past = c.if-end-bytes.false in grind arith),
      λ zeros.
          absurd (short_padding c.args.bytes.now c.args.size short zeros),
    )
