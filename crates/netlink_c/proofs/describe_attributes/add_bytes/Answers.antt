use Rattle.std.proofs.Common.{[], ◌∷◌, arith}
use Rattle.netlink_packet_core.specs.Text.{hex_text}
use Rattle.netlink_c.proofs.AttributeTexts.{adds_both, length-hex_most}
use Rattle.netlink_c.proofs.describe_attributes.add_bytes.Goals as goal

pub add-requires : goal.add-requires
add-requires c =
    let most = length-hex_most c.args.bytes.now in
    let first = c.add_hex-at.ensures.adds.ends in
    record { short = omega (arith, most, first, c.requires.short.0, c.requires.short.1) }

pub returns-clause-adds : goal.returns-clause-adds
returns-clause-adds c =
    adds_both (hex_text c.args.bytes.now) (10 ∷ []) c.args.buffer.now c.add_hex-at.new.buffer c.add.new.buffer c.args.at c.add_hex-at.result
    c.add.result c.add_hex-at.ensures.adds c.add.ensures

pub returns-clause-bound : goal.returns-clause-bound
returns-clause-bound c =
    let most = length-hex_most c.args.bytes.now in
    let first = c.add_hex-at.ensures.adds.ends in
    let second = c.add.ensures.ends in
    omega (arith, most, first, second)
