use Rattle.std.proofs.Common.{arith}
use Rattle.netlink_c.proofs.AttributeTexts.{attribute_adds}
use Rattle.netlink_c.proofs.describe_attributes.add_attribute.Goals as goal

pub add_bytes-requires : goal.add_bytes-requires
add_bytes-requires c =
    let e1 = c.add-at.ensures.ends in
    let e2 = c.add_number-at.ensures.bound in
    let e3 = c.add-at-2.ensures.ends in
    let size = c.flags.ensures.size in
    let e4 = c.add_number-at-2.ensures.bound in
    let e5 = c.add-at-3.ensures.ends in
    record { short = (omega (arith, e1, e2, e3, size, e4, e5, c.requires.short.0), omega (arith, c.requires.short.1)) }

pub returns-clause-adds : goal.returns-clause-adds
returns-clause-adds c =
    attribute_adds c.args.value.now c.flags.result.now c.args.buffer.now c.add-at.new.buffer c.add_number-at.new.buffer c.add-at-2.new.buffer
    c.add_number-at-2.new.buffer c.add-at-3.new.buffer c.add_bytes.new.buffer c.args.kind _ _ c.args.at c.add-at.result c.add_number-at.result
    c.add-at-2.result c.add_number-at-2.result c.add-at-3.result c.add_bytes.result c.add-at.ensures c.add_number-at.ensures.adds
    c.add-at-2.ensures c.add_number-at-2.ensures.adds c.add-at-3.ensures c.add_bytes.ensures.adds (omega arith) c.flags.ensures.text (omega arith)
