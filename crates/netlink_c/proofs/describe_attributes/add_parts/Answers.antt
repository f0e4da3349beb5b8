use Rattle.netlink_c.specs.Describe.{bytes_line, walk_lines}
use Rattle.std.proofs.Common.{◌++◌}
use Rattle.netlink_c.proofs.AttributeTexts.{adds_both}
use Rattle.netlink_c.proofs.describe_attributes.add_parts.Goals as goal

pub returns : goal.returns
returns c = λ all end walk.
    adds_both c.args.before.now (bytes_line c.args.header.now ++ walk_lines c.args.block.now all end) c.args.buffer.now c.add-at.new.buffer
    c.add_attributes.new.buffer 0 c.add-at.result c.add_attributes.result c.add-at.ensures
    (adds_both (bytes_line c.args.header.now) (walk_lines c.args.block.now all end) c.add-at.new.buffer c.add_bytes-at.new.buffer
    c.add_attributes.new.buffer c.add-at.result c.add_bytes-at.result c.add_attributes.result c.add_bytes-at.ensures.adds
    (c.add_attributes.ensures all end walk))
