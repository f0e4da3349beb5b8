use Rattle.std.proofs.Common.{arith, string_bytes}
use Rattle.netlink_blocks.specs.Show.{escaped}
use Rattle.netlink_family.proofs.Lines.{each_added}
use Rattle.netlink_family.proofs.show.push_escaped_bytes.Goals as goal

pub loop-byte-preserved : goal.loop-byte-preserved
loop-byte-preserved c =
    each_added escaped (string_bytes c.args.text.now) c.args.bytes.now (string_bytes c.loop-byte.text) (string_bytes c.push_escaped.new.text)
    c.loop-byte.byte-index (omega arith) c.loop-byte.invariant c.in_ok-push_escaped.ensures
