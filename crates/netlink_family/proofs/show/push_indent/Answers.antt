use Rattle.std.proofs.Common.{string_bytes}
use Rattle.netlink_family.proofs.Lines.{indent_added}
use Rattle.netlink_family.proofs.show.push_indent.Goals as goal

pub loop-level-preserved : goal.loop-level-preserved
loop-level-preserved c =
    indent_added (string_bytes c.args.text.now) (string_bytes c.loop-level.text) (string_bytes c.push_str.new.self)
    c.loop-level._level c.loop-level.invariant c.in_ok-push_str.ensures.bytes
