use Rattle.std.proofs.Common.{◌∙◌, arith, string_bytes}
use Rattle.netlink_link_lines.proofs.Listed.{flag_step}
use Rattle.netlink_link_lines.proofs.flags.push_flag_names.Goals as goal

pub loop-bit-preserved : goal.loop-bit-preserved
loop-bit-preserved c =
    c.in_ok-push_flag.ensures
    ∙ flag_step (string_bytes c.args.text.now) (string_bytes c.loop-bit.text) c.args.start c.args.flags c.loop-bit.bit-index
    c.requires.room (omega arith) c.loop-bit.invariant
