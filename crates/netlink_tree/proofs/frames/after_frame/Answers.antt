use Rattle.std.proofs.Common.{ℕ, List, subst, sym, arith}
use Rattle.std.proofs.lemmas.List.{drop_all, take_rest}
use Rattle.netlink_packet_core.specs.FrameWalk.{StartsFrame, frame_of}
use Rattle.netlink_packet_core.specs.FrameStartLaws.{starts_frame_held}
use Rattle.netlink_tree.proofs.frames.after_frame.Goals as goal

pub returns-then-end-bytes-clause-starts : goal.returns-then-end-bytes-clause-starts
returns-then-end-bytes-clause-starts c =
    let bytes : List ℕ = c.args.bytes.now in
    let end : ℕ = c.nlmsg_align-end.result in
    subst (StartsFrame bytes (frame_of bytes)) (sym (take_rest bytes end))
    (starts_frame_held bytes end c.requires.whole (omega arith) (omega arith) (omega arith))

pub returns-else-end-bytes-clause-starts : goal.returns-else-end-bytes-clause-starts
returns-else-end-bytes-clause-starts c =
    let bytes : List ℕ = c.args.bytes.now in
    let end : ℕ = c.nlmsg_align-end.result in
    subst (StartsFrame bytes (frame_of bytes)) (drop_all end bytes (omega arith))
    (starts_frame_held bytes end c.requires.whole (omega arith) (omega arith) (omega arith))
