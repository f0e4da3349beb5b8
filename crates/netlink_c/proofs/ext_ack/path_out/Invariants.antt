use Rattle.std.proofs.Common.{◌+◌, ◌≤◌, length}
use Rattle.netlink_replies.specs.PathSteps.{block_of}
use Rattle.netlink_c.specs.ExtAck.{FillsOut}
use Rattle.netlink_c.proofs.ext_ack.path_out.Given as goal

-- the kinds so far are written, and each took bytes of the block
abbrev pub invariant-loop-kind : goal.invariant-loop-kind
invariant-loop-kind l = record {
  fills : FillsOut l.yielded l.fn.kinds l.kinds l.count;
  left : l.count + length (block_of l.kind-iterator) ≤ length (block_of l.path);
}
