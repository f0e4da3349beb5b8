use Rattle.std.proofs.Common.{◌≡◌, ◌+◌, ◌≤◌, length, string_bytes}
use Rattle.netlink_replies.specs.PathSteps.{block_of}
use Rattle.netlink_lines.specs.Concern.{path_text}
use Rattle.netlink_lines.proofs.concern.path_text.Given as goal

-- the text has the kinds so far, and each took bytes of the block
abbrev pub invariant-loop-kind : goal.invariant-loop-kind
invariant-loop-kind l = record {
  text : string_bytes l.text ≡ path_text l.yielded;
  left : length l.yielded + length (block_of l.kind-iterator) ≤ length (block_of l.path);
}
