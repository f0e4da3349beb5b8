use Rattle.std.proofs.Common.{◌≡◌, [], length, string_bytes}
use Rattle.netlink_route_lines.specs.Mpls.{with_labels}
use Rattle.netlink_route_lines.proofs.mpls.labels_text.Given as goal

-- the labels in the rest lead to the whole text
abbrev pub invariant-loop-rest : goal.invariant-loop-rest
invariant-loop-rest l = with_labels (string_bytes l.text) l.rest ≡ with_labels [] l.bytes

abbrev pub decreases-loop-rest : goal.decreases-loop-rest
decreases-loop-rest l = length l.rest
