use Rattle.std.proofs.Common.{◌≡◌, [], length, string_bytes}
use Rattle.netlink_next_hop_lines.specs.Group.{with_members}
use Rattle.netlink_next_hop_lines.proofs.group.members_text.Given as goal

-- the members in the rest lead to the whole text
abbrev pub invariant-loop-rest : goal.invariant-loop-rest
invariant-loop-rest l = with_members (string_bytes l.text) l.rest ≡ with_members [] l.bytes

abbrev pub decreases-loop-rest : goal.decreases-loop-rest
decreases-loop-rest l = length l.rest
