use Rattle.std.proofs.Common.{◌≡◌, ◌≤◌, string_bytes}
use Rattle.netlink_words.specs.Parts.{with_parts}
use Rattle.netlink_route_lines.specs.Seg6.{segments_of}
use Rattle.netlink_route_lines.proofs.seg6.push_segments.Given as goal

-- the segments that are left lead to the whole text
abbrev pub invariant-loop-left : goal.invariant-loop-left
invariant-loop-left l =
    (l.left ≤ 256)
    × (with_parts (string_bytes l.text) (segments_of l.bytes l.left) ≡ with_parts (string_bytes l.fn.text) (segments_of l.bytes l.count))

abbrev pub decreases-loop-left : goal.decreases-loop-left
decreases-loop-left l = l.left
