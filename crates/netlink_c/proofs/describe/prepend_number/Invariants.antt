use Rattle.std.proofs.Common.{◌≡◌, ◌+◌, ◌≤◌, ◌++◌, length, drop}
use Rattle.std.specs.Fmt.{decimal}
use Rattle.netlink_c.proofs.describe.prepend_number.Given as goal

-- the last digits are written, and those of `left` come before them
abbrev pub invariant-loop-left : goal.invariant-loop-left
invariant-loop-left l =
    (length (decimal l.left) ≤ l.at) × (l.at ≤ l.end) × (l.at + length (decimal l.number) ≡ l.end + length (decimal l.left))
    × (decimal l.left ++ drop l.at l.lines ≡ decimal l.number ++ drop l.end l.fn.lines)

abbrev pub decreases-loop-left : goal.decreases-loop-left
decreases-loop-left l = l.left
