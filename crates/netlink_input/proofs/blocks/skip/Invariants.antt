use Rattle.std.proofs.Common.{◌≡◌, ◌+◌, ℕ, List, length}
use Rattle.std.specs.Io.KnownBytes.{Consumes}
use Rattle.netlink_input.proofs.blocks.skip.Given as goal

-- the bytes so far are no longer in the reader
abbrev pub invariant-loop-left : goal.invariant-loop-left
invariant-loop-left g l =
    (bytes : List ℕ) × Consumes (g.R.Read.remaining l.initial.reader) (g.R.Read.remaining l.reader) bytes
    × (length bytes + l.left ≡ l.size)

abbrev pub decreases-loop-left : goal.decreases-loop-left
decreases-loop-left g l = l.left
