use Rattle.std.proofs.Common.{◌≡◌, ◌<◌, length, take}
use Rattle.std.specs.Io.KnownBytes.{Consumes}
use Rattle.netlink_program.proofs.filling.fill.Given as goal

-- what has been read so far is no longer in the reader, and there is room for more
abbrev pub invariant-loop : goal.invariant-loop
invariant-loop g l =
    Consumes (g.R.Read.remaining l.initial.reader) (g.R.Read.remaining l.reader) (take l.filled l.buffer)
    × (l.filled < length l.buffer) × (length l.buffer ≡ length l.fn.buffer)
