use Rattle.std.proofs.Common.{◌≤◌, length, take}
use Rattle.std.specs.Io.KnownBytes.{Appends}
use Rattle.netlink_program.proofs.writing.write_through.Given as goal

-- the bytes so far are written
abbrev pub invariant-loop : goal.invariant-loop
invariant-loop g l =
    Appends (g.W.Write.contents l.initial.writer) (g.W.Write.contents l.writer) (take l.written l.bytes)
    × (l.written ≤ length l.bytes)
