use Rattle.std.specs.Io.KnownBytes.{Consumes}
use Rattle.netlink_program.proofs.reading.read_all.Given as goal

-- what has been read so far is no longer in the reader
abbrev pub invariant-loop : goal.invariant-loop
invariant-loop g l = Consumes (g.R.Read.remaining l.initial.reader) (g.R.Read.remaining l.reader) l.input.items
