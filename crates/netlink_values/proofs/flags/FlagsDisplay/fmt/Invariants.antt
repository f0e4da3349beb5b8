use Rattle.std.proofs.Common.{◌≡◌, ℕ, List, ◌++◌, drop}
use Rattle.std.specs.Fmt.{HasWritten, IsPlainFormatter}
use Rattle.netlink_values.specs.Flags.{flags_text, names_in}
use Rattle.netlink_values.proofs.flags.FlagsDisplay.fmt.Given as goal

-- what is written and what is left to write are the whole text
abbrev pub invariant-loop-row : goal.invariant-loop-row
invariant-loop-row g l =
    IsPlainFormatter l.fn.f
    → (done : List ℕ) × HasWritten g.W.Write.write_str_gives l.fn.f done l.f
    × (done ++ flags_text (names_in (drop l.row-index l.self.names.now)) l.rest
    ≡ flags_text (names_in l.fn.self.names.now) l.fn.self.bits)
