use Rattle.std.proofs.Common.{◌≡◌, ◌-◌}
use Rattle.netlink_input.specs.Block.{resolution_in, resolution_of}
use Rattle.netlink_input.proofs.block.resolution_of.Given as goal

-- the options that are left say what all of them do
abbrev pub invariant-loop : goal.invariant-loop
invariant-loop l = resolution_in (l.end - l.counter) l.order l.rest ≡ resolution_of l.order l.options
