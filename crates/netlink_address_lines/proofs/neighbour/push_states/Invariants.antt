use Rattle.std.proofs.Common.{◌≡◌, take, string_bytes}
use Rattle.std.specs.List.{fold}
use Rattle.netlink_address_lines.specs.Neighbour.{state_order, with_state}
use Rattle.netlink_address_lines.proofs.neighbour.push_states.Given as goal

-- the states so far are named
abbrev pub invariant-loop-bit : goal.invariant-loop-bit
invariant-loop-bit l = string_bytes l.text ≡ fold (with_state l.states) (string_bytes l.fn.text) (take l.bit-index state_order)
