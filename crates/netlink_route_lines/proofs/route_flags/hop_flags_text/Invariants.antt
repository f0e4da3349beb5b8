use Rattle.std.proofs.Common.{◌≡◌, [], take, string_bytes}
use Rattle.std.specs.List.{fold}
use Rattle.netlink_route_lines.specs.RouteFlags.{hop_flag_order, with_hop_flag}
use Rattle.netlink_route_lines.proofs.route_flags.hop_flags_text.Given as goal

-- the flags so far are named
abbrev pub invariant-loop-bit : goal.invariant-loop-bit
invariant-loop-bit l = string_bytes l.text ≡ fold (with_hop_flag l.flags) [] (take l.bit-index hop_flag_order)
