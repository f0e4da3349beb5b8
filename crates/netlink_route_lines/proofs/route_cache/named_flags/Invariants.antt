use Rattle.std.proofs.Common.{◌≡◌, [], take, string_bytes}
use Rattle.std.specs.List.{fold}
use Rattle.netlink_route_lines.specs.RouteCache.{cache_flag_order, with_cache_flag}
use Rattle.netlink_route_lines.proofs.route_cache.named_flags.Given as goal

-- the flags so far are named
abbrev pub invariant-loop-bit : goal.invariant-loop-bit
invariant-loop-bit l = string_bytes l.names ≡ fold (with_cache_flag l.flags) [] (take l.bit-index cache_flag_order)
