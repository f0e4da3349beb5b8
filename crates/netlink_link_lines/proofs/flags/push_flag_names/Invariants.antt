use Rattle.std.proofs.Common.{◌≡◌, ◌++◌, drop, take, string_bytes}
use Rattle.std.specs.List.{fold}
use Rattle.netlink_link_lines.specs.Flags.{flag_order, with_flag}
use Rattle.netlink_link_lines.proofs.flags.push_flag_names.Given as goal

-- the flags so far are named
abbrev pub invariant-loop-bit : goal.invariant-loop-bit
invariant-loop-bit l =
    string_bytes l.text
    ≡ take l.start (string_bytes l.fn.text)
    ++ fold (with_flag l.flags) (drop l.start (string_bytes l.fn.text)) (take l.bit-index flag_order)
