use Rattle.std.proofs.Common.{◌≡◌, take, string_bytes}
use Rattle.std.specs.List.{fold}
use Rattle.netlink_address_lines.specs.AddressFlags.{flag_order, with_flag}
use Rattle.netlink_address_lines.proofs.address_flags.push_flag_names.Given as goal

-- the flags so far are named
abbrev pub invariant-loop-bit : goal.invariant-loop-bit
invariant-loop-bit l =
    string_bytes l.text ≡ fold (with_flag l.family l.flags) (string_bytes l.fn.text) (take l.bit-index flag_order)
