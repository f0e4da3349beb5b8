use Rattle.std.proofs.Common.{◌≡◌, ◌++◌, string_bytes}
use Rattle.netlink_blocks.specs.Show.{indent}
use Rattle.netlink_family.proofs.show.push_indent.Given as goal

abbrev pub invariant-loop-level : goal.invariant-loop-level
invariant-loop-level l = string_bytes l.text ≡ string_bytes l.fn.text ++ indent l._level
