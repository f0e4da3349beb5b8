use Rattle.std.proofs.Common.{◌≡◌, ◌++◌, length, string_bytes}
use Rattle.netlink_shapes.specs.Shapes.{fields_in}
use Rattle.netlink_family.specs.ByteLines.{field_lines_at}
use Rattle.netlink_family.proofs.byte_lines.push_field_lines.Given as goal

-- the text still to be appended is that of the rest of the fields
abbrev pub invariant-loop-rest : goal.invariant-loop-rest
invariant-loop-rest l =
    string_bytes l.fn.text ++ field_lines_at l.fault (fields_in l.fields) l.at 0 l.header
    ≡ string_bytes l.text ++ field_lines_at l.fault (fields_in l.rest) l.at l.from l.header

abbrev pub decreases-loop-rest : goal.decreases-loop-rest
decreases-loop-rest l = length l.rest
