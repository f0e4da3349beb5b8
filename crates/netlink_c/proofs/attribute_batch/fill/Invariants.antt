use Rattle.std.proofs.Common.{◌≡◌, ◌+◌, ◌-◌, ◌≤◌, length, take, drop}
use Rattle.netlink_c.specs.Attributes.{AttributesAt}
use Rattle.netlink_c.proofs.attribute_batch.fill.Given as goal

-- the attributes so far are written, and a header fits before the rest
abbrev pub invariant-loop-count : goal.invariant-loop-count
invariant-loop-count l = record {
  room : l.at + 4 + l.room ≡ length l.bytes;
  fits : l.count ≤ length l.items;
  size : length l.items ≡ length l.fn.items;
  filled : AttributesAt l.bytes l.start (take l.count l.items) l.at;
  rest : drop l.count l.items ≡ drop l.count l.fn.items;
}

abbrev pub decreases-loop-count : goal.decreases-loop-count
decreases-loop-count l = length l.initial.items - l.count
