use Rattle.std.proofs.Common.{rules}
use Rattle.netlink_attributes.proofs.buffer.checked_length.Goals as goal

pub returns-clause-whole : goal.returns-clause-whole
returns-clause-whole c = search rules

pub returns-then-length-size-clause-refuses : goal.returns-then-length-size-clause-refuses
returns-then-length-size-clause-refuses c = search rules
