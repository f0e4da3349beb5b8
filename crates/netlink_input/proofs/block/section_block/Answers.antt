use Rattle.std.proofs.Common.{rules}
use Rattle.netlink_input.proofs.block.section_block.Goals as goal

pub returns-in-None-clause-is : goal.returns-in-None-clause-is
returns-in-None-clause-is c = search rules
