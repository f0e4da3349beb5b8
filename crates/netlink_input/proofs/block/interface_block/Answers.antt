use Rattle.std.proofs.Common.{◌≡◌, arith}
use Rattle.std.proofs.lemmas.Grind.{common_steps}
use Rattle.netlink_input.specs.Pcap.{number_in}
use Rattle.netlink_input.proofs.block.interface_block.Goals as goal

pub returns-clause-is : goal.returns-clause-is
returns-clause-is c =
    let snap : c.u32_in.result ≡ number_in c.args.section.order 12 4 c.args.head.now = c.u32_in.ensures.number in
    grind (arith, common_steps)
