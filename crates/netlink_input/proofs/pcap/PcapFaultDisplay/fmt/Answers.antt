use Rattle.std.proofs.Common.{rules}
use Rattle.netlink_input.proofs.pcap.PcapFaultDisplay.fmt.Goals as goal

pub returns-in-SectionOrder-clause-writes : goal.returns-in-SectionOrder-clause-writes
returns-in-SectionOrder-clause-writes g c = search rules
