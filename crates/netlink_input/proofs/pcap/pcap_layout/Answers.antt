use Rattle.std.proofs.Common.{rules}
use Rattle.netlink_input.proofs.pcap.pcap_layout.Goals as goal

pub returns-then-link_type-ne-NETLINK : goal.returns-then-link_type-ne-NETLINK
returns-then-link_type-ne-NETLINK c = search rules
