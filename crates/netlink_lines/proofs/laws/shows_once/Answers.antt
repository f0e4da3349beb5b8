use Rattle.netlink_lines.proofs.Once.{messages_once}
use Rattle.netlink_lines.proofs.OnceBlocks.{blocks_once}
use Rattle.netlink_lines.proofs.OncePackets.{packets_once, parts_once}
use Rattle.netlink_lines.proofs.laws.shows_once.Goals as goal

pub returns : goal.returns
returns c = record { messages = messages_once; packets = packets_once; blocks = blocks_once; parts = parts_once }
