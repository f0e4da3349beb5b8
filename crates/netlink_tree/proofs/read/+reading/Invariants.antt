use Rattle.std.proofs.Common.{◌+◌, ◌*◌, ◌-◌, ◌≤◌, length, List}
use Rattle.netlink_packet_core.specs.Attribute.{Attribute}
use Rattle.netlink_packet_core.specs.Progress.{Passes}
use Rattle.netlink_tree.specs.Tree.{views}
use Rattle.netlink_tree.specs.Reading.{Trees}
use Rattle.netlink_tree.proofs.TreeReading.{AreRead}
use Rattle.netlink_tree.proofs.read.+reading.Given as goal

abbrev pub decreases-read_attribute : goal.decreases-read_attribute
decreases-read_attribute l = 2 * l.levels + 1

abbrev pub decreases-read_block : goal.decreases-read_block
decreases-read_block l = 2 * l.levels

-- the attributes so far are read as the trees so far, and some bytes are left
abbrev pub invariant-read_block-loop-nla : goal.invariant-read_block-loop-nla
invariant-read_block-loop-nla l =
    (done : List Attribute) × Passes l.bytes done l.rest × AreRead (Trees (l.levels - 1)) done (views l.trees.items) × (1 ≤ length l.rest)

abbrev pub decreases-read_block-loop-nla : goal.decreases-read_block-loop-nla
decreases-read_block-loop-nla l = length l.rest
