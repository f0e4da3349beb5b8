use Rattle.netlink_tree.specs.Tree.{views}
use Rattle.netlink_tree.proofs.TreeTrips.{text_reads_back, text_is_deep}
use Rattle.netlink_tree.proofs.write.write_tree.Goals as goal

pub returns-in-Some-clause-reads_back : goal.returns-in-Some-clause-reads_back
returns-in-Some-clause-reads_back c =
    text_reads_back c.written_walks.ensures.walk (views c.args.trees.now) c.bytes_of.result c.requires.formed
    c.in-Some.ensures.0 c.in-Some.ensures.1 c.bytes_of.ensures.in_range c.bytes_of.ensures.text

pub returns-in-Some-clause-canonical : goal.returns-in-Some-clause-canonical
returns-in-Some-clause-canonical c =
    text_is_deep (views c.args.trees.now) c.bytes_of.result c.requires.formed c.in-Some.ensures.1 c.bytes_of.ensures.in_range
    c.bytes_of.ensures.text
