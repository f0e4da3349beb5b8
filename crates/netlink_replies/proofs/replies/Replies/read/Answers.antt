use Rattle.netlink_replies.proofs.Readings.{gives_replies}
use Rattle.netlink_replies.proofs.replies.Replies.read.Goals as goal

pub returns-clause-items : goal.returns-clause-items
returns-clause-items c =
    gives_replies (record { replies = c.args.self; datagram = c.args.datagram; cursor = 0 })
