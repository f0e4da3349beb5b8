use Rattle.std.proofs.Common.{rules}
use Rattle.netlink_replies.proofs.reply.error_item.Goals as goal

pub returns-then-size-lt-CODE_SIZE : goal.returns-then-size-lt-CODE_SIZE
returns-then-size-lt-CODE_SIZE c = search rules
