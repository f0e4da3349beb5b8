use Rattle.std.proofs.Common.{◌≡◌, ◌∙◌, rules, sym}
use Rattle.std.specs.Prelude.{◌||◌, false, length, nat_lt}
use Rattle.netlink_names.specs.Device.{name_of}
use Rattle.netlink_names.specs.Known.{has_name, longest_name, without}
use Rattle.netlink_names.proofs.Queue.{room_after, with_name_new}
use Rattle.netlink_names.proofs.name_queue.NameQueue.enter.Goals as goal

pub returns-clause-list : goal.returns-clause-list
returns-clause-list c =
    let new : (nat_lt longest_name (length c.args.name.now) || has_name (name_of c.args.self.now c.args.index) c.args.name.now) ≡ false = search rules in
    c.make_room.ensures ∙ rw c.in_ok-push.ensures.list (room_after (without c.args.index c.args.self.now) _)
    ∙ sym (with_name_new c.args.index c.args.name.now c.args.self.now new)
