use Rattle.netlink_attributes.specs.Steps.{unread}
use Rattle.netlink_shapes.specs.Choices.{AreChoices}
use Rattle.netlink_shapes.specs.Shapes.{CachesOther, rows_in, within}
use Rattle.netlink_shapes.specs.Checking.{AreChecked}
use Rattle.netlink_shapes.proofs.block.check_attributes.Given as goal

abbrev pub invariant-loop-item : goal.invariant-loop-item
invariant-loop-item l =
    AreChecked (within (rows_in l.rows.list.now) l.block) (unread l.fn.walk) (unread l.item-iterator) l.canonical
    × CachesOther (rows_in l.rows.list.now) 0 l.other × AreChoices (within (rows_in l.rows.list.now) l.block) 0 l.choices
