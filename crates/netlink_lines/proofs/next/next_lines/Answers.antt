use Rattle.netlink_lines.specs.Check.{check_of}
use Rattle.netlink_lines.specs.Messages.{memory_of}
use Rattle.netlink_lines.proofs.Shown.{tells_as_lines, tells_as_object}
use Rattle.netlink_lines.proofs.next.next_lines.Goals as goal

pub returns-then-state : goal.returns-then-state
returns-then-state g c = record {
  tells = tells_as_object (check_of g.F.Table) c.args.at c.args.frame.now (memory_of c.args.state.now)
      (memory_of c.object_shown.new.state) c.object_shown.result c.if-state.true c.object_shown.ensures.tells;
}

pub returns : goal.returns
returns g c = record {
  tells = tells_as_lines (check_of g.F.Table) c.args.at c.args.frame.now (memory_of c.args.state.now)
      (memory_of c.lines_shown.new.state) c.lines_shown.result c.if-state.false c.lines_shown.ensures.tells;
}
