use Rattle.std.proofs.Common.{rules, codes, subst, ℤ, w32, IfOk}
use Rattle.std.proofs.lemmas.Int.{to_z-of_z}
use Rattle.std.specs.Prelude.{false}
use Rattle.netlink_lines.specs.Objects.{AddsShown, control_parts}
use Rattle.netlink_lines.proofs.objects.put_item.Goals as goal

pub returns-in-None : goal.returns-in-None
returns-in-None g c = rw c.in-None.is c.put_named.ensures

pub returns-in-Some-Ok-Done : goal.returns-in-Some-Ok-Done
returns-in-Some-Ok-Done g c =
    rw (c.in-Some-Ok-Done.is, c.in-Some-Ok-Done.field-0-is, c.in-Some-Ok-Done.field-0-0-is)
    (subst (λ (z : ℤ). IfOk c.put_control.result
    (λ bad. AddsShown c.args.object.now c.put_control.new.object bad (control_parts c.args.frame.now (codes "NLMSG_DONE") z c.args.words.now, false)))
    (to_z-of_z w32 c.in-Some-Ok-Done.code (search rules)) c.put_control.ensures)

pub returns-in-Some-Ok-Acknowledged : goal.returns-in-Some-Ok-Acknowledged
returns-in-Some-Ok-Acknowledged g c =
    rw (c.in-Some-Ok-Acknowledged.is, c.in-Some-Ok-Acknowledged.field-0-is, c.in-Some-Ok-Acknowledged.field-0-0-is)
    c.put_control-in-Some-Ok-Acknowledged.ensures

pub returns-in-Some-Ok-Rejected : goal.returns-in-Some-Ok-Rejected
returns-in-Some-Ok-Rejected g c =
    let after = c.put_control-in-Some-Ok-Rejected in
    rw (c.in-Some-Ok-Rejected.is, c.in-Some-Ok-Rejected.field-0-is, c.in-Some-Ok-Rejected.field-0-0-is)
    (subst (λ (z : ℤ). IfOk after.result
    (λ bad. AddsShown c.args.object.now after.new.object bad (control_parts c.args.frame.now (codes "NLMSG_ERROR") z c.args.words.now, false)))
    (to_z-of_z w32 c.in-Some-Ok-Rejected.code (search rules)) after.ensures)

pub returns-in-Some-Ok-Overrun : goal.returns-in-Some-Ok-Overrun
returns-in-Some-Ok-Overrun g c =
    rw (c.in-Some-Ok-Overrun.is, c.in-Some-Ok-Overrun.field-0-is, c.in-Some-Ok-Overrun.field-0-0-is)
    c.put_named-in-Some-Ok-Overrun.ensures
