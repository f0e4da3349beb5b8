use Rattle.std.proofs.Common.{refl}
use Rattle.std.proofs.lemmas.Result.{err_from_is_err_and}
use Rattle.netlink_lines.proofs.capture.write_stopped.Goals as goal

pub returns-in_err-torn_lines : goal.returns-in_err-torn_lines
returns-in_err-torn_lines g c =
    let p = err_from_is_err_and c.from_residual.result c.from_residual.ensures.1 in
    record { writes = rw (p.1, p.2, c.in_err-torn_lines.ensures.fault) refl }

pub returns-in_err-write_through : goal.returns-in_err-write_through
returns-in_err-write_through g c =
    let p = err_from_is_err_and c.from_residual-in_err-write_through.result c.from_residual-in_err-write_through.ensures.1 in
    let part = rw c.deref.ensures.value at c.in_err-write_through.ensures.part in
    record {
      writes =
          rw (p.1, p.2) (
            (c.torn_lines.new.lines.items, c.in_ok-torn_lines.field-0),
            rw c.torn_of.ensures at c.in_ok-torn_lines.ensures.tells,
            part.0,
            part.1,
            part.2,
          );
    }

pub returns : goal.returns
returns g c = record {
  writes = (
    (c.torn_lines.new.lines.items, c.in_ok-torn_lines.field-0),
    rw c.torn_of.ensures at c.in_ok-torn_lines.ensures.tells,
    rw c.deref.ensures.value at c.in_ok-write_through.ensures.whole,
  );
}
