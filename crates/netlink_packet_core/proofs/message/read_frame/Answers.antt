use Rattle.std.proofs.Common.{arith}
use Rattle.std.proofs.lemmas.Result.{err_from_is_err_and}
use Rattle.netlink_packet_core.proofs.Headers.{begins-part}
use Rattle.netlink_packet_core.proofs.message.read_frame.Goals as goal

pub returns-in_err-payload-clause-err : goal.returns-in_err-payload-clause-err
returns-in_err-payload-clause-err g c =
    let p = err_from_is_err_and c.from_residual.result c.from_residual.ensures.1 in
    rw (p.1, p.2) (
      c.args.header,
      _,
      begins-part c.args.bytes.now c.args.header (λ i. omega (arith, c.type_inv.bytes i)) c.requires.whole c.requires.header,
      c.in_err-payload.ensures.err,
    )

pub returns-clause-ok : goal.returns-clause-ok
returns-clause-ok g c = (
  _,
  begins-part c.args.bytes.now c.args.header (λ i. omega (arith, c.type_inv.bytes i)) c.requires.whole c.requires.header,
  c.in_ok-payload.ensures.ok,
)
