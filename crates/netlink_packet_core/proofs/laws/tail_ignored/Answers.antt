use Rattle.std.proofs.Common.{arith}
use Rattle.netlink_packet_core.specs.Header.{HoldsFrame}
use Rattle.netlink_packet_core.proofs.Headers.{begins-before, begins-front}
use Rattle.netlink_packet_core.proofs.laws.tail_ignored.Goals as goal

pub returns : goal.returns
returns g c = record {
  ignored = λ least most m.
      let holds : HoldsFrame c.args.bytes.now = record { header = omega arith; least = least; most = most } in (
        λ f. (f.0, begins-front c.args.bytes.now c.args.more.now m.header f.0 holds f.1, f.2),
        λ f. (f.0, begins-before c.args.bytes.now c.args.more.now m.header f.0 f.1, f.2),
      );
}
