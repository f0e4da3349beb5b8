use Rattle.std.proofs.Common.{arith, length, sym, ap, ◌∙◌, ◌≡◌, ◌+◌, ◌++◌, drop, take, ℕ}
use Rattle.std.proofs.lemmas.List.{take-append-drop}
use Rattle.netlink_packet_core.specs.Text.{hex_digits}
use Rattle.netlink_packet_core.specs.TextLaws.{length-hex_digits}
use Rattle.netlink_c.proofs.DescribeLemmas.{pair_put}
use Rattle.netlink_c.proofs.describe.put_pairs.Goals as goal

pub loop-byte-init : goal.loop-byte-init
unfolding hex_digits
loop-byte-init c =
    let none : c.args.at + 0 ≡ c.args.at = omega arith in (
      omega arith,
      sym (take-append-drop c.args.at c.args.buffer.now) ∙ ap (λ (k : ℕ). take c.args.at c.args.buffer.now ++ drop k c.args.buffer.now) (sym none),
    )

pub put-requires : goal.put-requires
put-requires c =
    let whole = length-hex_digits c.args.bytes.now in
    let two : length c.as_bytes.result.now ≡ 2 = ap length (c.as_bytes.ensures.value ∙ c.hex_pair.ensures.digits) in
    record {
      room = omega (arith, whole, two, c.requires.room, c.loop-byte.invariant.0);
    }

pub loop-byte-preserved : goal.loop-byte-preserved
loop-byte-preserved c =
    let whole = length-hex_digits c.args.bytes.now in (
      omega (arith, c.loop-byte.invariant.0),
      pair_put c.args.buffer.now c.args.bytes.now c.loop-byte.buffer c.put.new.buffer c.as_bytes.result.now c.args.at c.loop-byte.end
          c.loop-byte.byte-index (omega arith) (omega (arith, whole, c.requires.room)) c.loop-byte.invariant.1 c.loop-byte.invariant.0
          c.put.ensures (c.as_bytes.ensures.value ∙ c.hex_pair.ensures.digits),
    )
