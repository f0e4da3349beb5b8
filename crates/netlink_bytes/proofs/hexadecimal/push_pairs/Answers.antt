use Rattle.std.proofs.Common.{arith, append-nil, length, sym, ap, ◌∙◌, string_bytes}
use Rattle.netlink_bytes.specs.Text.{hex_digits}
use Rattle.netlink_bytes.proofs.Digits.{two_digits}
use Rattle.netlink_bytes.proofs.hexadecimal.push_pairs.Goals as goal

pub loop-byte-init : goal.loop-byte-init
unfolding hex_digits
loop-byte-init c =
    (c.in_ok-reserve.ensures.bytes ∙ sym (append-nil (string_bytes c.args.text.now)), omega (arith, c.in_ok-reserve.ensures.ok))

pub loop-byte-preserved : goal.loop-byte-preserved
loop-byte-preserved c = (
  two_digits (string_bytes c.args.text.now) c.args.bytes.now _ _ _ c.loop-byte.byte-index (omega arith) c.loop-byte.invariant.0
      c.in_ok-push_str.ensures.bytes c.hex_pair.ensures.digits,
  omega (arith, c.loop-byte.invariant.1, c.in_ok-push_str.ensures.len, c.in_ok-push_str.ensures.capacity, ap length c.hex_pair.ensures.digits),
)
