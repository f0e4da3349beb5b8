use Rattle.std.proofs.Common.{ℕ, ◌+◌, length, ap, refl, arith}
use Rattle.netlink_c.proofs.DescribeLemmas.{text_out}
use Rattle.netlink_c.proofs.describe.write_text.Goals as goal

pub returns : goal.returns
returns c =
    text_out c.args.buffer.now c.put.new.buffer c.put_hex.new.buffer c.put-2.new.buffer c.args.before.now c.args.payload.now
    (length c.args.before.now + c.hex_size.result) _ (ap (λ (k : ℕ). length c.args.before.now + k) c.hex_size.ensures.size) refl
    (omega (arith, c.if-end-buffer.false)) c.put.ensures c.put_hex.ensures c.put-2.ensures
