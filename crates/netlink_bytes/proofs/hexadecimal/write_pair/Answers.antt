use Rattle.std.proofs.Common.{rules, ◌<◌, ◌+◌, ◌*◌, ◌∙◌, length, refl}
use Rattle.netlink_bytes.proofs.Digits.{two_written}
use Rattle.netlink_bytes.proofs.hexadecimal.write_pair.Goals as goal

pub returns : goal.returns
returns c = λ so_far.
    let i = c.args.index in
    let less : i < length c.args.bytes.now = search rules in
    let room : i * 2 + 1 < length c.args.digits.now = search rules in
    two_written c.args.digits.now c.args.bytes.now c.as_bytes-pair.result.now i _ _ so_far less room
    (c.as_bytes-pair.ensures.value ∙ c.hex_pair.ensures.digits) refl refl
