use Rattle.std.proofs.Common.{◌∙◌, ap, arith}
use Rattle.std.proofs.lemmas.List.{take_all}
use Rattle.std.specs.List.{fold}
use Rattle.netlink_json.specs.Fields.{items_written}
use Rattle.netlink_objects.proofs.Loops.{bit_step, bits_all}
use Rattle.netlink_objects.proofs.form.put_bits.Goals as goal

pub returns : goal.returns
returns c =
    c.loop-bit.invariant
    ∙ ap (fold (bit_step c.args.number) (items_written c.args.items.now))
    (take_all c.loop-bit.bit-index c.args.names.now (omega (arith, c.loop-bit-test.false)))
    ∙ bits_all c.args.number (items_written c.args.items.now) c.args.names.now
