use Rattle.std.proofs.Common.{sym, ◌∙◌}
use Rattle.netlink_shapes.specs.Shapes.{rows_in}
use Rattle.netlink_family.proofs.Payloads.{long_none}
use Rattle.netlink_family.proofs.checked.long_block_error.Goals as goal

pub returns-in-None : goal.returns-in-None
returns-in-None c =
    long_none (rows_in c.args.rows.list.now) c.args.end c.args.block.now (sym c.error_in.ensures ∙ c.in-None.is) c.requires.long
