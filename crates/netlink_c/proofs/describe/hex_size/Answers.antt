use Rattle.std.proofs.Common.{◌∙◌, sym}
use Rattle.netlink_c.proofs.DescribeLemmas.{length-hex_text}
use Rattle.netlink_c.proofs.describe.hex_size.Goals as goal

pub returns-else-is_empty-clause-size : goal.returns-else-is_empty-clause-size
returns-else-is_empty-clause-size c = sym (length-hex_text c.args.bytes.now (sym c.is_empty.ensures ∙ c.if-is_empty.false))
