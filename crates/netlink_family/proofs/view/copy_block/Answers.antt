use Rattle.netlink_family.proofs.Payloads.{copied_whole}
use Rattle.netlink_family.proofs.view.copy_block.Goals as goal

pub returns-then-is_canonical_nlas : goal.returns-then-is_canonical_nlas
returns-then-is_canonical_nlas c =
    record {
      ok =
          copied_whole c.args.block.now c.args.bytes.now.items _ (c.is_canonical_nlas.ensures.canonical.0 c.if-is_canonical_nlas.true)
          c.in_ok-extend_from_slice.ensures.items;
    }
