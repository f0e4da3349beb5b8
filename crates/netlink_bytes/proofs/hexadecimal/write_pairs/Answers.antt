use Rattle.std.proofs.Common.{rules, ◌≤◌, ◌+◌, ◌*◌, arith, length, refl, w8}
use Rattle.std.proofs.lemmas.Simd.{below_from_Fits, chunk-fits}
use Rattle.std.specs.Simd.Lanes.{chunk}
use Rattle.netlink_bytes.specs.Text.{hex_digits}
use Rattle.netlink_bytes.proofs.Lanes.{block_written}
use Rattle.netlink_bytes.proofs.hexadecimal.write_pairs.Goals as goal

pub loop-at-init : goal.loop-at-init
unfolding hex_digits
loop-at-init c = (refl, omega arith)

pub pairs_of-requires-clause-fit : goal.pairs_of-requires-clause-fit
pairs_of-requires-clause-fit c =
    let bytes = c.args.bytes.now in
    below_from_Fits w8 (chunk c.loop-at.at 16 bytes) (chunk-fits w8 c.loop-at.at 16 bytes c.type_inv.bytes)

pub loop-at-preserved : goal.loop-at-preserved
loop-at-preserved c =
    let at = c.loop-at.at in
    let inside : at + 16 ≤ length c.args.bytes.now = search rules in
    let room : at * 2 + 32 ≤ length c.loop-at.digits = search rules in (
      rw (c.store-in-loop-at.ensures, c.store.ensures)
          (block_written c.loop-at.digits c.args.bytes.now c.pairs_of.result.0 c.pairs_of.result.1 at c.loop-at.invariant.0 room
          c.pairs_of.ensures.size.0 c.pairs_of.ensures.size.1 c.pairs_of.ensures.digits),
      inside,
    )

pub loop-index-init : goal.loop-index-init
loop-index-init c = c.loop-at.invariant.0

pub loop-index-preserved : goal.loop-index-preserved
loop-index-preserved c = c.write_pair.ensures c.loop-index.invariant
