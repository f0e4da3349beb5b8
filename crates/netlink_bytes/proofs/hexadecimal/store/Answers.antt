use Rattle.std.proofs.Common.{◌-◌, append-nil, arith, drop, length-drop, refl, take_all}
use Rattle.std.proofs.lemmas.List.{drop_all}
use Rattle.std.proofs.lemmas.Simd.{put_chunk_is}
use Rattle.netlink_bytes.proofs.hexadecimal.store.Goals as goal

pub returns : goal.returns
returns c =
    let digits = c.args.digits.now in
    let at = c.args.at in
    let lanes = c.args.lanes in
    let long = length-drop at digits in
    rw (
      take_all (128 - at) (drop at digits) (omega arith),
      put_chunk_is 0 (drop at digits) lanes (omega (arith, c.requires.size)),
      drop_all (128 - at) (drop at digits) (omega arith),
      append-nil,
      put_chunk_is at digits lanes (omega (arith, c.requires.size, c.requires.room)),
    ) refl
