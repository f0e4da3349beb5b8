use Rattle.std.proofs.Common.{arith, refl, w8}
use Rattle.std.proofs.lemmas.Simd.{SwzOk-from_below}
use Rattle.netlink_bytes.proofs.Lanes.{looked_up}
use Rattle.netlink_bytes.proofs.hexadecimal.digits_of.Goals as goal

pub swizzle : goal.swizzle
swizzle c = SwzOk-from_below w8 16 1 16 0 c.args.numbers refl (omega (arith, c.requires.size)) c.requires.digits

pub returns : goal.returns
returns c = looked_up c.args.numbers c.requires.size c.requires.digits
