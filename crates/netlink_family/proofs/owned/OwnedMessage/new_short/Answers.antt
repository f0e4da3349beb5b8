use Rattle.std.proofs.Common.{◌≡◌, arith, ℕ, rules}
use Rattle.netlink_shapes.specs.Short.{filled}
use Rattle.netlink_family.specs.ShortLaws.{filled_cut, filled_sent, filled_size}
use Rattle.netlink_family.proofs.CanonicalPayloads.{header_canonical}
use Rattle.netlink_family.proofs.owned.OwnedMessage.new_short.Goals as goal

pub invariant_of-result-clause-canonical : goal.invariant_of-result-clause-canonical
invariant_of-result-clause-canonical g c =
    let size : ℕ = g.F.Table.header_len c.args.message_type in
    let less = c.short_is_less.ensures.less in
    let is : c.in_ok-bytes.bytes.items ≡ filled size c.args.payload.now = search rules in
    header_canonical size (g.F.Table.rows c.args.message_type) c.in_ok-bytes.bytes.items
    (filled_size size c.args.payload.now c.in_ok-bytes.bytes.items (omega (arith, less)) is)

pub invariant_of-result-clause-cut : goal.invariant_of-result-clause-cut
invariant_of-result-clause-cut g c =
    let size : ℕ = g.F.Table.header_len c.args.message_type in
    let is : c.in_ok-bytes.bytes.items ≡ filled size c.args.payload.now = search rules in
    filled_cut (g.F.Table.short c.args.message_type) size c.args.payload.now c.in_ok-bytes.bytes.items c.requires.short is

pub returns-clause-payload : goal.returns-clause-payload
returns-clause-payload g c =
    let size : ℕ = g.F.Table.header_len c.args.message_type in
    let is : c.in_ok-bytes.bytes.items ≡ filled size c.args.payload.now = search rules in
    filled_sent size c.args.payload.now c.in_ok-bytes.bytes.items c.short_is_less.ensures.some is
