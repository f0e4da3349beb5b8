use Rattle.std.proofs.Common.{ℕ, List, subst, sym, arith}
use Rattle.std.proofs.lemmas.List.{drop_all, take_rest}
use Rattle.netlink_attributes.specs.Views.{attribute_of}
use Rattle.netlink_attributes.specs.Walk.{Starts}
use Rattle.netlink_attributes.specs.StartLaws.{starts_held}
use Rattle.netlink_attributes.proofs.iterator.after.Goals as goal

pub returns-then-end-bytes-clause-starts : goal.returns-then-end-bytes-clause-starts
returns-then-end-bytes-clause-starts c =
    let bytes : List ℕ = c.args.bytes.now in
    let end : ℕ = c.nla_align-end.result in
    subst (Starts bytes (attribute_of bytes)) (sym (take_rest bytes end))
    (starts_held bytes end (λ i. omega (arith, c.type_inv.bytes i)) c.requires.whole (omega (arith, c.requires.size))
    (omega (arith, c.requires.size)) (omega arith))

pub returns-else-end-bytes-clause-starts : goal.returns-else-end-bytes-clause-starts
returns-else-end-bytes-clause-starts c =
    let bytes : List ℕ = c.args.bytes.now in
    let end : ℕ = c.nla_align-end.result in
    subst (Starts bytes (attribute_of bytes)) (drop_all end bytes (omega arith))
    (starts_held bytes end (λ i. omega (arith, c.type_inv.bytes i)) c.requires.whole (omega (arith, c.requires.size))
    (omega (arith, c.requires.size)) (omega arith))
