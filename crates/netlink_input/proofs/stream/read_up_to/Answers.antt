use Rattle.std.proofs.Common.{rules, ◌≡◌, ◌≤◌, ◌+◌, ◌-◌, ◌∙◌, ap, arith, ℕ, List, ◌++◌, drop, length, length-append, take}
use Rattle.std.proofs.lemmas.List.{length-take-le}
use borrow.Rule.Slice.PartMut.{put_mid}
use Rattle.netlink_input.specs.ReadingLaws.{read_items}
use Rattle.netlink_input.proofs.stream.read_up_to.Goals as goal

pub returns-clause-reads : goal.returns-clause-reads
returns-clause-reads g c =
    let old : List ℕ = c.args.bytes.now.items in
    let longer : List ℕ = c.deref_mut.result.now in
    let s : ℕ = c.len-start.result in
    let n : ℕ = c.in_ok-n.n in
    let buffer : List ℕ = c.fill.new.buffer in
    let start : s ≡ length old = search rules in
    let few : n ≤ length buffer = c.in_ok-n.ensures.inside in
    let long : length longer ≡ c.args.size = search rules in
    let whole : s + length buffer ≡ c.args.size = search rules in
    let size : c.resize.new.self.len ≡ c.args.size = search rules in
    let put : List ℕ = put_mid s (length longer - s) longer buffer in
    let rest : List ℕ = drop (length put) c.resize.new.self.items in
    let is : c.truncate.new.self.items ≡ old ++ take n buffer =
    c.truncate.ensures.items ∙ ap (λ (m : ℕ). take (s + n) (take m (put ++ rest))) size
    ∙ read_items s n c.args.size (length longer - s) old _ longer buffer rest start c.requires.less
    (c.deref_mut.ensures.value ∙ c.in_ok-resize.ensures.items) long whole few in
    let all : length c.truncate.new.self.items ≡ length old + n =
    ap length is ∙ length-append old (take n buffer) ∙ ap (λ (m : ℕ). length old + m) (length-take-le n buffer few) in (
      take n buffer,
      is,
      c.in_ok-n.ensures.taken,
      omega (arith, all, few, whole, start),
      λ short. c.in_ok-n.ensures.end (omega (arith, all, whole, start, short)),
    )
