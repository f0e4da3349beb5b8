use Rattle.std.proofs.Common.{arith, ◌≡◌, ◌⊎◌, Err, ℕ, ◌-◌, List, [], ◌∷◌, ◌++◌, length, drop, take, sym, ap, subst, inr, refl}
use Rattle.std.proofs.lemmas.List.{drop_all, take_all, length-drop}
use Rattle.netlink_packet_core.specs.Attribute.{Attribute}
use Rattle.netlink_packet_core.specs.DecodeError.TheVariants.{OutOfMemory}
use Rattle.netlink_packet_core.specs.Numbers.{IsBytes}
use Rattle.netlink_packet_core.specs.Progress.{Passes, passes_bytes}
use Rattle.netlink_packet_core.specs.StartLaws.{starts_bytes}
use Rattle.netlink_packet_core.specs.Views.{attribute_of, shown}
use Rattle.netlink_tree.specs.Reading.{Trees, IsRead}
use Rattle.netlink_tree.specs.declared.fault.TreeFault.{TreeFault}
use Rattle.netlink_tree.specs.declared.fault.TreeFault.TheVariants.{Decode}
use Rattle.netlink_tree.proofs.TreeReading.{block_step, starts_some, trees_end, trees_fault, trees_inside}
use Rattle.netlink_tree.proofs.read.+reading.Goals as goal

pub read_block-returns-then-not-read_attribute-clause-fault : goal.read_block-returns-then-not-read_attribute-clause-fault
read_block-returns-then-not-read_attribute-clause-fault t c =
    let done = c.loop-nla.invariant in
    let rest : List ℕ = c.loop-nla.rest.now in
    let each : IsBytes rest = passes_bytes _ done.0 _ done.1 (λ i. omega (arith, c.type_inv.bytes i)) in
    let same : shown c.in-Ok.nla ≡ rest = rw c.in-Ok.ensures.keeps refl in
    let starts = starts_some rest each c.in-Ok.ensures.whole in
    let later = c.walk_total.ensures.exists starts.0 (starts_bytes _ _ _ starts.1 each) in
    let e : TreeFault = c.read_attribute.new.fault in
    let inside : (e ≡ Decode OutOfMemory) ⊎ IsRead (Trees (c.args.levels - 1)) (attribute_of rest) (Err e) =
    subst (λ (b : List ℕ). (e ≡ Decode OutOfMemory) ⊎ IsRead (Trees (c.args.levels - 1)) (attribute_of b) (Err e)) same
    (c.read_attribute.ensures.fault c.if-not-read_attribute.true) in
    λ _. trees_inside c.args.levels c.args.bytes.now done.0 _ _ _ _ e c.if-levels-eq0.false done.1 starts.1 later inside done.2

pub read_block-returns-then-end-rest-clause-trees : goal.read_block-returns-then-end-rest-clause-trees
read_block-returns-then-end-rest-clause-trees t c =
    let done = c.loop-nla.invariant in
    let rest : List ℕ = c.loop-nla.rest.now in
    let same : shown c.in-Ok.nla ≡ rest = rw c.in-Ok.ensures.keeps refl in
    let end = c.nla_align-end.ensures in
    let step =
    block_step (c.args.levels - 1) c.args.bytes.now done.0 rest _ _ _ _ _ (λ i. omega (arith, c.type_inv.bytes i)) done.1 done.2
    c.in-Ok.ensures.whole same c.length.ensures.number end.least end.multiple
    (c.read_attribute.ensures.tree c.if-not-read_attribute.false) in
    λ _. trees_end c.args.levels c.args.bytes.now _ _ _ c.if-levels-eq0.false step.0 (drop_all _ rest c.if-end-rest.true) step.1

pub read_block-loop-nla-preserved : goal.read_block-loop-nla-preserved
read_block-loop-nla-preserved t c =
    let done = c.loop-nla.invariant in
    let rest : List ℕ = c.loop-nla.rest.now in
    let at : ℕ = c.nla_align-end.result in
    let same : shown c.in-Ok.nla ≡ rest = rw c.in-Ok.ensures.keeps refl in
    let end = c.nla_align-end.ensures in
    let step =
    block_step (c.args.levels - 1) c.args.bytes.now done.0 rest _ _ _ _ at (λ i. omega (arith, c.type_inv.bytes i)) done.1 done.2
    c.in-Ok.ensures.whole same c.length.ensures.number end.least end.multiple
    (c.read_attribute.ensures.tree c.if-not-read_attribute.false) in
    let left = length-drop at rest in
    let whole : take (length rest - at) (drop at rest) ≡ drop at rest = take_all _ (drop at rest) (omega (arith, left)) in
    let all : List Attribute = done.0 ++ (attribute_of rest ∷ []) in (
      all,
      subst (λ (b : List ℕ). Passes c.args.bytes.now all b) (sym whole) step.0,
      step.1,
      omega (arith, ap length whole, left, c.if-end-rest.false),
    )

pub read_block-returns-in-Err-clause-fault : goal.read_block-returns-in-Err-clause-fault
read_block-returns-in-Err-clause-fault t c =
    let done = c.loop-nla.invariant in
    λ _. inr
    (trees_fault c.args.levels c.args.bytes.now done.0 _ _ _ c.if-levels-eq0.false done.1 (λ none. omega (arith, done.3, ap length none))
    c.in-Err.ensures.refuses done.2)
