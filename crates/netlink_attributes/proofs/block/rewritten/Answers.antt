use Rattle.std.proofs.Common.{List, [], ◌∷◌, ◌++◌, ◌≡◌, ◌+◌, ◌-◌, ap, inr, ◌∙◌, ℕ, length, arith}
use Rattle.std.specs.Prelude.{replicate}
use Rattle.netlink_bytes.specs.Storage.{put_at}
use Rattle.netlink_attributes.specs.Attribute.{Attribute, padding}
use Rattle.netlink_attributes.specs.Steps.{unread}
use Rattle.netlink_attributes.specs.StartLaws.{starts-length_field}
use Rattle.netlink_attributes.specs.Views.{attribute_of, length_field}
use Rattle.netlink_attributes.proofs.FillLemmas.{cleared_push, has_room, length-put, length-pushed, vec_of_slice, filled_end}
use Rattle.netlink_attributes.specs.Progress.{passes_push, passes_ends, passes_faults}
use Rattle.netlink_attributes.proofs.block.rewritten.Goals as goal

pub loop-item-preserved : goal.loop-item-preserved
loop-item-preserved c =
    let step = rw c.in-Ok.is at c.in-Some.ensures.steps in
    let i = c.loop-item.invariant in
    let bytes : List ℕ = unread c.loop-item.item-iterator in
    let rest : List ℕ = unread c.next.new.self in
    let a : Attribute = attribute_of bytes in
    let block : List ℕ = c.loop-item.block.items in
    let size : c.length-size.result ≡ 4 + length a.value =
    c.length-size.ensures.number ∙ ap length_field step.0 ∙ starts-length_field bytes a rest step.2 in
    let whole : c.nla_align-start.result ≡ 4 + length a.value + padding (length a.value) =
    omega (arith, size, c.nla_align-start.ensures.multiple, c.nla_align-start.ensures.least) in
    let room = has_room i.0 block bytes a rest step.2 i.2 in
    let end : ℕ = c.loop-item.start + c.length-size.result in
    let count : ℕ = c.loop-item.start + c.nla_align-start.result - end in
    let put : c.clear_bytes.new.bytes ≡ put_at block end (replicate count 0) =
    c.clear_bytes.ensures ∙ ap (λ (x : List ℕ). put_at x end (replicate count 0)) c.deref_mut.ensures.value in
    let same = length-put block end count (omega (arith, i.3, room, whole, size)) in (
      i.0 ++ (a ∷ []),
      passes_push _ i.0 _ _ _ i.1 step.2,
      vec_of_slice _ block c.loop-item.block.len (omega arith) (ap length put ∙ same)
          ∙ cleared_push i.0 block _ bytes a rest end count step.2 i.2 (omega (arith, i.3, size)) (omega (arith, whole, size)) put,
      omega (arith, i.3, whole, length-pushed i.0 a),
    )

pub returns-in-Err : goal.returns-in-Err
returns-in-Err c =
    let step = rw c.in-Err.is at c.in-Some.ensures.steps in
    inr (c.loop-item.invariant.0, passes_faults _ _ _ _ c.loop-item.invariant.1 step.0 step.1)

pub returns : goal.returns
returns c =
    let i = c.loop-item.invariant in
    let none = c.in-None.ensures.steps.0 in
    (i.0, passes_ends _ _ _ i.1 none, filled_end i.0 _ _ i.2 none)
