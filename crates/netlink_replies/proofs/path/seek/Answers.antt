use Rattle.std.proofs.Common.{◌≡◌, ℕ, ◌+◌, List, length, ap, ◌∙◌, arith, rules}
use Rattle.netlink_packet_core.specs.Attribute.{Attribute}
use Rattle.netlink_packet_core.specs.StartLaws.{starts-length, starts-length_field}
use Rattle.netlink_packet_core.specs.Steps.{unread}
use Rattle.netlink_packet_core.specs.Views.{attribute_of, length_field, masked, raw_kind}
use Rattle.netlink_replies.proofs.PathLemmas.{aligned_size, seeks_all, seeks_end, seeks_fault, seeks_found, seeks_gap, seeks_on}
use Rattle.netlink_replies.proofs.path.seek.Goals as goal

pub loop-item-init : goal.loop-item-init
loop-item-init c = seeks_all c.args.offset c.args.block.now (unread c.into_iter-item-iterator.result) (search rules)

pub returns-then-left-size-clause-found : goal.returns-then-left-size-clause-found
returns-then-left-size-clause-found c =
    let step = rw c.in-Ok.is at c.in-Some.ensures.steps in
    let bytes : List ℕ = unread c.loop-item.item-iterator in
    let a : Attribute = attribute_of bytes in
    let size : c.length-size.result ≡ 4 + length a.value =
    c.length-size.ensures.number ∙ ap length_field step.0 ∙ starts-length_field bytes a _ step.2 in
    let long = starts-length bytes a _ step.2 in
    let short = c.loop-item.invariant.shorter in
    record {
      a = a;
      at =
          seeks_found c.args.offset c.args.block.now c.loop-item.left bytes a _ c.requires.0 c.requires.1 c.loop-item.invariant step.2
          (omega arith);
      kind = c.kind-kind.ensures.number ∙ ap (λ (b : List ℕ). masked (raw_kind b)) step.0;
      value = c.value-value.ensures.bytes ∙ ap (λ (b : List ℕ). (attribute_of b).value) step.0;
      shorter = omega arith;
    }

pub returns-then-left-end-clause-none : goal.returns-then-left-end-clause-none
returns-then-left-end-clause-none c =
    let step = rw c.in-Ok.is at c.in-Some.ensures.steps in
    let bytes : List ℕ = unread c.loop-item.item-iterator in
    let a : Attribute = attribute_of bytes in
    let size : c.length-size.result ≡ 4 + length a.value =
    c.length-size.ensures.number ∙ ap length_field step.0 ∙ starts-length_field bytes a _ step.2 in
    let end = aligned_size (length a.value) c.length-size.result c.nla_align-end.result size c.nla_align-end.ensures.multiple c.nla_align-end.ensures.least.0 c.nla_align-end.ensures.least.1 in
    seeks_gap c.args.offset c.args.block.now c.loop-item.left bytes a _ c.requires.0 c.requires.1 c.loop-item.invariant step.2
    (omega arith) (omega arith)

pub loop-item-preserved : goal.loop-item-preserved
loop-item-preserved c =
    let step = rw c.in-Ok.is at c.in-Some.ensures.steps in
    let bytes : List ℕ = unread c.loop-item.item-iterator in
    let a : Attribute = attribute_of bytes in
    let size : c.length-size.result ≡ 4 + length a.value =
    c.length-size.ensures.number ∙ ap length_field step.0 ∙ starts-length_field bytes a _ step.2 in
    let long = starts-length bytes a _ step.2 in
    let end = aligned_size (length a.value) c.length-size.result c.nla_align-end.result size c.nla_align-end.ensures.multiple c.nla_align-end.ensures.least.0 c.nla_align-end.ensures.least.1 in
    seeks_on c.args.offset c.args.block.now c.loop-item.left bytes a _ _ c.loop-item.invariant step.2 (omega arith) (omega arith)
    (omega arith) (omega arith)

pub returns-in-Err-clause-none : goal.returns-in-Err-clause-none
returns-in-Err-clause-none c =
    let step = rw c.in-Err.is at c.in-Some.ensures.steps in
    absurd (seeks_fault c.args.offset c.args.block.now c.loop-item.left (unread c.loop-item.item-iterator) _ c.requires.0 c.requires.1
    c.loop-item.invariant step.0 step.1)

pub returns-clause-none : goal.returns-clause-none
returns-clause-none c =
    seeks_end c.args.offset c.args.block.now c.loop-item.left (unread c.loop-item.item-iterator) c.requires.0 c.requires.1
    c.loop-item.invariant c.in-None.ensures.steps.0
