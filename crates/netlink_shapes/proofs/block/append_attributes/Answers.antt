use Rattle.std.proofs.Common.{◌≡◌, Some, None, List, ℕ, [], ◌∷◌, ◌++◌, ap, ◌∙◌, rules, sym, append-nil}
use Rattle.netlink_attributes.specs.Attribute.{Attribute}
use Rattle.netlink_attributes.specs.Progress.{passes_ends, passes_faults, passes_push}
use Rattle.netlink_attributes.specs.Steps.{unread}
use Rattle.netlink_attributes.specs.Views.{attribute_of}
use Rattle.netlink_shapes.specs.Normalizing.{more_written}
use Rattle.netlink_shapes.proofs.block.append_attributes.Goals as goal

pub loop-item-init : goal.loop-item-init
loop-item-init c = ([], search rules, sym (append-nil c.args.bytes.now.items))

pub loop-item-preserved : goal.loop-item-preserved
loop-item-preserved c =
    let step = rw c.in-Ok.is at c.in-Some.ensures.steps in
    let done = c.loop-item.invariant in
    let a : Attribute = attribute_of (unread c.loop-item.item-iterator) in
    let kind : c.raw_kind.result ≡ a.kind = c.raw_kind.ensures.number ∙ ap (λ (b : List ℕ). (attribute_of b).kind) step.0 in
    let value : c.value.result.now ≡ a.value = c.value.ensures.bytes ∙ ap (λ (b : List ℕ). (attribute_of b).value) step.0 in (
      done.0 ++ (a ∷ []),
      passes_push _ done.0 _ _ _ done.1 step.2,
      more_written c.args.bytes.now.items c.loop-item.bytes.items c.append_nla.new.block.items done.0 a c.raw_kind.result c.value.result.now
          done.2 kind value (search rules),
    )

pub returns-in-Err : goal.returns-in-Err
returns-in-Err c =
    let step = rw c.in-Err.is at c.in-Some.ensures.steps in
    let done = c.loop-item.invariant in
    (done.0, Some _, passes_faults _ done.0 _ _ done.1 step.0 step.1, done.2)

pub returns : goal.returns
returns c =
    let done = c.loop-item.invariant in
    (done.0, None, passes_ends _ done.0 _ done.1 c.in-None.ensures.steps.0, done.2)
