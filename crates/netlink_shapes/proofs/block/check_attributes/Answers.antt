use Rattle.std.proofs.Common.{Bor, List, ℕ, ap, rules, sym, ◌∙◌, ◌≡◌, true, false}
use Rattle.netlink_attributes.specs.Steps.{unread}
use Rattle.netlink_attributes.specs.Views.{attribute_of}
use Rattle.netlink_shapes.specs.Shapes.{rows_in, within}
use Rattle.netlink_shapes.specs.Checking.{all_checked, malformed_next, ends_canonical, more_checked, none_checked, misfit_next}
use Rattle.netlink_shapes.specs.Choices.{none_chosen}
use Rattle.netlink_attributes.specs.ZeroPadding.{same_zeros}
use Rattle.netlink_shapes.proofs.block.check_attributes.Goals as goal

pub loop-item-init : goal.loop-item-init
loop-item-init c =
    let same : unread c.into_iter-item-iterator.result ≡ unread c.args.walk = search rules in (
      none_checked (within (rows_in c.args.rows.list.now) c.args.block.now) (unread c.args.walk) _ c.args.is_asked same,
      λ shape none. absurd (cc),
      none_chosen (within (rows_in c.args.rows.list.now) c.args.block.now) 0,
    )

pub returns-then-not-fits_kind : goal.returns-then-not-fits_kind
returns-then-not-fits_kind c =
    let step = rw c.in-Ok.is at c.in-Some.ensures.steps in
    let bytes : List ℕ = unread c.loop-item.item-iterator in
    let kind : c.raw_kind-kind.result ≡ (attribute_of bytes).kind = c.raw_kind-kind.ensures.number ∙ ap (λ (b : List ℕ). (attribute_of b).kind) step.0 in
    let value : c.value.result.now ≡ (attribute_of bytes).value = c.value.ensures.bytes ∙ ap (λ (b : List ℕ). (attribute_of b).value) step.0 in
    let other : c.fits_kind.result ≡ false = search rules in
    record {
      shaped =
          sym (misfit_next (within (rows_in c.args.rows.list.now) c.args.block.now) (unread c.args.walk) bytes (unread c.next.new.self) c.loop-item.canonical
          c.raw_kind-kind.result c.value.result.now c.fits_kind.result c.loop-item.invariant.0 step.2 kind value c.fits_kind.ensures.fits other);
      canonical = tt;
    }

pub loop-item-preserved : goal.loop-item-preserved
loop-item-preserved c =
    let step = rw c.in-Ok.is at c.in-Some.ensures.steps in
    let bytes : List ℕ = unread c.loop-item.item-iterator in
    let kind : c.raw_kind-kind.result ≡ (attribute_of bytes).kind = c.raw_kind-kind.ensures.number ∙ ap (λ (b : List ℕ). (attribute_of b).kind) step.0 in
    let value : c.value.result.now ≡ (attribute_of bytes).value = c.value.ensures.bytes ∙ ap (λ (b : List ℕ). (attribute_of b).value) step.0 in
    let fit : c.fits_kind.result ≡ true = search rules in
    let zeros = same_zeros _ _ _ _ step.0 (ap (λ (x : Bor (List ℕ)). x.now) c.into_inner.ensures.keeps) c.length-size.ensures.number in (
      more_checked (within (rows_in c.args.rows.list.now) c.args.block.now) (unread c.args.walk) bytes (unread c.next.new.self) c.loop-item.canonical
          c.is_padded-padded.result c.both-canonical.result c.raw_kind-kind.result c.value.result.now c.fits_kind.result
          c.loop-item.invariant.0 step.2 kind value c.fits_kind.ensures.fits fit c.both-canonical.ensures
          (λ padded. zeros.0 (c.is_padded-padded.ensures padded)),
      c.fits_kind.ensures.other,
      c.fits_kind.ensures.choices,
    )

pub returns-in-Err : goal.returns-in-Err
returns-in-Err c =
    let step = rw c.in-Err.is at c.in-Some.ensures.steps in
    record {
      shaped =
          sym (malformed_next (within (rows_in c.args.rows.list.now) c.args.block.now) (unread c.args.walk) (unread c.loop-item.item-iterator) c.loop-item.canonical _
          c.loop-item.invariant.0 step.0 step.1);
      canonical = tt;
    }

pub returns-clause-shaped : goal.returns-clause-shaped
returns-clause-shaped c =
    sym (all_checked (within (rows_in c.args.rows.list.now) c.args.block.now) (unread c.args.walk) (unread c.loop-item.item-iterator) c.loop-item.canonical
    c.loop-item.invariant.0 c.in-None.ensures.steps.0)

pub returns-clause-canonical : goal.returns-clause-canonical
returns-clause-canonical c =
    ends_canonical (within (rows_in c.args.rows.list.now) c.args.block.now) (unread c.args.walk) (unread c.loop-item.item-iterator) c.loop-item.canonical
    c.loop-item.invariant.0 c.in-None.ensures.steps.0
