use Rattle.std.proofs.Common.{◌≡◌, ℕ, List, true, false, ap, refl, rules, subst, sym, ◌∙◌}
use Rattle.netlink_packet_core.specs.Steps.{unread}
use Rattle.netlink_packet_core.specs.Views.{attribute_of, raw_kind}
use Rattle.netlink_shapes.specs.Errors.{rest_error, value_error}
use Rattle.netlink_shapes.specs.ErrorLaws.{error_nothing}
use Rattle.netlink_shapes.specs.NestLaws.{shaped_has, shaped_nests}
use Rattle.netlink_shapes.specs.Shapes.{Row, fits_kind, is_shaped, nest_levels, rows_in, shape_among, within}
use Rattle.netlink_blocks.specs.Values.{NestHasRows}
use Rattle.netlink_shapes.specs.declared.shape.Shape.{Shape}
use Rattle.netlink_family.proofs.Payloads.{malformed_next, fit_next, other_next, passed_next}
use Rattle.netlink_family.proofs.checked.CheckedAttributesIterator.next.Goals as goal

pub returns-in_err-item-clause-steps : goal.returns-in_err-item-clause-steps
returns-in_err-item-clause-steps g c =
    let all = c.args.self.now in
    let step = c.in_err-item.ensures.steps in
    rw c.from_residual.ensures
    ((error_nothing (value_error nest_levels (within (g.F.Table.rows all.message_type) all.block.now) 0) 0 all.end (unread all.walk) step.0, step.0, step.0), refl, refl, refl)

pub invariant_of-self : goal.invariant_of-self
invariant_of-self g c =
    let all = c.args.self.now in
    let step = rw c.in-Ok.is at c.in_ok-item.ensures.steps in
    let bytes : List ℕ = unread all.walk in
    let kind : c.raw_kind-kind.result ≡ (attribute_of bytes).kind = c.raw_kind-kind.ensures.number ∙ ap raw_kind step.0 in
    let value : c.value-value.result.now ≡ (attribute_of bytes).value =
    c.value-value.ensures.bytes ∙ ap (λ (b : List ℕ). (attribute_of b).value) step.0 in
    let tested = c.fits_shape.ensures ∙ ap (λ (r : List Row). fits_kind (within r all.block.now) c.raw_kind-kind.result c.value-value.result.now) all.table in
    let fit : c.fits_shape.result ≡ true = search rules in
    record {
      table = all.table;
      inside = all.inside;
      passed =
          passed_next (g.F.Table.rows all.message_type) all.end all.block.now (rest_error (within (g.F.Table.rows all.message_type) all.block.now) all.end bytes)
          (rest_error (within (g.F.Table.rows all.message_type) all.block.now) all.end (unread c.next.new.self))
          (fit_next (within (g.F.Table.rows all.message_type) all.block.now) all.end bytes (unread c.next.new.self) c.raw_kind-kind.result c.value-value.result.now
          c.fits_shape.result step.2 kind value tested fit) all.passed;
      chosen = c.kept_shape_among-shape.ensures.choices;
    }

pub value_in-requires : goal.value_in-requires
value_in-requires g c =
    let all = c.args.self.now in
    let fit : c.fits_shape.result ≡ true = search rules in
    let fits =
    ap (λ (s : Shape). is_shaped nest_levels (rows_in all.rows.list.now) s c.value-value.result.now) c.kept_shape_among-shape.ensures.shape
    ∙ sym c.fits_shape.ensures ∙ fit in
    record {
      shape = shaped_has nest_levels (rows_in all.rows.list.now) c.kept_shape_among-shape.result c.value-value.result.now fits;
      nest = shaped_nests (rows_in all.rows.list.now) c.kept_shape_among-shape.result c.value-value.result.now fits;
    }

pub last-requires : goal.last-requires
last-requires g c =
    let all = c.args.self.now in
    let step = rw c.in-Ok.is at c.in_ok-item.ensures.steps in
    let bytes : List ℕ = unread all.walk in
    let kind : c.raw_kind-kind.result ≡ (attribute_of bytes).kind = c.raw_kind-kind.ensures.number ∙ ap raw_kind step.0 in
    let value : c.value-value.result.now ≡ (attribute_of bytes).value =
    c.value-value.ensures.bytes ∙ ap (λ (b : List ℕ). (attribute_of b).value) step.0 in
    let tested = c.fits_shape.ensures ∙ ap (λ (r : List Row). fits_kind (within r all.block.now) c.raw_kind-kind.result c.value-value.result.now) all.table in
    let other : c.fits_shape.result ≡ false = search rules in
    other_next (within (g.F.Table.rows all.message_type) all.block.now) all.end bytes (unread c.next.new.self) c.raw_kind-kind.result c.value-value.result.now
    c.fits_shape.result step.2 kind value tested other

pub last-requires-in-Err : goal.last-requires-in-Err
last-requires-in-Err g c =
    let all = c.args.self.now in
    let step = rw c.in-Err.is at c.in_ok-item.ensures.steps in
    malformed_next (within (g.F.Table.rows all.message_type) all.block.now) all.end (unread all.walk) _ step.0 step.1

pub returns-then-fits_shape-clause-steps : goal.returns-then-fits_shape-clause-steps
returns-then-fits_shape-clause-steps g c =
    let all = c.args.self.now in
    let step = rw c.in-Ok.is at c.in_ok-item.ensures.steps in
    let bytes : List ℕ = unread all.walk in
    let kind : c.raw_kind-kind.result ≡ (attribute_of bytes).kind = c.raw_kind-kind.ensures.number ∙ ap raw_kind step.0 in
    let value : c.value-value.result.now ≡ (attribute_of bytes).value =
    c.value-value.ensures.bytes ∙ ap (λ (b : List ℕ). (attribute_of b).value) step.0 in
    let tested = c.fits_shape.ensures ∙ ap (λ (r : List Row). fits_kind (within r all.block.now) c.raw_kind-kind.result c.value-value.result.now) all.table in
    let fit : c.fits_shape.result ≡ true = search rules in (
      (
        fit_next (within (g.F.Table.rows all.message_type) all.block.now) all.end bytes (unread c.next.new.self) c.raw_kind-kind.result
            c.value-value.result.now c.fits_shape.result step.2 kind value tested fit,
        (
          attribute_of bytes,
          step.2,
          kind,
          rw value at c.value_in.ensures.value_is,
          c.value_in.ensures.shape ∙ c.kept_shape_among-shape.ensures.shape
              ∙ ap (λ (r : List Row). shape_among (within r all.block.now) 0 c.raw_kind-kind.result) all.table
              ∙ ap (λ (k : ℕ). shape_among (within (g.F.Table.rows all.message_type) all.block.now) 0 k) kind,
          subst (λ (r : List Row). NestHasRows r c.value_in.result) all.table c.value_in.ensures.nest,
        ),
      ),
      refl,
      refl,
      refl,
    )
