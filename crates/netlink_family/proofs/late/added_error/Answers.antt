use Rattle.std.proofs.Common.{◌≡◌, ℕ, true, List, Option, Some, None, ap, sym, ◌∙◌}
use Rattle.std.specs.Prelude.{IfNone}
use Rattle.netlink_shapes.specs.Errors.{value_error}
use Rattle.netlink_family.specs.PushingLaws.{no_error_fits}
use Rattle.netlink_shapes.specs.Shapes.{Row, fits_kind, nest_levels, within}
use Rattle.netlink_family.proofs.late.added_error.Goals as goal

if_none : {X P : Type 0} (r : Option X) → P → IfNone r P
if_none None is = is
if_none (Some x) is = tt

fits : (rows other : List Row) (block : List ℕ) (kind : ℕ) (value : List ℕ) → other ≡ rows
    → value_error nest_levels (within other block) 0 0 kind value ≡ None → fits_kind (within rows block) kind value ≡ true
fits rows other block kind value same none =
    sym (ap (λ (r : List Row). fits_kind (within r block) kind value) same) ∙ no_error_fits (within other block) kind value none

pub returns-in-None-clause-fits : goal.returns-in-None-clause-fits
returns-in-None-clause-fits g c =
    if_none c.late_error.result
    (fits (g.F.Table.rows c.args.message_type) _ c.args.block.now c.args.kind c.args.value.now c.rows_of-rows.ensures.rows
    (sym c.value_error.ensures ∙ c.in-None.is))
