use Rattle.std.proofs.Common.{◌≡◌, ◌&&◌, ℕ, Bool, List, true, ap, sym, ◌∙◌, rules}
use Rattle.std.specs.Prelude.{not}
use Rattle.std.specs.List.{list_all}
use Rattle.netlink_shapes.specs.Pushing.{chooses, is_late, keeps_shape}
use Rattle.netlink_shapes.specs.Shapes.{Row, Scope, within}
use Rattle.netlink_family.proofs.late.is_late.Goals as goal

abbrev kept : Scope → ℕ → Bool
kept scope kind = keeps_shape scope kind kind && list_all (λ a. keeps_shape scope kind a.kind) scope.1

-- a kind that chooses a shape is late if it changes one
late_of : (rows other : List Row) (block : List ℕ) (kind : ℕ) (keeps : Bool) → keeps ≡ kept (within other block) kind
    → other ≡ rows → chooses rows kind ≡ true → not keeps ≡ is_late (within rows block) kind
late_of rows other block kind keeps is same chosen =
    ap not (is ∙ ap (λ (r : List Row). kept (within r block) kind) same)
    ∙ sym (ap (λ (b : Bool). b && not (kept (within rows block) kind)) chosen)

pub returns-then-chooses_shape : goal.returns-then-chooses_shape
returns-then-chooses_shape g c =
    late_of (g.F.Table.rows c.args.message_type) _ c.args.block.now c.args.kind c.keeps_shapes.result c.keeps_shapes.ensures
    c.rows_of.ensures.rows (sym c.chooses_shape.ensures.chooses ∙ search rules)
