use Rattle.std.proofs.Common.{◌≡◌, true, None, Option, List, ℕ, ◌++◌, ap, sym, subst, ◌∙◌, rules}
use Rattle.netlink_attributes.specs.BlockLaws.{canonical_walk}
use Rattle.netlink_bytes.specs.declared.error.DecodeError.{DecodeError}
use Rattle.netlink_attributes.specs.Walk.{Walk}
use Rattle.netlink_shapes.specs.Shapes.{is_block_shaped, nest_levels, rows_in, within}
use Rattle.netlink_shapes.specs.Checking.{has_no_error, shaped_normalized}
use Rattle.netlink_shapes.proofs.block.append_block.Goals as goal

pub returns-then-canonical-clause-ok : goal.returns-then-canonical-clause-ok
returns-then-canonical-clause-ok c =
    let shaped : is_block_shaped nest_levels (rows_in c.args.rows.list.now) 0 c.args.block.now ≡ true = search rules in
    let walk = canonical_walk c.args.block.now (c.in-Some.ensures.canonical c.if-canonical.true) in
    let read = shaped_normalized (rows_in c.args.rows.list.now) c.args.block.now walk.0 None walk.1 shaped in (
      walk.0,
      walk.1,
      read.1,
      c.in_ok-extend_from_slice-in-Some.ensures.items ∙ ap (λ (x : List ℕ). c.args.bytes.now.items ++ x) (sym walk.2),
    )

pub returns-then-canonical-clause-good : goal.returns-then-canonical-clause-good
returns-then-canonical-clause-good c =
    let shaped : is_block_shaped nest_levels (rows_in c.args.rows.list.now) 0 c.args.block.now ≡ true = search rules in
    has_no_error (within (rows_in c.args.rows.list.now) c.args.block.now) c.args.end c.args.block.now shaped

pub returns-in_ok-append_attributes-in-Some-clause-ok : goal.returns-in_ok-append_attributes-in-Some-clause-ok
returns-in_ok-append_attributes-in-Some-clause-ok c =
    let shaped : is_block_shaped nest_levels (rows_in c.args.rows.list.now) 0 c.args.block.now ≡ true = search rules in
    let written = c.in_ok-append_attributes-in-Some.ensures in
    let read = shaped_normalized (rows_in c.args.rows.list.now) c.args.block.now written.0 written.1 written.2 shaped in (
      written.0,
      subst (λ (malformed : Option DecodeError). Walk c.args.block.now written.0 malformed) read.0 written.2,
      read.1,
      written.3,
    )

pub returns-in_ok-append_attributes-in-Some-clause-good : goal.returns-in_ok-append_attributes-in-Some-clause-good
returns-in_ok-append_attributes-in-Some-clause-good c =
    let shaped : is_block_shaped nest_levels (rows_in c.args.rows.list.now) 0 c.args.block.now ≡ true = search rules in
    has_no_error (within (rows_in c.args.rows.list.now) c.args.block.now) c.args.end c.args.block.now shaped
