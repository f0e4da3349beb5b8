use Rattle.std.proofs.Common.{◌≡◌, ◌∙◌, List, ℕ, [], ap, arith, eqb-true, length, sym}
use Rattle.std.proofs.lemmas.List.{nil_from_length}
use Rattle.netlink_shapes.specs.Listing.{first_of}
use Rattle.netlink_shapes.specs.ListingLaws.{before_nothing}
use Rattle.netlink_blocks.proofs.block_index.is_missing.Goals as goal

pub returns-then-index-row-eq0 : goal.returns-then-index-row-eq0
returns-then-index-row-eq0 c = λ empty.
    let rest : List ℕ = c.args.index.now.rest.now in
    let none : rest ≡ [] = nil_from_length rest (eqb-true (length rest) 0 (sym c.is_empty.ensures ∙ empty)) in
    (c.args.index.now.placed c.args.kind (omega (arith, c.if-row-ge-KINDS.false))).0 c.if-index-row-eq0.true
    ∙ ap (first_of c.args.kind) (before_nothing rest none)
