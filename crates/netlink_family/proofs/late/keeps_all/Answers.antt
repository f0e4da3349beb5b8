use Rattle.std.proofs.Common.{◌≡◌, ◌&&◌, ℕ, Bool, List, true, false, ap, sym, ◌∙◌, rules}
use Rattle.std.specs.List.{list_all}
use Rattle.netlink_packet_core.specs.Steps.{unread}
use Rattle.netlink_packet_core.specs.Views.{attribute_of}
use Rattle.netlink_shapes.specs.Listing.{listed}
use Rattle.netlink_shapes.specs.Shapes.{rows_in, within}
use Rattle.netlink_shapes.specs.ListingLaws.{before_malformed, before_nothing}
use Rattle.netlink_family.proofs.Appending.{keeps, keeps_step}
use Rattle.netlink_family.proofs.late.keeps_all.Goals as goal

pub returns-then-not-keeps_shape : goal.returns-then-not-keeps_shape
returns-then-not-keeps_shape c =
    let step = rw c.in-Ok.is at c.in-Some.ensures.steps in
    let bytes : List ℕ = unread c.loop-item.item-iterator in
    let scope = within (rows_in c.args.rows.list.now) c.args.block.now in
    let kind : c.raw_kind.result ≡ (attribute_of bytes).kind = c.raw_kind.ensures.number ∙ ap (λ (b : List ℕ). (attribute_of b).kind) step.0 in
    let other : c.keeps_shape.result ≡ false = search rules in
    sym (keeps_step scope c.args.kind _ bytes (unread c.next.new.self) c.raw_kind.result c.keeps_shape.result c.loop-item.invariant
    step.2 kind c.keeps_shape.ensures
    ∙ ap (λ (b : Bool). b && list_all (keeps scope c.args.kind) (listed (unread c.next.new.self))) other)

pub loop-item-preserved : goal.loop-item-preserved
loop-item-preserved c =
    let step = rw c.in-Ok.is at c.in-Some.ensures.steps in
    let bytes : List ℕ = unread c.loop-item.item-iterator in
    let scope = within (rows_in c.args.rows.list.now) c.args.block.now in
    let kind : c.raw_kind.result ≡ (attribute_of bytes).kind = c.raw_kind.ensures.number ∙ ap (λ (b : List ℕ). (attribute_of b).kind) step.0 in
    let own : c.keeps_shape.result ≡ true = search rules in
    keeps_step scope c.args.kind _ bytes (unread c.next.new.self) c.raw_kind.result c.keeps_shape.result c.loop-item.invariant
    step.2 kind c.keeps_shape.ensures
    ∙ ap (λ (b : Bool). b && list_all (keeps scope c.args.kind) (listed (unread c.next.new.self))) own

pub returns-in-Err : goal.returns-in-Err
returns-in-Err c =
    let step = rw c.in-Err.is at c.in-Some.ensures.steps in
    let scope = within (rows_in c.args.rows.list.now) c.args.block.now in
    sym (c.loop-item.invariant
    ∙ ap (list_all (keeps scope c.args.kind)) (before_malformed (unread c.loop-item.item-iterator) _ step.1))

pub returns : goal.returns
returns c =
    let scope = within (rows_in c.args.rows.list.now) c.args.block.now in
    sym (c.loop-item.invariant
    ∙ ap (list_all (keeps scope c.args.kind)) (before_nothing (unread c.loop-item.item-iterator) c.in-None.ensures.steps.0))
