use Rattle.std.proofs.Common.{List, ℕ, arith, ap, ◌-◌, ◌∙◌, drop, length, refl, take}
use denote.Ref.{Bor}
use Rattle.std.proofs.lemmas.List.{length-take, take_rest}
use Rattle.netlink_packet_core.specs.FieldLaws.{length_field-fits}
use Rattle.netlink_packet_core.specs.NumberLaws.{IsBytes-drop}
use Rattle.netlink_packet_core.specs.Views.{length_field, raw_kind}
use Rattle.netlink_c.proofs.AttributeTexts.{along_end, along_fault, along_read}
use Rattle.netlink_c.proofs.describe_attributes.add_attributes.Goals as goal

pub add_attribute-to-requires : goal.add_attribute-to-requires
add_attribute-to-requires c =
    let block : List ℕ = c.args.block.now in
    let rest : List ℕ = take (length block - c.loop-from.from) (drop c.loop-from.from block) in
    let same = take_rest block c.loop-from.from in
    let whole = c.in-Some.ensures.whole in
    let held = whole.0.header in
    let size = ap length same in
    let fits = length_field-fits (drop c.loop-from.from block) (IsBytes-drop c.loop-from.from block (λ i. omega (arith, c.type_inv.block i)))
    (omega (arith, held, size)) in
    let field = whole.1 ∙ ap length_field same in
    let taken = length-take (c.in-Some.size - 4) (drop 4 rest) in
    let bound = c.loop-from.invariant.bound in
    let inside = c.loop-from.invariant.inside in
    record {
      short = (omega (arith, bound, inside, c.requires.short.0, c.requires.short.1), omega (arith, taken, field, fits));
    }

pub loop-from-preserved : goal.loop-from-preserved
loop-from-preserved c =
    along_read c.args.block.now c.args.buffer.now c.loop-from.buffer c.add_attribute-to.new.buffer _ _ c.args.at c.loop-from.to c.loop-from.from _ c.in-Some.size
    c.after-from.result c.add_attribute-to.result (λ i. omega (arith, c.type_inv.block i)) (omega (arith, c.loop-from-test.true))
    (take_rest c.args.block.now c.loop-from.from) c.in-Some.ensures.whole.0 c.in-Some.ensures.whole.1
    (c.raw_kind-kind.ensures.number ∙ ap (λ (b : Bor (List ℕ)). raw_kind b.now) c.new.ensures.keeps) refl c.after-from.ensures.rest
    c.after-from.ensures.forward c.add_attribute-to.ensures.adds c.add_attribute-to.ensures.bound c.loop-from.invariant

pub returns : goal.returns
returns c =
    along_end c.args.block.now c.args.buffer.now c.loop-from.buffer c.args.at c.loop-from.to c.loop-from.from (omega (arith, c.loop-from-test.false))
    c.loop-from.invariant

pub returns-in_default : goal.returns-in_default
returns-in_default c =
    along_fault c.args.block.now c.args.buffer.now c.loop-from.buffer c.add-to.new.buffer c.add_bytes.new.buffer _ c.args.at c.loop-from.to c.loop-from.from
    c.add-to.result c.add_bytes.result (omega (arith, c.loop-from-test.true)) (take_rest c.args.block.now c.loop-from.from)
    c.in_default.ensures.none c.add-to.ensures c.add_bytes.ensures.adds c.loop-from.invariant
