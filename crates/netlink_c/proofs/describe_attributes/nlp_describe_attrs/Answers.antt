use denote.Ref.{Bor}
use Rattle.std.proofs.Common.{◌≡◌, ℕ, ◌-◌, List, length, length-drop, drop, ap, subst, sym, ◌∙◌, arith}
use Rattle.std.proofs.lemmas.List.{length-take, take_all}
use Rattle.netlink_packet_core.specs.Fields.{number_at-fits}
use Rattle.netlink_packet_core.specs.Header.{field, payload_of}
use Rattle.netlink_packet_core.specs.Walk.{Walk}
use Rattle.netlink_c.specs.Describe.{attributes_after}
use Rattle.netlink_c.proofs.AttributeTexts.{message_out}
use Rattle.netlink_c.proofs.describe_attributes.nlp_describe_attrs.Goals as goal

pub write_message-requires : goal.write_message-requires
write_message-requires c =
    let bytes : List ℕ = c.args.bytes.now in
    let start : ℕ = c.write_before-start.result in
    let whole = c.in-Ok.ensures.whole in
    let before = length-take (95 - start) (drop start c.write_before-start.new.lines) in
    let same : c.payload.result.now ≡ payload_of bytes = c.payload.ensures.bytes
    ∙ ap (λ (b : Bor (List ℕ)). payload_of b.now) c.in-Ok.ensures.keeps in
    let size = ap length same ∙ length-take (field 0 4 bytes - 16) (drop 16 bytes) in
    let fits = number_at-fits 0 4 bytes (λ i. omega (arith, c.type_inv.bytes i)) (omega (arith, whole.header)) in
    record {
      short = (omega (arith, before), omega (arith, size, fits));
    }

pub returns-in-Ok-clause-text : goal.returns-in-Ok-clause-text
returns-in-Ok-clause-text c = λ holds all end walk.
    let lines : List ℕ = c.write_before-start.new.lines in
    let start : ℕ = c.write_before-start.result in
    let left = length-drop start lines in
    let same : c.payload.result.now ≡ payload_of c.args.bytes.now = c.payload.ensures.bytes
    ∙ ap (λ (b : Bor (List ℕ)). payload_of b.now) c.in-Ok.ensures.keeps in
    message_out c.args.bytes.now _ c.payload.result.now c.args.buffer.now c.write_message.new.buffer c.args.fixed c.write_message.new.size
    c.write_message.result all end (take_all (95 - start) (drop start lines) (omega (arith, left, c.write_before-start.auto.lines)) ∙ c.write_before-start.ensures.written) same
    (c.write_message.ensures all end (subst (λ (p : List ℕ). Walk (attributes_after c.args.fixed p) all end) (sym same) walk))
