use denote.Ref.{Bor}
use Rattle.std.proofs.Common.{◌≡◌, ℕ, ◌-◌, List, length, drop, ap, ◌∙◌, arith}
use Rattle.std.proofs.lemmas.List.{length-take}
use Rattle.netlink_packet_core.specs.Fields.{number_at-fits}
use Rattle.netlink_packet_core.specs.Header.{field, payload_of}
use Rattle.netlink_c.proofs.describe.nlp_describe.Goals as goal

pub write_text-requires : goal.write_text-requires
write_text-requires c =
    let bytes : List ℕ = c.args.bytes.now in
    let start : ℕ = c.write_before-start.result in
    let whole = c.in-Ok.ensures.whole in
    let before = length-take (95 - start) (drop start c.write_before-start.new.lines) in
    let same : c.payload.result.now ≡ payload_of bytes = c.payload.ensures.bytes
    ∙ ap (λ (b : Bor (List ℕ)). payload_of b.now) c.in-Ok.ensures.keeps in
    let size = ap length same ∙ length-take (field 0 4 bytes - 16) (drop 16 bytes) in
    let fits = number_at-fits 0 4 bytes (λ i. omega (arith, c.type_inv.bytes i)) (omega (arith, whole.header)) in
    record {
      short = (omega (arith, before), omega (arith, size, fits));
    }
