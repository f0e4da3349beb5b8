use Rattle.std.proofs.Common.{◌∙◌, ◌-◌, ap, arith, sym, ℕ, List, string_bytes}
use Rattle.netlink_words.specs.Parts.{with_part, with_parts}
use Rattle.netlink_words.specs.Text.{ip_words}
use Rattle.netlink_route_lines.specs.Seg6.{segments_of}
use Rattle.netlink_route_lines.proofs.Segments.{next_segment, no_segment}
use Rattle.netlink_route_lines.proofs.seg6.push_segments.Goals as goal

pub loop-left-preserved : goal.loop-left-preserved
loop-left-preserved c =
    let text : List ℕ = string_bytes c.loop-left.text in
    let bytes : List ℕ = c.args.bytes.now in
    let left : ℕ = c.loop-left.left in (
      omega (arith, c.loop-left.invariant.0),
      ap (λ (t : List ℕ). with_parts t (segments_of bytes (left - 1)))
          (c.in_ok-push_ip.ensures ∙ ap (λ (s : List ℕ). with_part text (ip_words s)) c.segment_at.ensures)
          ∙ sym (next_segment text bytes left (omega (arith, c.loop-left-test.true)))
          ∙ c.loop-left.invariant.1,
    )

pub returns : goal.returns
returns c =
    sym (no_segment (string_bytes c.loop-left.text) c.args.bytes.now c.loop-left.left (omega (arith, c.loop-left-test.false)))
    ∙ c.loop-left.invariant.1
