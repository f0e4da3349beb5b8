use denote.Ref.{Bor}
use Rattle.std.proofs.Common.{◌≡◌, ℕ, List, ap, ◌∙◌, arith}
use Rattle.std.proofs.lemmas.List.{drop_all}
use Rattle.netlink_packet_core.specs.Header.{field}
use Rattle.netlink_c.proofs.DescribeLemmas.{lines_join}
use Rattle.netlink_c.proofs.describe.write_before.Goals as goal

pub returns-clause-written : goal.returns-clause-written
returns-clause-written c =
    let at : (a w : ℕ) → field a w c.new-view.result.buffer.now ≡ field a w c.args.bytes.now =
    λ a w. ap (λ (b : Bor (List ℕ)). field a w b.now) c.new-view.ensures.keeps in
    lines_join c.args.bytes.now c.args.name.now _ _ _ _ _ _ _ _ _ _ _ _ (drop_all 95 c.args.lines.now (omega arith)) c.prepend-at.ensures.written
    c.prepend_line-at.ensures.written c.prepend_line-at-2.ensures.written c.prepend_line-at-3.ensures.written
    c.prepend_line-at-4.ensures.written c.prepend_line.ensures.written (c.length.ensures.number ∙ at 0 4)
    (c.from-2.ensures ∙ c.message_type.ensures.number ∙ at 4 2) (c.from.ensures ∙ c.flags.ensures.number ∙ at 6 2)
    (c.sequence_number.ensures.number ∙ at 8 4) (c.port_number.ensures.number ∙ at 12 4)
