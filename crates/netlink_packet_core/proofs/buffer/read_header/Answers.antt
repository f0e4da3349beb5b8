use Rattle.std.proofs.Common.{List, ℕ, drop, length, ◌≤◌, arith, ap, sym, ◌∙◌, subst}
use Rattle.netlink_bytes.specs.Numbers.{IsBytes}
use Rattle.netlink_packet_core.specs.Header.{IsHeader, field, header_of}
use Rattle.netlink_packet_core.proofs.Headers.{header_bytes-header_of, header_in_range, same_header}
use Rattle.netlink_packet_core.proofs.buffer.read_header.Goals as goal

header_in_front : (bytes : List ℕ) → IsBytes bytes → 16 ≤ length bytes → IsHeader bytes (header_of bytes)
header_in_front bytes each long =
    record { rest = drop 16 bytes; whole = header_bytes-header_of bytes each long; in_range = header_in_range bytes each long }

pub returns-clause-is : goal.returns-clause-is
returns-clause-is c =
    let kept = c.new-view.ensures.keeps in
    subst (IsHeader c.args.bytes.now)
    (sym (same_header _ (header_of c.args.bytes.now)
    (c.length.ensures.number ∙ ap (λ (s : _). field 0 4 s.now) kept)
    (c.message_type.ensures.number ∙ ap (λ (s : _). field 4 2 s.now) kept)
    (c.flags.ensures.number ∙ ap (λ (s : _). field 6 2 s.now) kept)
    (c.sequence_number.ensures.number ∙ ap (λ (s : _). field 8 4 s.now) kept)
    (c.port_number.ensures.number ∙ ap (λ (s : _). field 12 4 s.now) kept)))
    (header_in_front c.args.bytes.now (λ i. omega (arith, c.type_inv.bytes i)) c.requires)
