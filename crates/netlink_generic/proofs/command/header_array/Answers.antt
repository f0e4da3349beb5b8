use Rattle.std.proofs.Common.{ℕ, ◌++◌, ap, append-nil, drop, ◌∙◌}
use Rattle.std.specs.Prelude.{replicate}
use Rattle.netlink_packet_core.specs.Header.{header_bytes}
use Rattle.netlink_packet_core.specs.Sizes.{length-header_bytes}
use Rattle.netlink_generic.proofs.command.header_array.Goals as goal

pub returns : goal.returns
returns c =
    let h = c.args.header.now in
    c.emit.ensures.written ∙ ap (λ (n : ℕ). header_bytes h ++ drop n (replicate 16 0)) (length-header_bytes h)
    ∙ append-nil (header_bytes h)
