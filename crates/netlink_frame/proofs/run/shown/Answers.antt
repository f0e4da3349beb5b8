use Rattle.std.proofs.Common.{ℕ, List, subst}
use Rattle.netlink_packet_core.specs.Refusal.{IsRefusal}
use Rattle.netlink_frame.specs.PingPong.{ping_pong_decoding, wants_memory}
use Rattle.netlink_frame.proofs.run.shown.Goals as goal

pub returns-in-Err-clause-refuses : goal.returns-in-Err-clause-refuses
returns-in-Err-clause-refuses c =
    λ kept. subst (λ (bytes : List ℕ). IsRefusal ping_pong_decoding wants_memory bytes c.in-Err.cause)
    c.deref.ensures.value c.in-Err.ensures.refuses
