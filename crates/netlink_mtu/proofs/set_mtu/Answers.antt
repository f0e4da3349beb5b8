use Rattle.std.proofs.Common.{rules, ◌≡◌, ◌++◌, List, ℕ, ap, sym, ◌∙◌, subst, inr, MutBor}
use Rattle.netlink_packet_core.specs.Header.{payload_of}
use Rattle.netlink_mtu.specs.Mtu.{HasNoMtuIn}
use Rattle.netlink_mtu.proofs.Frames.{block_is, frame_kept, set_in_frame}
use Rattle.netlink_mtu.proofs.set_mtu.Goals as goal

pub returns-clause-set : goal.returns-clause-set
returns-clause-set c = λ yes.
    let payload : payload_of c.args.frame.now ≡ c.split_at_mut-block.result.0.now ++ c.split_at_mut-block.result.1.now =
    ap (λ (b : MutBor (List ℕ)). payload_of b.now) (sym c.new-view.ensures.keeps) ∙ sym c.payload_mut.ensures.value
    ∙ c.split_at_mut-block.ensures.value in
    set_in_frame c.args.frame.now c.split_at_mut-block.result.0.now c.split_at_mut-block.result.1.now c.set_mtu_in.new.block _ c.args.mtu
    (search rules) payload c.split_at_mut-block.ensures.front_len (c.set_mtu_in.ensures.set yes)

pub returns-clause-unchanged : goal.returns-clause-unchanged
returns-clause-unchanged c = λ no.
    let payload : payload_of c.args.frame.now ≡ c.split_at_mut-block.result.0.now ++ c.split_at_mut-block.result.1.now =
    ap (λ (b : MutBor (List ℕ)). payload_of b.now) (sym c.new-view.ensures.keeps) ∙ sym c.payload_mut.ensures.value
    ∙ c.split_at_mut-block.ensures.value in
    frame_kept c.args.frame.now c.split_at_mut-block.result.0.now c.split_at_mut-block.result.1.now c.set_mtu_in.new.block _
    (search rules) (search rules) payload (c.set_mtu_in.ensures.unchanged no)

pub returns-clause-reason : goal.returns-clause-reason
returns-clause-reason c = λ no.
    let payload : payload_of c.args.frame.now ≡ c.split_at_mut-block.result.0.now ++ c.split_at_mut-block.result.1.now =
    ap (λ (b : MutBor (List ℕ)). payload_of b.now) (sym c.new-view.ensures.keeps) ∙ sym c.payload_mut.ensures.value
    ∙ c.split_at_mut-block.ensures.value in
    inr (inr (subst HasNoMtuIn
    (sym (block_is c.args.frame.now c.split_at_mut-block.result.0.now c.split_at_mut-block.result.1.now payload
    c.split_at_mut-block.ensures.front_len))
    (c.set_mtu_in.ensures.reason no)))
