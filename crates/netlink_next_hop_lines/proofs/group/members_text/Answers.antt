use Rattle.std.proofs.Common.{◌∙◌, ◌-◌, ap, sym, ℕ, List, drop, length, string_bytes, take}
use Rattle.netlink_next_hop_lines.specs.Group.{members_text, with_member, with_members}
use Rattle.netlink_next_hop_lines.proofs.Members.{first_weight, next_member, no_member}
use Rattle.netlink_next_hop_lines.proofs.group.members_text.Goals as goal

pub loop-rest-preserved : goal.loop-rest-preserved
loop-rest-preserved c =
    let text : List ℕ = string_bytes c.loop-rest.text in
    let rest : List ℕ = c.loop-rest.rest.now in
    let more : List ℕ = take (length rest - 8) (drop 8 rest) in
    ap (λ (t : List ℕ). with_members t more)
    (c.in_ok-push_member.ensures ∙ ap (λ (id : ℕ). with_member text id (first_weight rest)) c.id_of.ensures)
    ∙ sym (next_member text rest c.in-len8-up.len_at_least)
    ∙ c.loop-rest.invariant

pub returns : goal.returns
unfolding members_text
returns c =
    sym (no_member (string_bytes c.loop-rest.text) c.loop-rest.rest.now c.in_default.len_below) ∙ c.loop-rest.invariant
