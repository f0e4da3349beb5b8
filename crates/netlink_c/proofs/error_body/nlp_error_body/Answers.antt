use Rattle.std.proofs.Common.{◌+◌, ◌≤◌, ℕ, List, Bool, arith, ap, ◌∙◌, drop, length}
use Rattle.std.proofs.lemmas.List.{take_rest}
use Rattle.netlink_packet_core.specs.Attribute.{padding}
use Rattle.netlink_replies.specs.Bodies.{error_attributes, request_size}
use Rattle.netlink_replies.specs.Headers.{has_flag}
use Rattle.netlink_c.proofs.BodyLemmas.{attributes_inside, attributes_part}
use Rattle.netlink_c.proofs.error_body.nlp_error_body.Goals as goal

pub returns-clause-attributes : goal.returns-clause-attributes
returns-clause-attributes c =
    let payload : List ℕ = c.args.payload.now in
    let after : ℕ = request_size c.args.flags (drop 4 payload) in
    let has : Bool = has_flag c.args.flags 512 in
    let same = c.new-parts.ensures.attributes ∙ ap (error_attributes c.args.flags) (take_rest payload 4) in
    let size = ap length same in
    let inside : length c.new-parts.result.attributes.now ≤ length payload =
    attributes_inside has (after + padding after) payload _ size in
    λ _. (omega arith, attributes_part has (after + padding after) payload _ size)
