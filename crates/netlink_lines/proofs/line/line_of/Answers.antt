use Rattle.std.proofs.Common.{◌≡◌, ◌∙◌, ap, sym, subst, ℕ, List, false, IfOk, string_bytes}
use Rattle.std.specs.Prelude.{Option, Some}
use Rattle.std.specs.Option.{option_map}
use Rattle.netlink_family.specs.Shapes.{has_type}
use Rattle.netlink_lines.specs.Lines.{other_line, route_line, link_types, address_types}
use Rattle.netlink_link_lines.specs.Link.{link_line}
use Rattle.netlink_address_lines.specs.Address.{address_line}
use Rattle.netlink_lines.proofs.Rest.{is_false, moved, two_ifs}
use Rattle.netlink_lines.proofs.line.line_of.Goals as goal

pub returns-in-Err-split : goal.returns-in-Err-split
unfolding route_line
returns-in-Err-split c =
    let first : has_type link_types c.args.message.now.message_type ≡ false = is_false (has_type link_types c.args.message.now.message_type) c.in-Err.ensures.which.1 in
    let next : has_type address_types c.in-Err.other.message_type ≡ false =
    is_false (has_type address_types c.in-Err.other.message_type) c.in-Err-split.ensures.which.1 in
    let second : has_type address_types c.args.message.now.message_type ≡ false = ap (has_type address_types) (sym c.in-Err.ensures.second.0) ∙ next in
    let there = moved (other_line c.args.known.now) c.in-Err-split.other.message_type c.args.message.now.message_type c.in-Err-split.other.payload.now c.args.message.now.payload.now
    (c.in-Err-split.ensures.second.0 ∙ c.in-Err.ensures.second.0) (c.in-Err-split.ensures.second.1 ∙ c.in-Err.ensures.second.1) in
    let whole = two_ifs (has_type link_types c.args.message.now.message_type) (has_type address_types c.args.message.now.message_type) (Some (link_line c.args.known.now c.args.message.now.message_type c.args.message.now.payload.now)) (Some (address_line c.args.known.now c.args.message.now.message_type c.args.message.now.payload.now)) (other_line c.args.known.now c.args.message.now.message_type c.args.message.now.payload.now) first second in
    subst (λ (w : Option (List ℕ)). IfOk c.other_line.result (λ text. option_map string_bytes text ≡ w)) (there ∙ sym whole) c.other_line.ensures
