use Rattle.std.proofs.Common.{◌≡◌, ◌∙◌, ap, refl, sym, subst, ℕ, List, false, true, IfOk, string_bytes}
use Rattle.std.specs.Prelude.{Option}
use Rattle.std.specs.Option.{option_map}
use Rattle.netlink_family.specs.Shapes.{has_type}
use Rattle.netlink_lines.specs.Lines.{bridge_line, controlled_line, controlled_types, later_line, more_line, more_types}
use Rattle.netlink_lines.proofs.Rest.{else_if, is_false, moved, two_ifs}
use Rattle.netlink_lines.proofs.line.later_line.Goals as goal

pub returns-in-Ok-split : goal.returns-in-Ok-split
returns-in-Ok-split c =
    let first : has_type more_types c.args.message.now.message_type ≡ false = is_false (has_type more_types c.args.message.now.message_type) c.in-Err.ensures.which.1 in
    let next : has_type controlled_types c.in-Err.other.message_type ≡ true = c.in-Ok-split.ensures.which.0 refl in
    let second : has_type controlled_types c.args.message.now.message_type ≡ true = ap (has_type controlled_types) (sym c.in-Err.ensures.second.0) ∙ next in
    let there = moved (controlled_line c.args.known.now) c.in-Ok-split.traffic.message_type c.args.message.now.message_type c.in-Ok-split.traffic.payload.now c.args.message.now.payload.now
    (c.in-Ok-split.ensures.first.0 ∙ c.in-Err.ensures.second.0) (c.in-Ok-split.ensures.first.1 ∙ c.in-Err.ensures.second.1) in
    let whole = else_if (has_type more_types c.args.message.now.message_type) (has_type controlled_types c.args.message.now.message_type) (more_line c.args.known.now c.args.message.now.message_type c.args.message.now.payload.now) (controlled_line c.args.known.now c.args.message.now.message_type c.args.message.now.payload.now) (bridge_line c.args.known.now c.args.message.now.message_type c.args.message.now.payload.now) first second in
    subst (λ (w : Option (List ℕ)). IfOk c.controlled_line.result (λ text. option_map string_bytes text ≡ w)) (there ∙ sym whole) c.controlled_line.ensures

pub returns-in-Err-split : goal.returns-in-Err-split
returns-in-Err-split c =
    let first : has_type more_types c.args.message.now.message_type ≡ false = is_false (has_type more_types c.args.message.now.message_type) c.in-Err.ensures.which.1 in
    let next : has_type controlled_types c.in-Err.other.message_type ≡ false =
    is_false (has_type controlled_types c.in-Err.other.message_type) c.in-Err-split.ensures.which.1 in
    let second : has_type controlled_types c.args.message.now.message_type ≡ false = ap (has_type controlled_types) (sym c.in-Err.ensures.second.0) ∙ next in
    let there = moved (bridge_line c.args.known.now) c.in-Err-split.bridge.message_type c.args.message.now.message_type c.in-Err-split.bridge.payload.now c.args.message.now.payload.now
    (c.in-Err-split.ensures.second.0 ∙ c.in-Err.ensures.second.0) (c.in-Err-split.ensures.second.1 ∙ c.in-Err.ensures.second.1) in
    let whole = two_ifs (has_type more_types c.args.message.now.message_type) (has_type controlled_types c.args.message.now.message_type) (more_line c.args.known.now c.args.message.now.message_type c.args.message.now.payload.now) (controlled_line c.args.known.now c.args.message.now.message_type c.args.message.now.payload.now) (bridge_line c.args.known.now c.args.message.now.message_type c.args.message.now.payload.now) first second in
    subst (λ (w : Option (List ℕ)). IfOk c.bridge_line.result (λ text. option_map string_bytes text ≡ w)) (there ∙ sym whole) c.bridge_line.ensures
