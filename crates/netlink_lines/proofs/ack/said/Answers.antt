use Rattle.std.proofs.Common.{rules, ◌≡◌, ◌∙◌, ap, arith, ℕ, Option, string_bytes}
use Rattle.netlink_packet_core.specs.WalkLaws.{has_walk}
use Rattle.netlink_lines.specs.Ack.{number_of, text_of, text_words}
use Rattle.netlink_lines.specs.Concern.{IsPlace, missing_words}
use Rattle.netlink_lines.proofs.Words.{says_so}
use Rattle.netlink_lines.proofs.ack.said.Goals as goal

pub returns : goal.returns
returns c =
    let walk = has_walk c.args.attributes.now (λ i. omega (arith, c.type_inv.attributes i)) in
    let text : string_bytes c.in_ok-text.text ≡ text_words (text_of walk.0) =
    c.in_ok-text.ensures ∙ ap text_words (c.message.ensures walk.0 walk.1 walk.2) in
    let place : IsPlace (number_of 2 walk.0) c.args.request.now (string_bytes c.in_ok-place.place) =
    rw c.in_ok-place.was at (c.place_words.ensures walk.0 walk.1 walk.2) in
    let missing : string_bytes c.in_ok-missing.missing ≡ missing_words (number_of 5 walk.0) (number_of 6 walk.0) =
    c.in_ok-missing.ensures
    ∙ ap (λ (k : Option ℕ). missing_words k c.missing_nest.result) (c.missing_type.ensures walk.0 walk.1 walk.2)
    ∙ ap (missing_words (number_of 5 walk.0)) (c.missing_nest.ensures walk.0 walk.1 walk.2) in
    says_so _ _ walk.0 walk.1 _ _ _ c.format.result walk.2 text place missing (search rules)
