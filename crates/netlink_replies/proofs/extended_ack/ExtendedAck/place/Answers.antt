use Rattle.std.proofs.Common.{◌≡◌, ◌≢◌, ◌-◌, ℕ, List, length, ap, sym, ◌∙◌, rules, Bor}
use Rattle.std.specs.Prelude.{slice_range}
use Rattle.netlink_packet_core.specs.Attribute.{Attribute}
use Rattle.netlink_packet_core.specs.Steps.{unread}
use Rattle.netlink_packet_core.specs.Views.{attribute_of, length_field, masked, raw_kind}
use Rattle.netlink_replies.proofs.PlaceLemmas.{rest_all, rest_on, rest_part}
use Rattle.netlink_replies.proofs.Values.{searches_all, searches_end, searches_fault, searches_found, searches_on}
use Rattle.netlink_replies.proofs.extended_ack.ExtendedAck.place.Goals as goal

pub loop-item-init : goal.loop-item-init
loop-item-init c =
    let bytes : List ℕ = c.args.self.now.attributes.now in
    let rest : List ℕ = unread c.into_iter-item-iterator.result in
    let same : rest ≡ bytes = search rules in
    record { searches = searches_all c.args.kind bytes rest same; rest = rest_all bytes rest same }

pub returns-then-found-kind-clause-place : goal.returns-then-found-kind-clause-place
returns-then-found-kind-clause-place c =
    let step = rw c.in-Ok.is at c.in-Some.ensures.steps in
    let whole : List ℕ = c.args.self.now.attributes.now in
    let bytes : List ℕ = unread c.loop-item.item-iterator in
    let a : Attribute = attribute_of bytes in
    let same : masked a.kind ≡ c.args.kind =
    ap (λ (b : List ℕ). masked (raw_kind b)) (sym step.0) ∙ sym c.kind-found.ensures.number ∙ c.if-found-kind.true in
    let inner : c.into_inner.result.now ≡ bytes = ap (λ (x : Bor (List ℕ)). x.now) c.into_inner.ensures.keeps ∙ step.0 in
    let said : c.length-size.result ≡ length_field bytes = c.length-size.ensures.number ∙ ap length_field step.0 in
    let start : ℕ = length whole - length c.into_inner.result.now in
    let at : start ≡ length whole - length bytes = ap (λ (b : List ℕ). length whole - length b) inner in
    let value = rest_part whole bytes start c.length-size.result c.loop-item.invariant.rest at
    ∙ ap (slice_range bytes 4) said in
    searches_found c.args.kind whole bytes a _ _ c.loop-item.invariant.searches step.2 same value

pub loop-item-preserved : goal.loop-item-preserved
loop-item-preserved c =
    let step = rw c.in-Ok.is at c.in-Some.ensures.steps in
    let bytes : List ℕ = unread c.loop-item.item-iterator in
    let a : Attribute = attribute_of bytes in
    let other : masked a.kind ≢ c.args.kind =
    λ same. c.if-found-kind.false (c.kind-found.ensures.number ∙ ap (λ (b : List ℕ). masked (raw_kind b)) step.0 ∙ same) in
    record {
      searches = searches_on c.args.kind c.args.self.now.attributes.now bytes a _ c.loop-item.invariant.searches step.2 other;
      rest = rest_on c.args.self.now.attributes.now bytes a _ c.loop-item.invariant.rest step.2;
    }

pub returns-in-Err-clause-place : goal.returns-in-Err-clause-place
returns-in-Err-clause-place c =
    let step = rw c.in-Err.is at c.in-Some.ensures.steps in
    searches_fault c.args.kind c.args.self.now.attributes.now (unread c.loop-item.item-iterator) _ c.loop-item.invariant.searches step.0 step.1

pub returns-clause-place : goal.returns-clause-place
returns-clause-place c =
    searches_end c.args.kind c.args.self.now.attributes.now (unread c.loop-item.item-iterator) c.loop-item.invariant.searches
    c.in-None.ensures.steps.0
