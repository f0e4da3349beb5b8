use Rattle.std.proofs.Common.{◌≡◌, ◌∙◌, ℕ, List, ap, string_bytes, sym}
use Rattle.std.specs.List.{fold}
use Rattle.netlink_packet_core.specs.Steps.{unread}
use Rattle.netlink_packet_core.specs.Views.{attribute_of}
use Rattle.netlink_bridge_lines.specs.Sources.{with_entry}
use Rattle.netlink_shapes.specs.ListingLaws.{before_malformed, before_nothing}
use Rattle.netlink_bridge_lines.proofs.Entries.{entry_step}
use Rattle.netlink_bridge_lines.proofs.sources.push_list.Goals as goal

pub loop-item-preserved : goal.loop-item-preserved
loop-item-preserved c =
    let step = rw c.in-Ok.is at c.in-Some.ensures.steps in
    let bytes : List ℕ = unread c.loop-item.item-iterator in
    let value : c.value.result.now ≡ (attribute_of bytes).value = c.value.ensures.bytes ∙ ap (λ (b : List ℕ). (attribute_of b).value) step.0 in
    entry_step (string_bytes c.loop-item.text) (string_bytes c.push_entry.new.text) bytes (unread c.next.new.self) _ (attribute_of bytes)
    c.value.result.now step.2 value c.in_ok-push_entry-in-Ok.ensures c.loop-item.invariant

pub returns-in-Err : goal.returns-in-Err
returns-in-Err c =
    let step = rw c.in-Err.is at c.in-Some.ensures.steps in
    sym (ap (fold with_entry (string_bytes c.loop-item.text)) (before_malformed (unread c.loop-item.item-iterator) _ step.1))
    ∙ c.loop-item.invariant

pub returns : goal.returns
returns c =
    sym (ap (fold with_entry (string_bytes c.loop-item.text))
    (before_nothing (unread c.loop-item.item-iterator) c.in-None.ensures.steps.0))
    ∙ c.loop-item.invariant
