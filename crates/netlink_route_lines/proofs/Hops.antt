-- The walk over the list of next hops.
use Rattle.std.proofs.Common.{◌≡◌, ◌∙◌, ℕ, List, ap, sym, drop, take}
use Rattle.std.specs.List.{fold}
use Rattle.netlink_packet_core.specs.Attribute.{Attribute}
use Rattle.netlink_packet_core.specs.Walk.{Starts}
use Rattle.netlink_family.specs.Listing.{listed}
use Rattle.netlink_family.specs.ListingLaws.{before_step}
use Rattle.netlink_family.specs.Values.{IsValueOf, is_kept, kept_bytes, value_bytes, value_shape}
use Rattle.netlink_family.specs.declared.shape.Shape.TheVariants as shape
use Rattle.netlink_family.specs.declared.value.Value.{Value}
use Rattle.netlink_words.specs.Parts.{with_part, with_parts}
use Rattle.netlink_route_lines.specs.Multicast.{outgoing_text, with_outgoing}
use Rattle.netlink_route_lines.specs.RouteHops.{hop_parts, with_hop}
use Rattle.netlink_names.specs.declared.device.Known.{Known}

-- after a next hop, the rest leads to the same text
pub hop_step : (known : List Known) (family : ℕ) (text new bytes rest whole : List ℕ) (a : Attribute) (word : ℕ) (value : Value)
    → Starts bytes a rest → word ≡ a.kind → IsValueOf value a.value → value_shape value ≡ shape.HeaderNested 4 0
    → new ≡ with_parts text (hop_parts known family word (take 4 (value_bytes value)) (drop 4 (value_bytes value)))
    → fold (with_hop known family) text (listed bytes) ≡ whole → fold (with_hop known family) new (listed rest) ≡ whole
hop_step known family text new bytes rest whole a word value starts kind is nest pushed before =
    let hop : new ≡ with_hop known family text a =
    pushed ∙ ap (λ (k : ℕ). with_parts text (hop_parts known family k (take 4 (value_bytes value)) (drop 4 (value_bytes value)))) kind
    ∙ ap (λ (v : List ℕ). with_parts text (hop_parts known family a.kind (take 4 v) (drop 4 v))) (kept_bytes value a.value (ap is_kept nest) is) in
    ap (λ (t : List ℕ). fold (with_hop known family) t (listed rest)) hop
    ∙ sym (ap (fold (with_hop known family) text) (before_step bytes a rest starts)) ∙ before

-- and after an outgoing link
pub outgoing_step : (known : List Known) (text new bytes rest whole : List ℕ) (a : Attribute) (word : ℕ) (value : Value)
    → Starts bytes a rest → word ≡ a.kind → IsValueOf value a.value → value_shape value ≡ shape.HeaderNested 4 0
    → new ≡ with_part text (outgoing_text known word (take 4 (value_bytes value)))
    → fold (with_outgoing known) text (listed bytes) ≡ whole → fold (with_outgoing known) new (listed rest) ≡ whole
outgoing_step known text new bytes rest whole a word value starts kind is nest pushed before =
    let hop : new ≡ with_outgoing known text a =
    pushed ∙ ap (λ (k : ℕ). with_part text (outgoing_text known k (take 4 (value_bytes value)))) kind
    ∙ ap (λ (v : List ℕ). with_part text (outgoing_text known a.kind (take 4 v))) (kept_bytes value a.value (ap is_kept nest) is) in
    ap (λ (t : List ℕ). fold (with_outgoing known) t (listed rest)) hop
    ∙ sym (ap (fold (with_outgoing known) text) (before_step bytes a rest starts)) ∙ before
