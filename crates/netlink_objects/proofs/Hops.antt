-- The walk over the list of next hops.
use Rattle.std.proofs.Common.{◌≡◌, ◌∙◌, ℕ, List, ap, sym, drop, map, take}
use Rattle.netlink_packet_core.specs.Attribute.{Attribute}
use Rattle.netlink_packet_core.specs.Walk.{Starts}
use Rattle.netlink_family.specs.Listing.{listed}
use Rattle.netlink_family.specs.ListingLaws.{before_step}
use Rattle.netlink_family.specs.Values.{IsValueOf, is_kept, kept_bytes, value_bytes, value_shape}
use Rattle.netlink_family.specs.declared.shape.Shape.TheVariants as shape
use Rattle.netlink_family.specs.declared.value.Value.{Value}
use Rattle.netlink_json.specs.Fields.{Written, object_of, with_item, with_items}
use Rattle.netlink_names.specs.declared.device.Known.{Known}
use Rattle.netlink_objects.specs.RouteHops.{hop_fields, hop_json, outgoing_fields, outgoing_json}

-- after a next hop, the rest leads to the same array
pub hop_step : (known : List Known) (family : ℕ) (old new whole : Written) (bytes rest : List ℕ) (a : Attribute) (word : ℕ) (value : Value)
    → Starts bytes a rest → word ≡ a.kind → IsValueOf value a.value → value_shape value ≡ shape.HeaderNested 4 0
    → new ≡ with_item old (object_of (hop_fields known family word (take 4 (value_bytes value)) (drop 4 (value_bytes value))))
    → with_items old (map (hop_json known family) (listed bytes)) ≡ whole
    → with_items new (map (hop_json known family) (listed rest)) ≡ whole
hop_step known family old new whole bytes rest a word value starts kind is nest put before =
    let hop : new ≡ with_item old (hop_json known family a) =
    put ∙ ap (λ (k : ℕ). with_item old (object_of (hop_fields known family k (take 4 (value_bytes value)) (drop 4 (value_bytes value))))) kind
    ∙ ap (λ (v : List ℕ). with_item old (object_of (hop_fields known family a.kind (take 4 v) (drop 4 v)))) (kept_bytes value a.value (ap is_kept nest) is) in
    ap (λ (w : Written). with_items w (map (hop_json known family) (listed rest))) hop
    ∙ sym (ap (λ (l : List Attribute). with_items old (map (hop_json known family) l)) (before_step bytes a rest starts)) ∙ before

-- and after an outgoing link
pub outgoing_step : (known : List Known) (old new whole : Written) (bytes rest : List ℕ) (a : Attribute) (word : ℕ) (value : Value)
    → Starts bytes a rest → word ≡ a.kind → IsValueOf value a.value → value_shape value ≡ shape.HeaderNested 4 0
    → new ≡ with_item old (object_of (outgoing_fields known word (take 4 (value_bytes value))))
    → with_items old (map (outgoing_json known) (listed bytes)) ≡ whole
    → with_items new (map (outgoing_json known) (listed rest)) ≡ whole
outgoing_step known old new whole bytes rest a word value starts kind is nest put before =
    let link : new ≡ with_item old (outgoing_json known a) =
    put ∙ ap (λ (k : ℕ). with_item old (object_of (outgoing_fields known k (take 4 (value_bytes value))))) kind
    ∙ ap (λ (v : List ℕ). with_item old (object_of (outgoing_fields known a.kind (take 4 v)))) (kept_bytes value a.value (ap is_kept nest) is) in
    ap (λ (w : Written). with_items w (map (outgoing_json known) (listed rest))) link
    ∙ sym (ap (λ (l : List Attribute). with_items old (map (outgoing_json known) l)) (before_step bytes a rest starts)) ∙ before
