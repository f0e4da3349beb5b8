-- The walk over the list of properties of a link.
use Rattle.std.proofs.Common.{◌≡◌, ◌∙◌, ◌==◌, ℕ, Bool, true, false, List, [], ◌∷◌, ap, refl, sym, if◌then◌else◌}
use Rattle.std.proofs.lemmas.Bool.{eqb-true}
use Rattle.netlink_family.specs.Listing.{listed}
use Rattle.netlink_family.specs.ListingLaws.{before_step}
use Rattle.netlink_family.specs.Strings.{until_nul}
use Rattle.netlink_family.specs.Values.{IsValueOf, is_kept, kept_bytes, value_bytes, value_shape}
use Rattle.netlink_family.specs.declared.shape.Shape.TheVariants as shape
use Rattle.netlink_family.specs.declared.value.Value.{Value}
use Rattle.netlink_json.specs.Fields.{Written, with_items}
use Rattle.netlink_json.specs.Json.{Json, text}
use Rattle.netlink_packet_core.specs.Attribute.{Attribute}
use Rattle.netlink_packet_core.specs.Walk.{Starts}
use Rattle.netlink_route.specs.declared.links.TheConstants.{IFLA_ALT_IFNAME}
use Rattle.netlink_objects.proofs.Items.{items_append}
use Rattle.netlink_objects.specs.Link.{alternative_of, alternatives}

-- only the bytes of a name matter
by_name : (named : Bool) (one two : List ℕ) → (named ≡ true → one ≡ two)
    → (λ (l : List Json). l) (if named then text (until_nul one) ∷ [] else [])
    ≡ (if named then text (until_nul two) ∷ [] else [])
by_name true one two same = ap (λ (v : List ℕ). text (until_nul v) ∷ []) (same refl)
by_name false one two same = refl

same_values : (kind : ℕ) (one two : List ℕ) → (kind ≡ IFLA_ALT_IFNAME → one ≡ two)
    → alternative_of kind one ≡ alternative_of kind two
same_values kind one two same =
    by_name (kind == IFLA_ALT_IFNAME) one two (λ is. same (eqb-true kind IFLA_ALT_IFNAME is))

-- after a property, the rest leads to the same array
pub property_step : (so_far new whole : Written) (bytes rest : List ℕ) (a : Attribute) (kind : ℕ) (value : Value)
    → Starts bytes a rest → kind ≡ a.kind → IsValueOf value a.value
    → (kind ≡ IFLA_ALT_IFNAME → value_shape value ≡ shape.Str)
    → new ≡ with_items so_far (alternative_of kind (value_bytes value))
    → with_items so_far (alternatives (listed bytes)) ≡ whole → with_items new (alternatives (listed rest)) ≡ whole
property_step so_far new whole bytes rest a kind value starts same_kind is named pushed before =
    let one : List Json = alternative_of a.kind a.value in
    let property : new ≡ with_items so_far one =
    pushed
    ∙ ap (with_items so_far)
    (same_values kind (value_bytes value) a.value (λ at. kept_bytes value a.value (ap is_kept (named at)) is)
    ∙ ap (λ (k : ℕ). alternative_of k a.value) same_kind) in
    ap (λ (w : Written). with_items w (alternatives (listed rest))) property
    ∙ sym (items_append so_far one (alternatives (listed rest)))
    ∙ sym (ap (λ (l : List Attribute). with_items so_far (alternatives l)) (before_step bytes a rest starts)) ∙ before
