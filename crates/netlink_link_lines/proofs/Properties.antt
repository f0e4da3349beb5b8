-- The walk over the list of properties of a link.
use Rattle.std.proofs.Common.{◌≡◌, ◌∙◌, ◌==◌, ℕ, Bool, true, false, List, [], Some, ap, refl, sym, codes, if◌then◌else◌}
use Rattle.std.proofs.lemmas.Bool.{eqb-true}
use Rattle.std.specs.List.{fold}
use Rattle.netlink_packet_core.specs.Attribute.{Attribute}
use Rattle.netlink_packet_core.specs.Walk.{Starts}
use Rattle.netlink_family.specs.Listing.{listed}
use Rattle.netlink_family.specs.ListingLaws.{before_step}
use Rattle.netlink_family.specs.Strings.{until_nul}
use Rattle.netlink_family.specs.Values.{IsValueOf, is_kept, kept_bytes, value_bytes, value_shape}
use Rattle.netlink_family.specs.declared.shape.Shape.TheVariants as shape
use Rattle.netlink_family.specs.declared.value.Value.{Value}
use Rattle.netlink_route.specs.declared.links.TheConstants.{IFLA_ALT_IFNAME}
use Rattle.netlink_link_lines.specs.LinkProperties.{alternative_part, with_alternative}
use Rattle.netlink_words.specs.Parts.{string_part, with_part}

-- only the bytes of a name matter
by_name : (named : Bool) (one two : List ℕ) → (named ≡ true → one ≡ two)
    → (if named then string_part (codes "altname") (Some (until_nul one)) else [])
    ≡ (if named then string_part (codes "altname") (Some (until_nul two)) else [])
by_name true one two same = ap (λ (v : List ℕ). string_part (codes "altname") (Some (until_nul v))) (same refl)
by_name false one two same = refl

same_part : (kind : ℕ) (one two : List ℕ) → (kind ≡ IFLA_ALT_IFNAME → one ≡ two)
    → alternative_part kind one ≡ alternative_part kind two
unfolding alternative_part
same_part kind one two same =
    by_name (kind == IFLA_ALT_IFNAME) one two (λ is. same (eqb-true kind IFLA_ALT_IFNAME is))

-- after a property, the rest leads to the same text
pub property_step : (text new bytes rest whole : List ℕ) (a : Attribute) (kind : ℕ) (value : Value)
    → Starts bytes a rest → kind ≡ a.kind → IsValueOf value a.value
    → (kind ≡ IFLA_ALT_IFNAME → value_shape value ≡ shape.Str)
    → new ≡ with_part text (alternative_part kind (value_bytes value))
    → fold with_alternative text (listed bytes) ≡ whole → fold with_alternative new (listed rest) ≡ whole
property_step text new bytes rest whole a kind value starts same_kind is named pushed before =
    let property : new ≡ with_alternative text a =
    pushed
    ∙ ap (λ (part : List ℕ). with_part text part)
    (same_part kind (value_bytes value) a.value (λ at. kept_bytes value a.value (ap is_kept (named at)) is))
    ∙ ap (λ (k : ℕ). with_part text (alternative_part k a.value)) same_kind in
    ap (λ (t : List ℕ). fold with_alternative t (listed rest)) property
    ∙ sym (ap (fold with_alternative text) (before_step bytes a rest starts)) ∙ before
