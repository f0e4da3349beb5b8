-- The walk over the list of sources.
use Rattle.std.proofs.Common.{◌≡◌, ◌∙◌, ℕ, List, ap, sym}
use Rattle.std.specs.List.{fold}
use Rattle.netlink_bridge_lines.specs.Sources.{source_of, with_entry, with_source}
use Rattle.netlink_packet_core.specs.Attribute.{Attribute}
use Rattle.netlink_packet_core.specs.Walk.{Starts}
use Rattle.netlink_shapes.specs.Listing.{listed}
use Rattle.netlink_shapes.specs.ListingLaws.{before_step}

-- after an entry, the rest leads to the same text
pub entry_step : (text new bytes rest whole : List ℕ) (a : Attribute) (value : List ℕ)
    → Starts bytes a rest → value ≡ a.value → new ≡ with_source text (source_of value)
    → fold with_entry text (listed bytes) ≡ whole → fold with_entry new (listed rest) ≡ whole
entry_step text new bytes rest whole a value starts same pushed before =
    let entry : new ≡ with_entry text a = pushed ∙ ap (λ (v : List ℕ). with_source text (source_of v)) same in
    ap (λ (t : List ℕ). fold with_entry t (listed rest)) entry
    ∙ sym (ap (fold with_entry text) (before_step bytes a rest starts)) ∙ before
