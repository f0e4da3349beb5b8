-- Attributes of a block, one after another.
use Rattle.std.proofs.Common.{◌≡◌, ℕ, ◌+◌, ◌<◌, ◌≤◌, List, [], ◌∷◌, ◌++◌, length, take, drop, set, slice_index, refl, ap, sym, subst, ◌∙◌, arith}
use Rattle.std.proofs.lemmas.List.{drop-drop, drop-set-lt, take_more_set}
use Rattle.netlink_packet_core.specs.Attribute.{padding}
use Rattle.netlink_packet_core.specs.Views.{HoldsAttribute, length_field}
use Rattle.netlink_c.proofs.WalkLemmas.{attribute_found}
use Rattle.netlink_c.specs.Attributes.{AttributesAt, item_at}
use Rattle.netlink_c.specs.Steps.{StartsAttributeAt}
use Rattle.netlink_c.specs.declared.walk.AttributeItem.{AttributeItem}

-- one attribute more
attributes_more : (bytes : List ℕ) (at : ℕ) (items : List AttributeItem) (item : AttributeItem) (between next : ℕ)
    → AttributesAt bytes at items between → StartsAttributeAt bytes between item next → AttributesAt bytes at (items ++ (item ∷ [])) next
attributes_more bytes at [] item between next none starts =
    (next, subst (λ (here : ℕ). StartsAttributeAt bytes here item next) none starts, refl)
attributes_more bytes at (first ∷ more) item between next (after, begins, rest) starts =
    (after, begins, attributes_more bytes after more item between next rest starts)

-- the attributes written, after one more
pub attributes_set : (bytes : List ℕ) (start : ℕ) (items : List AttributeItem) (count : ℕ) (item : AttributeItem) (at next : ℕ)
    → count < length items → AttributesAt bytes start (take count items) at → StartsAttributeAt bytes at item next
    → AttributesAt bytes start (take (count + 1) (set items count item)) next
attributes_set bytes start items count item at next below filled starts =
    subst (λ (all : List AttributeItem). AttributesAt bytes start all next) (sym (take_more_set items count item below))
    (attributes_more bytes start (take count items) item at next filled starts)

-- the items not written, after one more
pub rest_set : (items old : List AttributeItem) (count : ℕ) (item : AttributeItem) → drop count items ≡ drop count old
    → drop (count + 1) (set items count item) ≡ drop (count + 1) old
rest_set items old count item rest =
    drop-set-lt (count + 1) items count item (omega arith)
    ∙ sym (drop-drop 1 count items) ∙ ap (drop 1) rest ∙ drop-drop 1 count old

-- the item of an attribute that the bytes hold
pub item_found : (bytes : List ℕ) (at size next : ℕ) (item : AttributeItem) → ((i : ℕ) → slice_index bytes i < 256) → at < length bytes
    → HoldsAttribute (drop at bytes) → size ≡ length_field (drop at bytes) → item ≡ item_at bytes at size
    → drop next bytes ≡ drop (size + padding size) (drop at bytes) → (at < next) × (next ≤ length bytes)
    → StartsAttributeAt bytes at item next
item_found bytes at size next item each inside holds said same behind forward =
    subst (λ (i : AttributeItem). StartsAttributeAt bytes at i next) (sym same)
    (attribute_found bytes (drop at bytes) at _ size next each inside refl holds refl said behind forward)

-- and of one whose padding ends within the bytes
pub item_padded : (bytes : List ℕ) (at size whole : ℕ) (item : AttributeItem) → ((i : ℕ) → slice_index bytes i < 256)
    → HoldsAttribute (drop at bytes) → size ≡ length_field (drop at bytes) → item ≡ item_at bytes at size
    → whole ≡ size + padding size → at + whole ≤ length bytes → StartsAttributeAt bytes at item (at + whole)
item_padded bytes at size whole item each holds said same padded inside =
    let least = holds.least in
    item_found bytes at size (at + whole) item each (omega arith) holds said same
    (sym (drop-drop whole at bytes) ∙ ap (λ (n : ℕ). drop n (drop at bytes)) padded) (omega arith, omega arith)
