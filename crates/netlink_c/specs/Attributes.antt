-- Attributes of a block, one after another.
use Rattle.std.specs.Prelude.{◌≡◌, ◌+◌, ◌-◌, ℕ, List, [], ◌∷◌, drop}
use Rattle.netlink_packet_core.specs.Views.{raw_kind}
use Rattle.netlink_c.specs.Steps.{StartsAttributeAt}
use Rattle.netlink_c.specs.declared.walk.AttributeItem.{AttributeItem}

-- the attribute of this size at offset `at`
abbrev pub item_at : List ℕ → ℕ → ℕ → AttributeItem
item_at bytes at size = record { kind = raw_kind (drop at bytes); offset = at + 4; size = size - 4 }

-- starting at offset `at`, the bytes are these attributes, each with its padding, and then the
-- bytes starting at offset `next`
abbrev pub AttributesAt : List ℕ → ℕ → List AttributeItem → ℕ → Type 0
AttributesAt bytes at [] next = next ≡ at
AttributesAt bytes at (item ∷ more) next =
    (between : ℕ) × StartsAttributeAt bytes at item between × AttributesAt bytes between more next
