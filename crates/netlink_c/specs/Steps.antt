-- Steps of a walk with a cursor.
use Rattle.std.specs.Prelude.{◌≡◌, ℕ, ◌+◌, ◌<◌, ◌≤◌, List, drop, length}
use Rattle.netlink_packet_core.specs.Nla.{attribute_with}
use Rattle.netlink_packet_core.specs.Walk.{Starts}
use Rattle.netlink_tree.specs.FrameWalk.{StartsFrame}
use Rattle.netlink_c.specs.Parts.{part_of, part_from}
use Rattle.netlink_c.specs.declared.frame.Part.{Part}
use Rattle.netlink_c.specs.declared.walk.AttributeItem.{AttributeItem}

-- Starting at offset `at`, the bytes are an attribute, with this kind and with this part of the
-- bytes as its value, then its padding, and then the bytes starting at offset `next`.
pub record StartsAttributeAt (bytes : List ℕ) (at : ℕ) (item : AttributeItem)
    (next : ℕ) : Type 0 where
  pub starts : Starts (drop at bytes)
      (attribute_with item.kind (part_from item.offset item.size bytes)) (drop next bytes)
  pub offset : item.offset ≡ at + 4
  pub inside : item.offset + item.size ≤ length bytes
  pub forward : (at < next) × (next ≤ length bytes)

-- Starting at offset `at`, the bytes are a frame, which is this part of the bytes, then its
-- padding, and then the bytes starting at offset `next`.
pub record StartsFrameAt (bytes : List ℕ) (at : ℕ) (item : Part) (next : ℕ) : Type 0 where
  pub starts : StartsFrame (drop at bytes) (part_of item bytes) (drop next bytes)
  pub offset : item.offset ≡ at
  pub inside : item.offset + item.size ≤ length bytes
  pub forward : (at < next) × (next ≤ length bytes)
