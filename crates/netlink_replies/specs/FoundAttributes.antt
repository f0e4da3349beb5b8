-- An attribute that was found by an offset.
use Rattle.std.specs.Prelude.{ℕ, ◌+◌, ◌≡◌, ◌≤◌, List, length, Some}
use Rattle.netlink_packet_core.specs.Attribute.{Attribute}
use Rattle.netlink_packet_core.specs.Views.{masked}
use Rattle.netlink_replies.specs.Paths.{attribute_at}
use Rattle.netlink_replies.specs.declared.path.Found.{Found}

-- the kind, the value and the offset are those of the attribute that contains the offset
pub record IsFound (bytes : List ℕ) (offset : ℕ) (found : Found) : Type 0 where
  pub a : Attribute
  pub at : attribute_at bytes offset ≡ Some (a, found.inside)
  pub kind : found.kind ≡ masked a.kind
  pub value : found.value.now ≡ a.value
  pub shorter : length a.value + 4 ≤ length bytes
