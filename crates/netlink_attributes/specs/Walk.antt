-- Bytes as attributes one after another.
use Rattle.std.specs.Prelude.{ℕ, ◌<◌, ◌≤◌, ◌≡◌, ◌≢◌, ◌⊎◌, List, [], ◌++◌, length, Option, Some, None, Result, Ok, Err}
use denote.Ref.{Bor}
use Rattle.netlink_bytes.specs.WalkItems.{ItemsShow}
use Rattle.netlink_bytes.specs.Walks.{WalksAs}
use Rattle.netlink_bytes.specs.declared.error.DecodeError.{DecodeError}
use Rattle.netlink_bytes.specs.declared.error.DecodeError.TheVariants.{NlaBufferTooSmall, NlaLengthMismatch, NlaInvalidLength}
use Rattle.netlink_attributes.specs.Attribute.{Attribute, FitsAttribute, attribute_bytes, padding}
use Rattle.netlink_attributes.specs.Views.{length_field, attribute_of, shown, HoldsAttribute}
use Rattle.netlink_attributes.specs.declared.buffer.NlaBuffer.{NlaBuffer}

-- the error, with its fields, if the bytes do not begin with an attribute; no bytes satisfy two of
-- these cases
abbrev pub IsFault : List ℕ → DecodeError → Type 0
IsFault bytes (NlaBufferTooSmall size least) =
    (length bytes < 4) × (size ≡ length bytes) × (least ≡ 4)
IsFault bytes (NlaLengthMismatch size said) =
    (4 ≤ length bytes) × (length bytes < length_field bytes) × (size ≡ length bytes)
    × (said ≡ length_field bytes)
IsFault bytes (NlaInvalidLength least said) =
    (4 ≤ length bytes) × (length_field bytes < 4) × (least ≡ 4) × (said ≡ length_field bytes)
IsFault bytes _ = ⊥

-- The bytes are the attribute, its padding and then the rest. Padding may be any bytes, and it may
-- be incomplete only if the bytes end within it.
pub record Starts (bytes : List ℕ) (a : Attribute) (rest : List ℕ) : Type 0 where
  pub fits : FitsAttribute a
  pub gap : List ℕ
  pub whole : bytes ≡ attribute_bytes a ++ (gap ++ rest)
  pub gap_size : (length gap ≡ padding (length a.value))
      ⊎ ((length gap < padding (length a.value)) × (rest ≡ []))

-- walking the bytes yields these attributes, one after another, and then the end or one error
abbrev pub Walk : List ℕ → List Attribute → Option DecodeError → Type 0
Walk = WalksAs Starts IsFault

-- an item of a walk: a view over all that was unread, or an error
abbrev pub Item : Type 0
Item = Result (NlaBuffer (Bor (List ℕ))) DecodeError

-- one step of a walk over these bytes, and what is then still to be walked; the value of a view may
-- be read
abbrev pub Gives : List ℕ → Option Item → List ℕ → Type 0
Gives bytes None rest = (bytes ≡ []) × (rest ≡ [])
Gives bytes (Some (Err fault)) rest = (bytes ≢ []) × IsFault bytes fault × (rest ≡ [])
Gives bytes (Some (Ok view)) rest =
    (shown view ≡ bytes) × HoldsAttribute (shown view) × Starts bytes (attribute_of bytes) rest

-- a view begins with the attribute
abbrev pub ShowsAttribute : NlaBuffer (Bor (List ℕ)) → Attribute → Type 0
ShowsAttribute view a = attribute_of (shown view) ≡ a

-- the items are views that begin with these attributes, and then the error, if there is one
abbrev pub AreItems : List Item → List Attribute → Option DecodeError → Type 0
AreItems = ItemsShow ShowsAttribute
