-- The payload of a message: a fixed header followed by attributes that have their shapes.
use Rattle.std.specs.Prelude.{ℕ, ◌≡◌, Bool, true, false, List, ◌++◌, length, take, drop, Option, Some, None, nat_le, refl, if◌then◌else◌}
use Rattle.std.proofs.Common.{arith, ap, sym, ◌∙◌, length-append}
use Rattle.std.proofs.lemmas.Bool.{leb-true, le-leb}
use Rattle.std.proofs.lemmas.List.{take_at, drop_at, length-take-le}
use Rattle.netlink_packet_core.specs.Attribute.{Attribute}
use Rattle.netlink_packet_core.specs.Block.{canonical_block}
use Rattle.netlink_shapes.specs.Blocks.{KeepsValues, ValueReading, block_reading}
use Rattle.netlink_family.specs.BlocksLaws.{AreNormalized, block_again, reading_normalized}
use Rattle.netlink_shapes.specs.Short.{is_short}

abbrev pub after_header : ℕ → List ℕ → Option (List Attribute) → Option (ℕ × List ℕ)
after_header t head None = None
after_header t head (Some all) = Some (t, head ++ canonical_block all)

-- the canonical form of a payload, with its message type, if it can be read
abbrev pub payload_reading : ℕ → ValueReading → ℕ → List ℕ → Option (ℕ × List ℕ)
payload_reading size values t payload =
    if nat_le size (length payload) then after_header t (take size payload) (block_reading values (drop size payload))
    else None

-- the same for a message type that may allow a short payload, which is canonical as it is
abbrev pub short_reading : Bool → ℕ → ValueReading → ℕ → List ℕ → Option (ℕ × List ℕ)
short_reading allows size values t payload =
    if is_short allows size payload then Some (t, payload) else payload_reading size values t payload

-- a message type and bytes that are a header and attributes in canonical form
pub record IsWrittenBy (size : ℕ) (values : ValueReading) (t : ℕ) (pair : ℕ × List ℕ) : Type 0 where
  pub head : List ℕ
  pub all : List Attribute
  pub whole : pair ≡ (t, head ++ canonical_block all)
  pub sized : length head ≡ size
  pub normalized : AreNormalized values all

-- a canonical payload is read as itself
pub payload_again : (size : ℕ) (values : ValueReading) (t : ℕ) (pair : ℕ × List ℕ)
    → IsWrittenBy size values t pair → payload_reading size values t pair.1 ≡ Some pair
payload_again size values t pair by =
    let text : List ℕ = by.head ++ canonical_block by.all in
    let front : take size text ≡ by.head = take_at by.head (canonical_block by.all) size by.sized in
    let after : drop size text ≡ canonical_block by.all =
    drop_at by.head (canonical_block by.all) size by.sized in
    let long : nat_le size (length text) ≡ true =
    le-leb _ _ (omega (arith, by.sized, length-append by.head (canonical_block by.all))) in
    let read : after_header t (take size text) (block_reading values (drop size text)) ≡ Some (t, text) =
    ap (λ (x : List ℕ). after_header t x (block_reading values (drop size text))) front
    ∙ ap (λ (x : List ℕ). after_header t by.head (block_reading values x)) after
    ∙ ap (after_header t by.head) (block_again values by.all by.normalized) in
    ap (λ (p : ℕ × List ℕ). payload_reading size values t p.1) by.whole
    ∙ ap (λ (b : Bool). if b then after_header t (take size text)
    (block_reading values (drop size text)) else None) long ∙ read ∙ ap Some (sym by.whole)

by_block : (size : ℕ) (values : ValueReading) (t : ℕ) (head : List ℕ)
    (found : Option (List Attribute)) (pair : ℕ × List ℕ) → length head ≡ size
    → ((all : List Attribute) → found ≡ Some all → AreNormalized values all)
    → after_header t head found ≡ Some pair → IsWrittenBy size values t pair
by_block size values t head None pair sized normalized gives = absurd (cc)
by_block size values t head (Some all) pair sized normalized gives =
    let same : (t, head ++ canonical_block all) ≡ pair = cc in
    record { head = head; all = all; whole = sym same; sized = sized; normalized = normalized all refl }

by_header : (size : ℕ) (values : ValueReading) (t : ℕ) (payload : List ℕ) (pair : ℕ × List ℕ)
    (has : Bool) → KeepsValues values → nat_le size (length payload) ≡ has
    → (if has then after_header t (take size payload)
    (block_reading values (drop size payload)) else None) ≡ Some pair → IsWrittenBy size values t pair
by_header size values t payload pair true keeps has gives =
    by_block size values t (take size payload) (block_reading values (drop size payload)) pair
    (length-take-le size payload (leb-true _ _ has))
    (λ all e. reading_normalized values (drop size payload) all keeps e) gives
by_header size values t payload pair false keeps has gives = absurd (cc)

-- what is read is canonical
pub payload_written : (size : ℕ) (values : ValueReading) (t : ℕ) (payload : List ℕ)
    (pair : ℕ × List ℕ) → KeepsValues values → payload_reading size values t payload ≡ Some pair
    → IsWrittenBy size values t pair
payload_written size values t payload pair keeps gives =
    by_header size values t payload pair (nat_le size (length payload)) keeps refl gives
