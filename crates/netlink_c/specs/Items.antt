-- The attributes of a block by kind.
use Rattle.std.specs.Prelude.{◌≡◌, ℕ, ◌+◌, ◌||◌, Bool, false, List, [], ◌∷◌, length, map, set, nat_eq, nat_lt, if◌then◌else◌, Option, Some, None}
use Rattle.std.specs.List.{range_with_len}
use Rattle.netlink_packet_core.specs.Attribute.{Attribute, padded_size}
use Rattle.netlink_packet_core.specs.Causes.{cause_number}
use Rattle.netlink_packet_core.specs.DecodeError.{DecodeError}
use Rattle.netlink_packet_core.specs.Views.{masked}
use Rattle.netlink_packet_core.specs.Walk.{Walk}
use Rattle.netlink_c.specs.Fault.{numbers_of}
use Rattle.netlink_c.specs.declared.fault.FaultNumbers.{FaultNumbers}
use Rattle.netlink_c.specs.declared.walk.AttributeItem.{AttributeItem}

-- the item of an attribute that starts at an offset: its value is after its header
abbrev pub item_at : ℕ → Attribute → AttributeItem
item_at at a = record { kind = a.kind; offset = at + 4; size = length a.value }

-- the items of attributes one after another, if the first starts at an offset
abbrev pub items_from : ℕ → List Attribute → List AttributeItem
items_from at [] = []
items_from at (a ∷ more) = item_at at a ∷ items_from (at + padded_size a) more

-- the items of the attributes of a block
abbrev pub items_of : List Attribute → List AttributeItem
items_of all = items_from 0 all

-- whether an item is of a kind, comparing kinds without their two flag bits
abbrev pub is_kind : ℕ → AttributeItem → Bool
is_kind kind item = nat_eq (masked item.kind) kind

-- the last item of a kind, or `before` if there is none
abbrev pub last_or : ℕ → AttributeItem → List AttributeItem → AttributeItem
last_or kind before [] = before
last_or kind before (item ∷ more) = last_or kind (if is_kind kind item then item else before) more

-- whether there is an item of a kind
abbrev pub has_kind : ℕ → List AttributeItem → Bool
has_kind kind [] = false
has_kind kind (item ∷ more) = is_kind kind item || has_kind kind more

-- this fact holds of the items of the walk of the bytes and of the error that ends it; the items
-- before an error count
abbrev pub OfWalk : List ℕ → (List AttributeItem → Option DecodeError → Type 0) → Type 0
OfWalk bytes Holds =
    (all : List Attribute) (end : Option DecodeError) → Walk bytes all end
    → Holds (items_of all) end

-- what a function returns if a walk ends, and what it writes: for an error its number and its
-- numbers, and otherwise a result, and nothing
abbrev pub EndsAs : Option DecodeError → ℕ → FaultNumbers → FaultNumbers → ℕ → Type 0
EndsAs None good old new answer = (answer ≡ good) × (new ≡ old)
EndsAs (Some e) good old new answer = (answer ≡ cause_number e) × (new ≡ numbers_of e)

-- the entry of a table without an attribute
abbrev pub absent : AttributeItem
absent = record { kind = 0; offset = 0; size = 0 }

-- the table with the item in the entry of its kind, if there is one
abbrev pub entered : AttributeItem → List AttributeItem → List AttributeItem
entered item table =
    if nat_lt (masked item.kind) (length table) then set table (masked item.kind) item else table

-- the table of the kinds below a number: the last item of each kind, or `absent`
abbrev pub table_of : ℕ → List AttributeItem → List AttributeItem
table_of count items = map (λ kind. last_or kind absent items) (range_with_len 0 count)
