-- The items of a walk, from what is left of the bytes.
use Rattle.std.proofs.Common.{◌≡◌, ◌≢◌, ℕ, ◌+◌, ◌-◌, ◌<◌, ◌≤◌, ◌⊎◌, Bool, true, false, List, [], ◌∷◌, length, get_or, drop, set, refl, sym, ap, subst, ◌∙◌, inl, inr, arith, Option, Some, None}
use Rattle.std.proofs.lemmas.Grind.{get_or-set_at}
use Rattle.std.proofs.lemmas.List.{get_or-replicate, get_or-set_other, length-set}
use Rattle.std.proofs.lemmas.List.FromFn.{fill_by_all}
use Rattle.std.specs.Prelude.{◌||◌, if◌then◌else◌, nat_eq, nat_lt, replicate}
use Rattle.netlink_packet_core.specs.Attribute.{Attribute, padded_size}
use Rattle.netlink_packet_core.specs.Causes.{cause_number}
use Rattle.netlink_packet_core.specs.DecodeError.{DecodeError}
use Rattle.netlink_packet_core.specs.FieldLaws.{length-value}
use Rattle.netlink_packet_core.specs.StartLaws.{nothing_starts, starts-attribute_of, starts-fault, starts-length, starts-rest, fault_once}
use Rattle.netlink_packet_core.specs.Views.{attribute_of, length_field, masked, raw_kind}
use Rattle.netlink_packet_core.specs.Walk.{IsFault, Starts, Walk}
use Rattle.netlink_c.specs.Fault.{numbers_of}
use Rattle.netlink_c.specs.Items.{EndsAs, OfWalk, absent, entered, has_kind, is_kind, item_at, items_from, items_of, last_or, table_of}
use Rattle.netlink_c.specs.declared.fault.FaultNumbers.{FaultNumbers}
use Rattle.netlink_c.specs.declared.walk.AttributeItem.{AttributeItem}

-- if nothing is left, the items do not depend on the offset
same_items : (at other : ℕ) (rest : List ℕ) (more : List Attribute) (end : Option DecodeError) → Walk rest more end
    → (at ≡ other) ⊎ (rest ≡ []) → items_from at more ≡ items_from other more
same_items at other rest [] end walk e = refl
same_items at other rest (a ∷ more) end walk (inl same) = ap (λ j. items_from j (a ∷ more)) same
same_items at other rest (a ∷ more) end walk (inr none) = absurd (nothing_starts rest a walk.0 none walk.1)

after_one : (whole : ℕ) (rest next : List ℕ) (a : Attribute) → length rest ≤ whole → Starts rest a next
    → (whole - length rest + padded_size a ≡ whole - length next) ⊎ (next ≡ [])
after_one whole rest next a inside starts =
    let size = starts-length rest a next starts in
    elim starts.gap_size [ inl full ↦ inl (omega arith) | inr short ↦ inr short.1 ]

-- one attribute further on
items_next : (whole : ℕ) (rest next : List ℕ) (a : Attribute) (more : List Attribute) (end : Option DecodeError)
    → length rest ≤ whole → Starts rest a next → Walk rest more end
    → (later : List Attribute) × Walk next later end
    × (items_from (whole - length rest) more ≡ item_at (whole - length rest) a ∷ items_from (whole - length next) later)
items_next whole rest next a [] None inside starts walk = absurd (nothing_starts rest a next walk starts)
items_next whole rest next a [] (Some fault) inside starts walk = absurd (starts-fault rest a next fault starts walk.1)
items_next whole rest next a (b ∷ later) end inside starts (after, begin, walk) =
    let same : b ≡ a = sym (starts-attribute_of rest b after begin) ∙ starts-attribute_of rest a next starts in
    let rests : after ≡ next =
    starts-rest rest b after begin ∙ ap (λ (c : Attribute). drop (padded_size c) rest) same ∙ sym (starts-rest rest a next starts) in (
      later,
      subst (λ (r : List ℕ). Walk r later end) rests walk,
      ap (λ xs. item_at (whole - length rest) b ∷ xs)
          (same_items _ _ after later end walk (after_one whole rest after b inside begin)
          ∙ ap (λ (r : List ℕ). items_from (whole - length r) later) rests)
          ∙ ap (λ (c : Attribute). item_at (whole - length rest) c ∷ items_from (whole - length next) later) same,
    )

-- this fact holds of all items of the walk of the bytes and of those that are left
abbrev pub Left : List ℕ → List ℕ → (List AttributeItem → List AttributeItem → Type 0) → Type 0
Left bytes rest Holds = (all : List Attribute) (end : Option DecodeError) → Walk bytes all end
    → (more : List Attribute) × Walk rest more end × Holds (items_of all) (items_from (length bytes - length rest) more)

-- at the start all are left
pub left_start : (bytes rest : List ℕ) (Holds : List AttributeItem → List AttributeItem → Type 0) → rest ≡ bytes
    → ((items : List AttributeItem) → Holds items items) → Left bytes rest Holds
left_start bytes rest Holds same holds = λ all end walk.
    let zero_at : length bytes - length rest ≡ 0 = (let n = ap length same in omega arith) in (
      all,
      subst (λ (r : List ℕ). Walk r all end) (sym same) walk,
      subst (λ (at : ℕ). Holds (items_of all) (items_from at all)) (sym zero_at) (holds (items_of all)),
    )

-- each turn takes one item of those that are left
pub left_next : (bytes rest next : List ℕ) (a : Attribute) (Holds Then : List AttributeItem → List AttributeItem → Type 0)
    → length rest ≤ length bytes → Starts rest a next
    → ((items later : List AttributeItem) → Holds items (item_at (length bytes - length rest) a ∷ later) → Then items later)
    → Left bytes rest Holds → Left bytes next Then
left_next bytes rest next a Holds Then inside starts step left = λ all end walk.
    let known = left all end walk in
    let one = items_next (length bytes) rest next a known.0 end inside starts known.1 in
    (one.0, one.1, step (items_of all) _ (subst (Holds (items_of all)) one.2 known.2))

-- and in the end none is left
nothing_left : (rest : List ℕ) (more : List Attribute) (end : Option DecodeError) → Walk rest more end → rest ≡ []
    → (more ≡ []) × (end ≡ None)
nothing_left rest [] None walk none = (refl, refl)
nothing_left rest [] (Some e) walk none = absurd (walk.0 none)
nothing_left rest (a ∷ more) end walk none = absurd (nothing_starts rest a walk.0 none walk.1)

fault_left : (rest : List ℕ) (e : DecodeError) (more : List Attribute) (end : Option DecodeError) → Walk rest more end → rest ≢ []
    → IsFault rest e → (more ≡ []) × (end ≡ Some e)
fault_left rest e [] None walk some is = absurd (some walk)
fault_left rest e [] (Some f) walk some is = (refl, ap Some (fault_once rest f e walk.1 is))
fault_left rest e (a ∷ more) end walk some is = absurd (starts-fault rest a walk.0 e walk.1 is)

pub left_end : (bytes rest : List ℕ) (Holds : List AttributeItem → List AttributeItem → Type 0) → rest ≡ [] → Left bytes rest Holds
    → OfWalk bytes (λ items end. (end ≡ None) × Holds items [])
left_end bytes rest Holds none left = λ all end walk.
    let known = left all end walk in
    let over = nothing_left rest known.0 end known.1 none in
    (over.1, subst (λ (more : List Attribute). Holds (items_of all) (items_from (length bytes - length rest) more)) over.0 known.2)

pub left_fault : (bytes rest : List ℕ) (e : DecodeError) (Holds : List AttributeItem → List AttributeItem → Type 0) → rest ≢ []
    → IsFault rest e → Left bytes rest Holds → OfWalk bytes (λ items end. (end ≡ Some e) × Holds items [])
left_fault bytes rest e Holds some is left = λ all end walk.
    let known = left all end walk in
    let over = fault_left rest e known.0 end known.1 some is in
    (over.1, subst (λ (more : List Attribute). Holds (items_of all) (items_from (length bytes - length rest) more)) over.0 known.2)

-- the item of an attribute that bytes hold, from their fields
pub item_held : (size : ℕ) (bytes : List ℕ) (kind offset value : ℕ) → length_field bytes ≤ length bytes → kind ≡ raw_kind bytes
    → offset ≡ size - length bytes + 4 → value + 4 ≡ length_field bytes
    → ◌≡◌ {A = AttributeItem} (record { kind = kind; offset = offset; size = value }) (item_at (size - length bytes) (attribute_of bytes))
item_held size bytes kind offset value most kinds offsets sizes =
    let held = length-value bytes most in
    let same : value ≡ length (attribute_of bytes).value = omega arith in
    (λ i. record { kind = kinds i; offset = offsets i; size = same i })

-- the last item of a kind, and whether there is one, from what was kept
abbrev pub Seeks : ℕ → AttributeItem → AttributeItem → ℕ → List AttributeItem → List AttributeItem → Type 0
Seeks kind old now found items more = (last_or kind old items ≡ last_or kind now more)
    × ((if has_kind kind items then 0 else 34) ≡ (if has_kind kind more then 0 else found))

or_else : (p q : Bool) (found : ℕ) → (if (p || q) then 0 else found) ≡ (if q then 0 else (if p then 0 else found))
or_else true true found = refl
or_else true false found = refl
or_else false true found = refl
or_else false false found = refl

pub seeks_next : (kind : ℕ) (old now new here item : AttributeItem) (found next : ℕ) (items later : List AttributeItem) → here ≡ item
    → new ≡ (if is_kind kind here then here else now) → next ≡ (if is_kind kind here then 0 else found)
    → Seeks kind old now found items (item ∷ later) → Seeks kind old new next items later
seeks_next kind old now new here item found next items later same kept counted seeks = (
  seeks.0
      ∙ ap (λ (x : AttributeItem). last_or kind x later)
      (ap (λ (i : AttributeItem). if is_kind kind i then i else now) (sym same) ∙ sym kept),
  seeks.1 ∙ or_else (is_kind kind item) (has_kind kind later) found
      ∙ ap (λ (n : ℕ). if has_kind kind later then 0 else n)
      (ap (λ (i : AttributeItem). if is_kind kind i then 0 else found) (sym same) ∙ sym counted),
)

-- the entries of a table are the last items of their kinds, from what was entered
abbrev pub Fills : ℕ → List AttributeItem → List AttributeItem → List AttributeItem → Type 0
Fills count table items more = (k : ℕ) → k < count → last_or k absent items ≡ last_or k (get_or table k absent) more

pub fills_start : (count : ℕ) (table items : List AttributeItem) → table ≡ replicate count absent → Fills count table items items
fills_start count table items cleared = λ k below.
    ap (λ (x : AttributeItem). last_or k x items)
    (sym (ap (λ (t : List AttributeItem). get_or t k absent) cleared ∙ get_or-replicate count k absent absent below))

entry_at : (m k : ℕ) (item : AttributeItem) (table : List AttributeItem) → k < length table
    → (if nat_eq m k then item else get_or table k absent)
    ≡ get_or (if nat_lt m (length table) then set table m item else table) k absent
entry_at m k item table below = grind (arith, get_or-set_at, get_or-set_other)

pub fills_next : (count : ℕ) (table new : List AttributeItem) (here item : AttributeItem) (items later : List AttributeItem)
    → length table ≡ count → here ≡ item → new ≡ entered here table
    → Fills count table items (item ∷ later) → Fills count new items later
fills_next count table new here item items later size same enters fills = λ k below.
    fills k below
    ∙ ap (λ (x : AttributeItem). last_or k x later)
    (entry_at (masked item.kind) k item table (omega arith)
    ∙ ap (λ (t : List AttributeItem). get_or t k absent) (ap (λ (i : AttributeItem). entered i table) (sym same) ∙ sym enters))

pub length-entered : (here : AttributeItem) (table new : List AttributeItem) → new ≡ entered here table → length new ≡ length table
length-entered here table new enters = ap length enters ∙ grind (arith, length-set)

pub fills_all : (count : ℕ) (table items : List AttributeItem) → length table ≡ count → Fills count table items [] → table ≡ table_of count items
fills_all count table items size fills = fill_by_all (λ (k : ℕ). last_or k absent items) table count absent size (λ k below. sym (fills k below))

-- what a function returns at the end of a walk
pub ends_none : (end : Option DecodeError) (good answer : ℕ) (old new : FaultNumbers) → end ≡ None → answer ≡ good → new ≡ old
    → EndsAs end good old new answer
ends_none end good answer old new is answers kept =
    subst (λ (o : Option DecodeError). EndsAs o good old new answer) (sym is) (answers, kept)

pub ends_some : (end : Option DecodeError) (e : DecodeError) (good answer : ℕ) (old new : FaultNumbers) → end ≡ Some e
    → answer ≡ cause_number e → new ≡ numbers_of e → EndsAs end good old new answer
ends_some end e good answer old new is answers written =
    subst (λ (o : Option DecodeError). EndsAs o good old new answer) (sym is) (answers, written)
