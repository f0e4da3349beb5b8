-- The first item that does not fit a policy, from those that are left.
use Rattle.std.proofs.Common.{◌≡◌, ℕ, ◌+◌, ◌-◌, ◌<◌, ◌≤◌, Bool, true, false, List, ◌∷◌, length, drop, sym, ap, subst, ◌∙◌, arith, length-drop, inl, inr, Option, Some, None}
use Rattle.std.proofs.lemmas.List.{length-take-le}
use Rattle.std.specs.Prelude.{take, if◌then◌else◌}
use Rattle.netlink_packet_core.specs.Attribute.{padding}
use Rattle.netlink_packet_core.specs.Causes.{cause_number}
use Rattle.netlink_packet_core.specs.DecodeError.{DecodeError}
use Rattle.netlink_packet_core.specs.Nla.{attribute_with}
use Rattle.netlink_packet_core.specs.StartLaws.{starts-length}
use Rattle.netlink_c.specs.Fault.{numbers_of}
use Rattle.netlink_c.specs.Gets.{value_in}
use Rattle.netlink_c.specs.Items.{item_at}
use Rattle.netlink_c.specs.Policies.{ValidatesAs, first_bad, fits_rows, past}
use Rattle.netlink_c.specs.Steps.{StartsAttributeAt}
use Rattle.netlink_c.specs.declared.fault.FaultNumbers.{FaultNumbers}
use Rattle.netlink_c.specs.declared.policy.PolicyRow.{PolicyRow}
use Rattle.netlink_c.specs.declared.walk.AttributeItem.{AttributeItem}

-- the items that were passed fit, and the offset past them is this one, unless nothing is left
abbrev pub Fit : List PolicyRow → List ℕ → ℕ → List AttributeItem → List AttributeItem → Type 0
Fit rows block at items more = (first_bad rows block items ≡ first_bad rows block more)
    × (at < length block → past 0 items ≡ past at more)

-- the first item that does not fit is this one
abbrev pub IsBad : List PolicyRow → List ℕ → AttributeItem → List AttributeItem → List AttributeItem → Type 0
IsBad rows block bad items more = first_bad rows block items ≡ Some bad

-- the size of the value of an attribute at an offset
value_size : (block : List ℕ) (at : ℕ) (item : AttributeItem) (next : ℕ) → StartsAttributeAt block at item next
    → length (value_in block item) ≡ item.size
value_size block at item next starts =
    let inside = starts.inside in
    let left = length-drop item.offset block in
    let size : length (take ((item.offset + item.size) - item.offset) (drop item.offset block)) ≡ (item.offset + item.size) - item.offset =
    length-take-le ((item.offset + item.size) - item.offset) (drop item.offset block) (omega arith) in
    omega arith

-- and it is the first that is left
pub item_here : (block : List ℕ) (at : ℕ) (item : AttributeItem) (next : ℕ) → at ≤ length block → StartsAttributeAt block at item next
    → item ≡ item_at (length block - length (drop at block)) (attribute_with item.kind (value_in block item))
item_here block at item next inside starts =
    let left = length-drop at block in
    let offset = starts.offset in
    let offsets : item.offset ≡ length block - length (drop at block) + 4 = omega arith in
    let sizes = sym (value_size block at item next starts) in
    (λ i. record { kind = item.kind; offset = offsets i; size = sizes i })

past_one : (block : List ℕ) (at : ℕ) (item : AttributeItem) (next : ℕ) → at ≤ length block → StartsAttributeAt block at item next
    → next < length block → item.offset + item.size + padding item.size ≡ next
past_one block at item next inside starts more =
    let size = starts-length _ _ _ starts.starts in
    let value = value_size block at item next starts in
    let paddings = ap padding value in
    let offset = starts.offset in
    let before = length-drop at block in
    let after = length-drop next block in
    elim starts.starts.gap_size [ inl full ↦ omega arith | inr short ↦ (let none = ap length short.1 in omega arith) ]

pub fit_next : (rows : List PolicyRow) (block : List ℕ) (at : ℕ) (here item : AttributeItem) (next : ℕ) (items later : List AttributeItem)
    → at < length block → StartsAttributeAt block at here next → here ≡ item → fits_rows rows here.kind (value_in block here) ≡ true
    → Fit rows block at items (item ∷ later) → Fit rows block next items later
fit_next rows block at here item next items later inside starts same fits passed = (
  passed.0 ∙ ap (λ (i : AttributeItem). first_bad rows block (i ∷ later)) (sym same)
      ∙ ap (λ (b : Bool). if b then first_bad rows block later else Some here) fits,
  λ more. passed.1 inside ∙ ap (λ (i : AttributeItem). past at (i ∷ later)) (sym same)
      ∙ ap (λ (n : ℕ). past n later) (past_one block at here next (omega (arith, inside)) starts more),
)

pub fit_stops : (rows : List PolicyRow) (block : List ℕ) (at : ℕ) (here item : AttributeItem) (items later : List AttributeItem)
    → here ≡ item → fits_rows rows here.kind (value_in block here) ≡ false → Fit rows block at items (item ∷ later)
    → IsBad rows block here items later
fit_stops rows block at here item items later same bad passed =
    passed.0 ∙ ap (λ (i : AttributeItem). first_bad rows block (i ∷ later)) (sym same)
    ∙ ap (λ (b : Bool). if b then first_bad rows block later else Some here) bad

pub validates_bad : (found : Option AttributeItem) (items : List AttributeItem) (end : Option DecodeError) (bad : AttributeItem)
    (old new : ℕ) (before after : FaultNumbers) (answer : ℕ) → found ≡ Some bad → answer ≡ 36 → new + 4 ≡ bad.offset → after ≡ before
    → ValidatesAs found items end old new before after answer
validates_bad found items end bad old new before after answer is answers written kept =
    subst (λ (o : Option AttributeItem). ValidatesAs o items end old new before after answer) (sym is) (answers, written, kept)

pub validates_all : (found : Option AttributeItem) (items : List AttributeItem) (end : Option DecodeError) (old new : ℕ)
    (before after : FaultNumbers) (answer : ℕ) → found ≡ None → end ≡ None → answer ≡ 0 → new ≡ old → after ≡ before
    → ValidatesAs found items end old new before after answer
validates_all found items end old new before after answer is ends answers kept unfaulted =
    subst (λ (o : Option AttributeItem). ValidatesAs o items end old new before after answer) (sym is)
    (subst (λ (o : Option DecodeError). ValidatesAs None items o old new before after answer) (sym ends) (answers, kept, unfaulted))

pub validates_fault : (found : Option AttributeItem) (items : List AttributeItem) (end : Option DecodeError) (e : DecodeError) (old new : ℕ)
    (before after : FaultNumbers) (answer : ℕ) → found ≡ None → end ≡ Some e → answer ≡ cause_number e → new ≡ past 0 items
    → after ≡ numbers_of e → ValidatesAs found items end old new before after answer
validates_fault found items end e old new before after answer is ends answers written faulted =
    subst (λ (o : Option AttributeItem). ValidatesAs o items end old new before after answer) (sym is)
    (subst (λ (o : Option DecodeError). ValidatesAs None items o old new before after answer) (sym ends) (answers, written, faulted))
