-- Every byte list has exactly one walk.
use Rattle.std.proofs.Common.{◌≡◌, ◌≢◌, ℕ, ◌+◌, ◌-◌, ◌*◌, ◌/◌, List, [], length, drop, refl, ap, sym, ◌∙◌, inl, inr, arith, Option, length-drop}
use Rattle.std.proofs.lemmas.Bool.{cases_lt}
use Rattle.netlink_bytes.specs.Numbers.{IsBytes}
use Rattle.netlink_bytes.specs.NumberLaws.{IsBytes-drop}
use Rattle.netlink_bytes.specs.Walks.{NextStep, StepLaws, has_one, walks_once}
use Rattle.netlink_bytes.specs.declared.error.DecodeError.{DecodeError}
use Rattle.netlink_bytes.specs.declared.error.DecodeError.TheVariants.{NlaBufferTooSmall, NlaLengthMismatch, NlaInvalidLength}
use Rattle.netlink_attributes.specs.Attribute.{Attribute, padded_size}
use Rattle.netlink_attributes.specs.StartLaws.{starts-attribute_of, starts-rest, starts-fault, starts_held, nothing_starts, fault_once}
use Rattle.netlink_attributes.specs.Views.{length_field, attribute_of, HoldsAttribute}
use Rattle.netlink_attributes.specs.Walk.{Starts, Walk, IsFault}

-- ---- at most one walk

-- bytes start with at most one attribute and one rest
pub starts_once : (bytes : List ℕ) (a b : Attribute) (rest other : List ℕ) → Starts bytes a rest
    → Starts bytes b other → (a ≡ b) × (rest ≡ other)
starts_once bytes a b rest other start begin =
    let same : a ≡ b =
    sym (starts-attribute_of bytes a rest start) ∙ starts-attribute_of bytes b other begin in (
      same,
      starts-rest bytes a rest start ∙ ap (λ (c : Attribute). drop (padded_size c) bytes) same
          ∙ sym (starts-rest bytes b other begin),
    )

-- what a walk requires of its steps
pub attribute_steps : StepLaws Starts IsFault
attribute_steps =
    record {
      once = starts_once;
      nothing = nothing_starts;
      fault = starts-fault;
      fault_once = fault_once;
    }

pub walk_once : (bytes : List ℕ) (x y : List Attribute) (f g : Option DecodeError) → Walk bytes x f
    → Walk bytes y g → (x ≡ y) × (f ≡ g)
walk_once = walks_once attribute_steps

-- ---- every byte list has a walk

pub next_attribute : (bytes : List ℕ) → IsBytes bytes → bytes ≢ []
    → NextStep Starts IsFault IsBytes bytes
next_attribute bytes each some =
    let field : ℕ = length_field bytes in
    elim (cases_lt (length bytes) 4) [
      | inl short ↦ inl (NlaBufferTooSmall (length bytes) 4, (short, refl, refl))
      | inr header ↦ elim (cases_lt (length bytes) field) [
        | inl long ↦ inl (NlaLengthMismatch (length bytes) field, (header, long, refl, refl))
        | inr most ↦ elim (cases_lt field 4) [
          | inl low ↦ inl (NlaInvalidLength 4 field, (header, low, refl, refl))
          | inr least ↦
              let end : ℕ = (field + 3) / 4 * 4 in
              let left : length (drop end bytes) ≡ length bytes - end = length-drop end bytes in
              let holds : HoldsAttribute bytes =
              record { header = header; least = least; most = most } in
              inr (
                attribute_of bytes,
                drop end bytes,
                starts_held bytes end each holds
                    (omega arith) (omega arith) (omega arith),
                IsBytes-drop end bytes each,
                omega
                    arith,
              )
        ]
      ]
    ]

pub has_walk : (bytes : List ℕ) → IsBytes bytes
    → (all : List Attribute) × (fault : Option DecodeError) × Walk bytes all fault
has_walk = has_one Starts IsFault IsBytes next_attribute
