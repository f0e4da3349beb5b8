-- Facts about bytes that start with an attribute.
use Rattle.std.proofs.Common.{◌≡◌, ℕ, ◌+◌, ◌-◌, ◌%◌, ◌<◌, ◌≤◌, ◌⊎◌, min, List, [], ◌++◌, length, take, drop, ap, sym, subst, ◌∙◌, inl, inr, arith, append_assoc, length-append, length-drop}
use Rattle.std.proofs.lemmas.List.{length-take, drop_at, drop_all}
use Rattle.std.proofs.lemmas.Bool.{cases_lt}
use Rattle.netlink_bytes.specs.Numbers.{IsBytes}
use Rattle.netlink_bytes.specs.NumberLaws.{IsBytes-drop}
use Rattle.netlink_bytes.specs.declared.error.DecodeError.{DecodeError}
use Rattle.netlink_bytes.specs.declared.error.DecodeError.TheVariants.{NlaBufferTooSmall, NlaLengthMismatch, NlaInvalidLength}
use Rattle.netlink_attributes.specs.Attribute.{Attribute, attribute_bytes, padding, padded_size}
use Rattle.netlink_attributes.specs.Sizes.{length-attribute_bytes}
use Rattle.netlink_attributes.specs.Views.{length_field, attribute_of, HoldsAttribute}
use Rattle.netlink_attributes.specs.Walk.{Starts, IsFault}
use Rattle.netlink_attributes.specs.FieldLaws.{length_field-text, attribute_of-text, raw_kind-fits, length_field-fits, length-value, part_and_rest, text-attribute_of}

pub starts-length_field : (bytes : List ℕ) (a : Attribute) (rest : List ℕ) → Starts bytes a rest
    → length_field bytes ≡ 4 + length a.value
starts-length_field bytes a rest starts =
    ap length_field starts.whole ∙ length_field-text a (starts.gap ++ rest) starts.fits

pub starts-attribute_of : (bytes : List ℕ) (a : Attribute) (rest : List ℕ) → Starts bytes a rest
    → attribute_of bytes ≡ a
starts-attribute_of bytes a rest starts =
    ap attribute_of starts.whole ∙ attribute_of-text a (starts.gap ++ rest) starts.fits

pub starts-length : (bytes : List ℕ) (a : Attribute) (rest : List ℕ)
    → (starts : Starts bytes a rest)
    → length bytes ≡ 4 + length a.value + (length starts.gap + length rest)
starts-length bytes a rest starts =
    let text = length-attribute_bytes a in
    let whole = length-append (attribute_bytes a) (starts.gap ++ rest) in
    let behind = length-append starts.gap rest in
    ap length starts.whole ∙ omega arith

-- the rest follows the attribute and all of its padding
pub starts-rest : (bytes : List ℕ) (a : Attribute) (rest : List ℕ) → Starts bytes a rest
    → rest ≡ drop (padded_size a) bytes
starts-rest bytes a rest starts =
    let text = length-attribute_bytes a in
    let front = length-append (attribute_bytes a) starts.gap in
    let size = starts-length bytes a rest starts in
    elim starts.gap_size [
      | inl full ↦ sym (ap (drop (padded_size a))
          (starts.whole ∙ sym (append_assoc (attribute_bytes a) starts.gap rest))
          ∙ drop_at (attribute_bytes a ++ starts.gap) rest (padded_size a) (omega arith))
      | inr short ↦ (let none : length rest ≡ 0 = ap length short.1 in
          short.1 ∙ sym (drop_all (padded_size a) bytes (omega arith)))
    ]

-- and it is a list of bytes if the whole is
pub starts_bytes : (bytes : List ℕ) (a : Attribute) (rest : List ℕ) → Starts bytes a rest
    → IsBytes bytes → IsBytes rest
starts_bytes bytes a rest starts each =
    subst IsBytes (sym (starts-rest bytes a rest starts)) (IsBytes-drop (padded_size a) bytes each)

pub nothing_starts : (bytes : List ℕ) (a : Attribute) (rest : List ℕ) → bytes ≡ []
    → Starts bytes a rest → ⊥
nothing_starts bytes a rest none starts =
    omega (arith, starts-length bytes a rest starts, ap length none)

-- bytes that start with an attribute have no error
pub starts-fault : (bytes : List ℕ) (a : Attribute) (rest : List ℕ) (fault : DecodeError)
    → Starts bytes a rest → IsFault bytes fault → ⊥
starts-fault bytes a rest (NlaBufferTooSmall size least) starts is =
    omega (arith, is.0, starts-length bytes a rest starts)
starts-fault bytes a rest (NlaLengthMismatch size said) starts is =
    omega (arith, is.1, starts-length bytes a rest starts, starts-length_field bytes a rest starts)
starts-fault bytes a rest (NlaInvalidLength least said) starts is =
    omega (arith, is.1, starts-length_field bytes a rest starts)
starts-fault bytes a rest _ starts is = is

-- and bytes have at most one error
pub fault_once : (bytes : List ℕ) (f g : DecodeError) → IsFault bytes f → IsFault bytes g → f ≡ g
fault_once bytes (NlaBufferTooSmall m n) (NlaBufferTooSmall k l) p q = cc
fault_once bytes (NlaBufferTooSmall m n) (NlaLengthMismatch k l) p q = absurd (omega arith)
fault_once bytes (NlaBufferTooSmall m n) (NlaInvalidLength k l) p q = absurd (omega arith)
fault_once bytes (NlaLengthMismatch m n) (NlaBufferTooSmall k l) p q = absurd (omega arith)
fault_once bytes (NlaLengthMismatch m n) (NlaLengthMismatch k l) p q = cc
fault_once bytes (NlaLengthMismatch m n) (NlaInvalidLength k l) p q = absurd (omega arith)
fault_once bytes (NlaInvalidLength m n) (NlaBufferTooSmall k l) p q = absurd (omega arith)
fault_once bytes (NlaInvalidLength m n) (NlaLengthMismatch k l) p q = absurd (omega arith)
fault_once bytes (NlaInvalidLength m n) (NlaInvalidLength k l) p q = cc
fault_once bytes (NlaBufferTooSmall m n) _ p q = absurd q
fault_once bytes (NlaLengthMismatch m n) _ p q = absurd q
fault_once bytes (NlaInvalidLength m n) _ p q = absurd q
fault_once bytes _ g p q = absurd p

-- the gap up to the next multiple of 4, or up to the end of the bytes
gap_sizes : (field end size value : ℕ) → field ≤ size → field ≤ end → end < field + 4 → end % 4 ≡ 0
    → field ≡ 4 + value
    → (min (end - field) (size - field) ≡ padding value)
    ⊎ ((min (end - field) (size - field) < padding value) × (size ≤ end))
gap_sizes field end size value most low high multiple is =
    elim (cases_lt size end)
    [ inl short ↦ inr (omega arith, omega arith) | inr full ↦ inl (omega arith) ]

-- bytes that hold an attribute start with it, and the rest begins at the next multiple of 4
pub starts_held : (bytes : List ℕ) (end : ℕ) → IsBytes bytes → HoldsAttribute bytes
    → length_field bytes ≤ end → end < length_field bytes + 4 → end % 4 ≡ 0
    → Starts bytes (attribute_of bytes) (drop end bytes)
starts_held bytes end each holds low high multiple =
    let field : ℕ = length_field bytes in
    let value = length-value bytes holds.most in
    let gap : List ℕ = take (end - field) (drop field bytes) in
    let taken : length gap ≡ min (end - field) (length bytes - field) =
    length-take (end - field) (drop field bytes)
    ∙ ap (min (end - field)) (length-drop field bytes) in
    record {
      fits =
          record {
            kind = raw_kind-fits bytes each holds.header;
            value = omega
                (arith, length_field-fits bytes each holds.header, value);
          };
      gap = gap;
      whole =
          text-attribute_of bytes each holds.header holds.least holds.most
          ∙ ap (λ (x : List ℕ). attribute_bytes (attribute_of bytes) ++ x)
          (part_and_rest field end bytes low);
      gap_size =
          elim (gap_sizes field end (length bytes) (length (attribute_of bytes).value) holds.most
          low high multiple (omega (arith, holds.least, value))) [
            | inl full ↦ inl (taken ∙ full)
            | inr short ↦ inr (rw taken short.0, drop_all end bytes short.1)
          ];
    }
