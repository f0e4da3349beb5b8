-- The fields of an attribute's bytes: by item, in an encoding, and as the encoding of what the
-- bytes begin with.
use Rattle.std.proofs.Common.{◌≡◌, ℕ, ◌+◌, ◌-◌, ◌*◌, ◌<◌, ◌≤◌, ◌^◌, List, [], ◌∷◌, ◌++◌, length, get_or, take, drop, refl, ap, sym, ◌∙◌, arith, append_assoc, length-drop}
use Rattle.std.proofs.lemmas.List.{take-append-drop, length-take, take_at, drop-drop}
use Rattle.netlink_bytes.specs.Numbers.{IsBytes, number_le, bytes_le}
use Rattle.netlink_bytes.specs.NumberLaws.{number_le-bytes_le, IsBytes-drop, split_number, front-fits}
use Rattle.netlink_attributes.specs.Attribute.{Attribute, FitsAttribute, attribute_bytes}
use Rattle.netlink_attributes.specs.Views.{length_field, raw_kind, attribute_of}

-- ---- by item

pub length_field-items : (bytes : List ℕ) → 2 ≤ length bytes
    → length_field bytes ≡ get_or bytes 0 0 + 256 * get_or bytes 1 0
unfolding number_le
length_field-items [] long = absurd (omega arith)
length_field-items (a ∷ []) long = absurd (omega arith)
length_field-items (a ∷ b ∷ more) long = omega arith

pub raw_kind-items : (bytes : List ℕ) → 4 ≤ length bytes
    → raw_kind bytes ≡ get_or bytes 2 0 + 256 * get_or bytes 3 0
unfolding number_le
raw_kind-items [] long = absurd (omega arith)
raw_kind-items (a ∷ []) long = absurd (omega arith)
raw_kind-items (a ∷ b ∷ []) long = absurd (omega arith)
raw_kind-items (a ∷ b ∷ c ∷ []) long = absurd (omega arith)
raw_kind-items (a ∷ b ∷ c ∷ d ∷ more) long = omega arith

-- what a proof about a reader needs
pub ruleset by_item = (length_field-items, raw_kind-items)

-- ---- in an encoding

pub length_field-text : (a : Attribute) (more : List ℕ) → FitsAttribute a
    → length_field (attribute_bytes a ++ more) ≡ 4 + length a.value
unfolding bytes_le
length_field-text a more fits =
    number_le-bytes_le (4 + length a.value) 2 (omega (arith, fits.value))

pub raw_kind-text : (a : Attribute) (more : List ℕ) → FitsAttribute a
    → raw_kind (attribute_bytes a ++ more) ≡ a.kind
unfolding bytes_le
raw_kind-text a more fits = number_le-bytes_le a.kind 2 fits.kind

pub drop-text : (a : Attribute) (more : List ℕ)
    → drop 4 (attribute_bytes a ++ more) ≡ a.value ++ more
unfolding bytes_le
drop-text a more = refl

pub same_attribute : (a b : Attribute) → a.kind ≡ b.kind → a.value ≡ b.value → a ≡ b
same_attribute a b p q = λ i. record { kind = p i; value = q i }

-- an attribute reads back from its encoding, whatever follows
pub attribute_of-text : (a : Attribute) (more : List ℕ) → FitsAttribute a
    → attribute_of (attribute_bytes a ++ more) ≡ a
attribute_of-text a more fits =
    let size = length_field-text a more fits in
    let short : length_field (attribute_bytes a ++ more) - 4 ≡ length a.value =
    omega (arith, size) in
    same_attribute _ _ (raw_kind-text a more fits)
    (ap (λ (k : ℕ). take k (drop 4 (attribute_bytes a ++ more))) short
    ∙ ap (take (length a.value)) (drop-text a more)
    ∙ take_at a.value more (length a.value) refl)

-- ---- in bytes

after_two : (bytes : List ℕ) → 4 ≤ length bytes → 2 ≤ length (drop 2 bytes)
after_two bytes long = omega (arith, length-drop 2 bytes)

pub raw_kind-fits : (bytes : List ℕ) → IsBytes bytes → 4 ≤ length bytes → raw_kind bytes < 2 ^ 16
raw_kind-fits bytes each long =
    front-fits 2 (drop 2 bytes) (IsBytes-drop 2 bytes each) (after_two bytes long)

pub length_field-fits : (bytes : List ℕ) → IsBytes bytes → 4 ≤ length bytes
    → length_field bytes < 2 ^ 16
length_field-fits bytes each long = front-fits 2 bytes each (omega (arith, long))

-- a list from an offset is a part and the rest
pub part_and_rest : (start end : ℕ) (bytes : List ℕ) → start ≤ end
    → drop start bytes ≡ take (end - start) (drop start bytes) ++ drop end bytes
part_and_rest start end bytes order =
    let whole : start + (end - start) ≡ end = omega arith in
    sym (take-append-drop (end - start) (drop start bytes))
    ∙ ap (λ (rest : List ℕ). take (end - start) (drop start bytes) ++ rest)
    (drop-drop (end - start) start bytes ∙ ap (λ (k : ℕ). drop k bytes) whole)

regrouped : (a b c d x₀ x₁ x₂ : List ℕ) → x₀ ≡ a ++ x₁ → x₁ ≡ b ++ x₂ → x₂ ≡ c ++ d
    → x₀ ≡ (a ++ (b ++ c)) ++ d
regrouped a b c d x₀ x₁ x₂ p q r =
    let right : (a ++ (b ++ c)) ++ d ≡ a ++ (b ++ (c ++ d)) = simp append_assoc in
    p ∙ ap (λ (x : List ℕ). a ++ x) (q ∙ ap (λ (x : List ℕ). b ++ x) r) ∙ sym right

-- the size of the value that the bytes begin with
pub length-value : (bytes : List ℕ) → length_field bytes ≤ length bytes
    → length (attribute_of bytes).value ≡ length_field bytes - 4
length-value bytes most =
    let taken = length-take (length_field bytes - 4) (drop 4 bytes) in
    let left = length-drop 4 bytes in
    omega arith

-- bytes that hold an attribute are its encoding and what follows
pub text-attribute_of : (bytes : List ℕ) → IsBytes bytes → 4 ≤ length bytes → 4 ≤ length_field bytes
    → length_field bytes ≤ length bytes
    → bytes ≡ attribute_bytes (attribute_of bytes) ++ drop (length_field bytes) bytes
text-attribute_of bytes each long least most =
    let size : 4 + length (attribute_of bytes).value ≡ length_field bytes =
    omega (arith, length-value bytes most) in
    regrouped (bytes_le (4 + length (attribute_of bytes).value) 2) (bytes_le (raw_kind bytes) 2)
    (attribute_of bytes).value (drop (length_field bytes) bytes)
    bytes (drop 2 bytes) (drop 4 bytes)
    (split_number 2 bytes each (omega (arith, long))
    ∙ ap (λ (n : ℕ). bytes_le n 2 ++ drop 2 bytes) (sym size))
    (split_number 2 (drop 2 bytes) (IsBytes-drop 2 bytes each) (after_two bytes long)
    ∙ ap (λ (x : List ℕ). bytes_le (raw_kind bytes) 2 ++ x) (drop-drop 2 2 bytes))
    (part_and_rest 4 (length_field bytes) bytes least)
