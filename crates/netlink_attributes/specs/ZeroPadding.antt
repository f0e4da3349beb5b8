-- Attributes whose padding is zeros, one by one.
use Rattle.std.proofs.Common.{◌≡◌, ◌↔◌, ℕ, ◌-◌, ◌<◌, min, List, ◌∷◌, ◌++◌, length, take, drop, ap, sym, subst, ◌∙◌, inl, inr, arith, length-append, length-drop}
use Rattle.std.proofs.lemmas.List.{length-take, length-replicate, take_at, drop_at}
use Rattle.std.specs.Prelude.{replicate}
use Rattle.netlink_attributes.specs.Attribute.{Attribute, attribute_bytes, padding}
use Rattle.netlink_attributes.specs.Block.{IsCanonicalBlock}
use Rattle.netlink_attributes.specs.Sizes.{length-attribute_bytes}
use Rattle.netlink_attributes.specs.StartLaws.{starts-length_field}
use Rattle.netlink_attributes.specs.Views.{length_field}
use Rattle.netlink_attributes.specs.Walk.{Starts}

-- zeros follow the first `size` bytes up to a multiple of 4
abbrev pub IsZeroPadded : List ℕ → ℕ → Type 0
IsZeroPadded bytes size = take (padding size) (drop size bytes) ≡ replicate (padding size) 0

-- not if the bytes end before it
pub short_padding : (bytes : List ℕ) (size : ℕ) → length bytes - size < padding size → IsZeroPadded bytes size → ⊥
short_padding bytes size short zeros =
    let taken : length (take (padding size) (drop size bytes)) ≡ min (padding size) (length bytes - size) =
    length-take (padding size) (drop size bytes) ∙ ap (min (padding size)) (length-drop size bytes) in
    let whole : length (take (padding size) (drop size bytes)) ≡ padding size = ap length zeros ∙ length-replicate (padding size) 0 in
    omega arith

-- the encoding of an attribute is followed by its gap and the rest
pub after_text : (bytes : List ℕ) (a : Attribute) (rest : List ℕ) (starts : Starts bytes a rest)
    → drop (length_field bytes) bytes ≡ starts.gap ++ rest
after_text bytes a rest starts =
    let field = starts-length_field bytes a rest starts in
    let text = length-attribute_bytes a in
    ap (drop (length_field bytes)) starts.whole ∙ drop_at (attribute_bytes a) (starts.gap ++ rest) (length_field bytes) (omega arith)

pub same_padding : (bytes : List ℕ) (a : Attribute) (rest : List ℕ) → Starts bytes a rest
    → padding (length_field bytes) ≡ padding (length a.value)
same_padding bytes a rest starts = let field = starts-length_field bytes a rest starts in omega arith

-- if the padding is zeros, it is the whole gap
zero_gap : (bytes : List ℕ) (a : Attribute) (rest : List ℕ) (starts : Starts bytes a rest) → IsZeroPadded bytes (length_field bytes)
    → starts.gap ≡ replicate (padding (length a.value)) 0
zero_gap bytes a rest starts zeros =
    let missing : ℕ = padding (length a.value) in
    let taken : take missing (starts.gap ++ rest) ≡ replicate missing 0 =
    ap (take missing) (sym (after_text bytes a rest starts))
    ∙ subst (λ (k : ℕ). take k (drop (length_field bytes) bytes) ≡ replicate k 0) (same_padding bytes a rest starts) zeros in
    elim starts.gap_size [
      | inl full ↦ sym (take_at starts.gap rest missing full) ∙ taken
      | inr short ↦
          let size = length-take missing (starts.gap ++ rest) in
          let whole : length (take missing (starts.gap ++ rest)) ≡ missing = ap length taken ∙ length-replicate missing 0 in
          let parts = length-append starts.gap rest in
          absurd (omega (arith, short.0, ap length short.1))
    ]

-- an attribute with padding of zeros and then a canonical block are a canonical block
pub canonical_cons : (bytes : List ℕ) (a : Attribute) (rest : List ℕ) → Starts bytes a rest → IsZeroPadded bytes (length_field bytes)
    → IsCanonicalBlock rest → IsCanonicalBlock bytes
canonical_cons bytes a rest starts zeros (more, block) = (
  a ∷ more,
  (
    rest,
    starts.fits,
    starts.whole
        ∙ ap (λ (gap : List ℕ). attribute_bytes a ++ (gap ++ rest)) (zero_gap bytes a rest starts zeros),
    block,
  ),
)

-- the same padding, with other names for the bytes and their length field
pub same_zeros : (bytes other shown : List ℕ) (size : ℕ) → shown ≡ bytes → other ≡ shown → size ≡ length_field shown
    → IsZeroPadded other size ↔ IsZeroPadded bytes (length_field bytes)
same_zeros bytes other shown size first second field =
    let same : other ≡ bytes = second ∙ first in
    let sizes : size ≡ length_field bytes = field ∙ ap length_field first in
    let both : IsZeroPadded other size ≡ IsZeroPadded bytes (length_field bytes) =
    ap (λ (x : List ℕ). IsZeroPadded x size) same ∙ ap (IsZeroPadded bytes) sizes in
    (λ zeros. subst (λ (X : Type 0). X) both zeros, λ zeros. subst (λ (X : Type 0). X) (sym both) zeros)
