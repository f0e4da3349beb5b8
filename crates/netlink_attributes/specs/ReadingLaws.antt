-- The function that reads a block returns the attributes of its walk, if and only if the walk has
-- no error.
use Rattle.std.proofs.Common.{◌≡◌, ◌↔◌, ℕ, zero, suc, ◌<◌, ◌≤◌, ◌^◌, Bool, true, false, List, [], ◌∷◌, length, drop, Option, Some, None, All, refl, ap, sym, subst, ◌∙◌, arith}
use Rattle.std.proofs.lemmas.Bool.{and_parts, and_from, and_left, and_right, lt-ltb, le-leb, lt-leb, ltb-true, leb-true}
use Rattle.std.proofs.lemmas.List.Elements.{All-nil, All-cons}
use Rattle.std.specs.Option.{option_map}
use Rattle.std.specs.Prelude.{if◌then◌else◌}
use Rattle.netlink_bytes.specs.Numbers.{IsBytes}
use Rattle.netlink_bytes.specs.declared.error.DecodeError.{DecodeError}
use Rattle.netlink_bytes.specs.declared.error.DecodeError.TheVariants.{NlaBufferTooSmall, NlaLengthMismatch, NlaInvalidLength}
use Rattle.netlink_attributes.specs.Attribute.{Attribute, FitsAttribute, padded_size}
use Rattle.netlink_attributes.specs.Block.{canonical_block, IsCanonicalBlock}
use Rattle.netlink_attributes.specs.BlockLaws.{canonical_walk, written_block, written_walks}
use Rattle.netlink_attributes.specs.FieldLaws.{length-value}
use Rattle.netlink_attributes.specs.Reading.{attributes_in, attributes_within, starts_whole}
use Rattle.netlink_attributes.specs.StartLaws.{starts-attribute_of, starts-length, starts-length_field, starts-rest, nothing_starts}
use Rattle.netlink_attributes.specs.Views.{attribute_of, length_field, raw_kind}
use Rattle.netlink_attributes.specs.Walk.{Starts, Walk, IsFault}
use Rattle.netlink_attributes.specs.WalkLaws.{has_walk}

-- ---- up to a number of attributes

pub starts-whole : (bytes : List ℕ) (a : Attribute) (rest : List ℕ) → Starts bytes a rest
    → starts_whole bytes ≡ true
starts-whole bytes a rest starts =
    let field = starts-length_field bytes a rest starts in
    let size = starts-length bytes a rest starts in
    let kind : raw_kind bytes ≡ a.kind =
    ap (λ (x : Attribute). x.kind) (starts-attribute_of bytes a rest starts) in
    let value = starts.fits.value in
    let small : a.kind < 2 ^ 16 = starts.fits.kind in
    let header : 4 ≤ length bytes = omega arith in
    let least : 4 ≤ length_field bytes = omega arith in
    let most : length_field bytes ≤ length bytes = omega arith in
    let length_fits : length_field bytes < 2 ^ 16 = omega arith in
    let kind_fits : raw_kind bytes < 2 ^ 16 = omega (arith, kind, small) in
    and_from _ _ (le-leb _ _ header) (and_from _ _ (le-leb _ _ least)
    (and_from _ _ (le-leb _ _ most) (and_from _ _ (lt-ltb _ _ length_fits) (lt-ltb _ _ kind_fits))))

-- the rest follows the attribute that the bytes begin with
after-attribute_of : (bytes : List ℕ) (a : Attribute) (rest : List ℕ) → Starts bytes a rest
    → drop (padded_size (attribute_of bytes)) bytes ≡ rest
after-attribute_of bytes a rest starts =
    ap (λ (x : Attribute). drop (padded_size x) bytes) (starts-attribute_of bytes a rest starts)
    ∙ sym (starts-rest bytes a rest starts)

pub fault-whole : (bytes : List ℕ) (fault : DecodeError) → IsFault bytes fault
    → starts_whole bytes ≡ false
fault-whole bytes (NlaBufferTooSmall size least) is = and_left _ _ (lt-leb _ _ is.0)
fault-whole bytes (NlaLengthMismatch size said) is =
    and_right _ _ (and_right _ _ (and_left _ _ (lt-leb _ _ is.1)))
fault-whole bytes (NlaInvalidLength least said) is = and_right _ _ (and_left _ _ (lt-leb _ _ is.1))
fault-whole bytes _ is = absurd is

-- for a walk without an error, the function returns its attributes
walk-within : (most : ℕ) (bytes : List ℕ) (all : List Attribute) → length bytes ≤ most
    → Walk bytes all None → attributes_within most bytes ≡ Some all
unfolding attributes_within
walk-within zero [] [] enough walk = refl
walk-within zero [] (a ∷ more) enough (rest, starts, walk) =
    absurd (nothing_starts _ _ _ refl starts)
walk-within zero (b ∷ bytes) all enough walk = absurd (omega arith)
walk-within (suc most) [] [] enough walk = refl
walk-within (suc most) [] (a ∷ more) enough (rest, starts, walk) =
    absurd (nothing_starts _ _ _ refl starts)
walk-within (suc most) (b ∷ bytes) [] enough walk = absurd (cc)
walk-within (suc most) (b ∷ bytes) (a ∷ more) enough (rest, starts, walk) =
    let whole = starts-whole (b ∷ bytes) a rest starts in
    let same = starts-attribute_of (b ∷ bytes) a rest starts in
    let size = starts-length (b ∷ bytes) a rest starts in
    let behind = after-attribute_of (b ∷ bytes) a rest starts in
    let later = walk-within most rest more (omega arith) walk in
    let rests : attributes_within most (drop (padded_size (attribute_of (b ∷ bytes))) (b ∷ bytes))
    ≡ Some more =
    ap (attributes_within most) behind ∙ later in
    rw (whole, rests) (ap (λ (x : Attribute). Some (x ∷ more)) same)

-- and for a walk with an error, it returns `None`
fault-within : (most : ℕ) (bytes : List ℕ) (all : List Attribute) (fault : DecodeError)
    → length bytes ≤ most → Walk bytes all (Some fault) → attributes_within most bytes ≡ None
unfolding attributes_within
fault-within zero [] [] fault enough walk = absurd (walk.0 refl)
fault-within zero [] (a ∷ more) fault enough (rest, starts, walk) =
    absurd (nothing_starts _ _ _ refl starts)
fault-within zero (b ∷ bytes) all fault enough walk = absurd (omega arith)
fault-within (suc most) [] [] fault enough walk = absurd (walk.0 refl)
fault-within (suc most) [] (a ∷ more) fault enough (rest, starts, walk) =
    absurd (nothing_starts _ _ _ refl starts)
fault-within (suc most) (b ∷ bytes) [] fault enough walk =
    let not_whole = fault-whole (b ∷ bytes) fault walk.1 in rw not_whole refl
fault-within (suc most) (b ∷ bytes) (a ∷ more) fault enough (rest, starts, walk) =
    let whole = starts-whole (b ∷ bytes) a rest starts in
    let size = starts-length (b ∷ bytes) a rest starts in
    let behind = after-attribute_of (b ∷ bytes) a rest starts in
    let later = fault-within most rest more fault (omega arith) walk in
    let rests : attributes_within most (drop (padded_size (attribute_of (b ∷ bytes))) (b ∷ bytes))
    ≡ None =
    ap (attributes_within most) behind ∙ later in
    rw (whole, rests) refl

small-fits : (bytes : List ℕ) → length_field bytes ≤ length bytes → length_field bytes < 2 ^ 16
    → raw_kind bytes < 2 ^ 16
    → FitsAttribute (attribute_of bytes)
small-fits bytes most field kind =
    record { kind = kind; value = omega (arith, length-value bytes most) }

whole-fits : (bytes : List ℕ) → starts_whole bytes ≡ true → FitsAttribute (attribute_of bytes)
whole-fits bytes whole =
    let sizes = (and_parts _ _ (and_parts _ _ whole).1).1 in
    let numbers = and_parts _ _ (and_parts _ _ sizes).1 in
    small-fits bytes (leb-true _ _ (and_parts _ _ sizes).0) (ltb-true _ _ numbers.0)
    (ltb-true _ _ numbers.1)

some-same : (x y : List Attribute) → ◌≡◌ {A = Option (List Attribute)} (Some x) (Some y) → x ≡ y
some-same x y e = cc

by_rest : (a : Attribute) (rest : Option (List Attribute)) (all : List Attribute) → FitsAttribute a
    → ((more : List Attribute) → rest ≡ Some more → All FitsAttribute more)
    → option_map (λ x. a ∷ x) rest ≡ Some all → All FitsAttribute all
by_rest a None all fits later gives = absurd (cc)
by_rest a (Some more) all fits later gives =
    subst (All FitsAttribute) (some-same (a ∷ more) all gives)
    (All-cons FitsAttribute a more fits (later more refl))

by_whole : (whole : Bool) (a : Attribute) (rest : Option (List Attribute)) (all : List Attribute)
    → (whole ≡ true → FitsAttribute a)
    → ((more : List Attribute) → rest ≡ Some more → All FitsAttribute more)
    → (if whole then option_map (λ x. a ∷ x) rest else None) ≡ Some all → All FitsAttribute all
by_whole true a rest all fits later gives = by_rest a rest all (fits refl) later gives
by_whole false a rest all fits later gives = absurd (cc)

no-attributes : (all : List Attribute) → ◌≡◌ {A = Option (List Attribute)} (Some []) (Some all)
    → All FitsAttribute all
no-attributes [] e = All-nil FitsAttribute
no-attributes (a ∷ all) e = absurd (cc)

within-fits : (most : ℕ) (bytes : List ℕ) (all : List Attribute)
    → attributes_within most bytes ≡ Some all → All FitsAttribute all
unfolding attributes_within
within-fits zero [] all gives = no-attributes all gives
within-fits zero (b ∷ bytes) all gives = absurd (cc)
within-fits (suc most) [] all gives = no-attributes all gives
within-fits (suc most) (b ∷ bytes) all gives =
    by_whole (starts_whole (b ∷ bytes)) _ _ all (whole-fits (b ∷ bytes))
    (within-fits most (drop (padded_size (attribute_of (b ∷ bytes))) (b ∷ bytes))) gives

-- ---- the whole block

-- for a walk without an error, the function returns its attributes
pub attributes_in-walk : (bytes : List ℕ) (all : List Attribute) → Walk bytes all None
    → attributes_in bytes ≡ Some all
attributes_in-walk bytes all walk = walk-within (length bytes) bytes all (omega arith) walk

-- for a walk with an error, it returns `None`
pub attributes_in-fault : (bytes : List ℕ) (all : List Attribute) (fault : DecodeError)
    → Walk bytes all (Some fault) → attributes_in bytes ≡ None
attributes_in-fault bytes all fault walk =
    fault-within (length bytes) bytes all fault (omega arith) walk

by_walk : (bytes : List ℕ) (all found : List Attribute) (fault : Option DecodeError)
    → Walk bytes found fault → attributes_in bytes ≡ Some all → Walk bytes all None
by_walk bytes all found None walk gives =
    let same : found ≡ all =
    some-same found all (sym (attributes_in-walk bytes found walk) ∙ gives) in
    subst (λ (x : List Attribute). Walk bytes x None) same walk
by_walk bytes all found (Some fault) walk gives =
    let none = attributes_in-fault bytes found fault walk in absurd (cc)

-- and what it returns is the walk
pub walk-attributes_in : (bytes : List ℕ) (all : List Attribute) → IsBytes bytes
    → attributes_in bytes ≡ Some all → Walk bytes all None
walk-attributes_in bytes all each gives = let walk = has_walk bytes each in
    by_walk bytes all walk.0 walk.1 walk.2 gives

-- the attributes that it returns fit their fields
pub attributes_in-fit : (bytes : List ℕ) (all : List Attribute) → attributes_in bytes ≡ Some all
    → All FitsAttribute all
attributes_in-fit bytes all gives = within-fits (length bytes) bytes all gives

-- the encoding of attributes that fit is read back as them
pub attributes_in-written : (all : List Attribute) → All FitsAttribute all
    → attributes_in (canonical_block all) ≡ Some all
attributes_in-written all fit = attributes_in-walk (canonical_block all) all (written_walks all fit)

-- a canonical block is read as the attributes that it encodes
pub attributes_in-canonical : (bytes : List ℕ) → IsCanonicalBlock bytes
    → (all : List Attribute) × (attributes_in bytes ≡ Some all) × (canonical_block all ≡ bytes)
attributes_in-canonical bytes canonical =
    let walk = canonical_walk bytes canonical in
    (walk.0, attributes_in-walk bytes walk.0 walk.1, walk.2)

-- encoding the attributes that were read gives the bytes if and only if these are canonical
pub attributes_in-fixed : (bytes : List ℕ) (all : List Attribute) → attributes_in bytes ≡ Some all
    → (canonical_block all ≡ bytes) ↔ IsCanonicalBlock bytes
attributes_in-fixed bytes all gives = (
  λ same. subst IsCanonicalBlock same (all, written_block all (attributes_in-fit bytes all gives)),
  λ canonical. (let read = attributes_in-canonical bytes canonical in
      ap canonical_block (some-same all read.0 (sym gives ∙ read.1)) ∙ read.2),
)
