-- Facts about the encoding of a list, and about canonical blocks.
use Rattle.std.proofs.Common.{◌≡◌, ◌↔◌, ℕ, suc, List, [], ◌∷◌, ◌++◌, length, refl, ap, sym, subst, ◌∙◌, inl, arith, Option, None, All, append_assoc, append-nil}
use Rattle.std.proofs.lemmas.List.{length-replicate}
use Rattle.std.specs.Prelude.{replicate}
use Rattle.netlink_bytes.specs.declared.error.DecodeError.{DecodeError}
use Rattle.netlink_attributes.specs.Attribute.{Attribute, FitsAttribute, attribute_bytes, padded, padding}
use Rattle.netlink_attributes.specs.Block.{canonical_block, IsBlockOf, IsCanonicalBlock}
use Rattle.netlink_attributes.specs.Views.{attribute_of, HoldsAttribute}
use Rattle.netlink_attributes.specs.Walk.{Starts, Walk}
use Rattle.netlink_attributes.specs.FieldLaws.{attribute_of-text}
use Rattle.netlink_attributes.specs.StartLaws.{starts-length_field, starts-length}
use Rattle.netlink_attributes.specs.WalkLaws.{walk_once}

-- bytes that are a padded attribute and then a rest start with the attribute
starts_padded : (bytes : List ℕ) (a : Attribute) (rest : List ℕ) → FitsAttribute a
    → bytes ≡ attribute_bytes a ++ (replicate (padding (length a.value)) 0 ++ rest)
    → Starts bytes a rest
starts_padded bytes a rest fits whole =
    record {
      fits = fits;
      gap = replicate (padding (length a.value)) 0;
      whole = whole;
      gap_size = inl (length-replicate (padding (length a.value)) 0);
    }

padded-append : (a : Attribute) (rest : List ℕ)
    → padded a ++ rest ≡ attribute_bytes a ++ (replicate (padding (length a.value)) 0 ++ rest)
padded-append a rest =
    append_assoc (attribute_bytes a) (replicate (padding (length a.value)) 0) rest

pub attribute_of-padded : (a : Attribute) (rest : List ℕ) → FitsAttribute a
    → attribute_of (padded a ++ rest) ≡ a
attribute_of-padded a rest fits =
    ap attribute_of (padded-append a rest)
    ∙ attribute_of-text a (replicate (padding (length a.value)) 0 ++ rest) fits

-- and they hold the attribute
pub holds_padded : (a : Attribute) (rest : List ℕ) → FitsAttribute a
    → HoldsAttribute (padded a ++ rest)
holds_padded a rest fits =
    let starts = starts_padded (padded a ++ rest) a rest fits (padded-append a rest) in
    let field = starts-length_field (padded a ++ rest) a rest starts in
    let size = starts-length (padded a ++ rest) a rest starts in
    record {
      header = omega (arith, size);
      least = omega (arith, field);
      most = omega
          (arith, field, size);
    }

-- walking a block of attributes yields them
pub block_walks : (bytes : List ℕ) (all : List Attribute) → IsBlockOf bytes all
    → Walk bytes all None
block_walks bytes [] none = none
block_walks bytes (a ∷ more) (rest, fits, whole, block) =
    (rest, starts_padded bytes a rest fits whole, block_walks rest more block)

-- and the block is their encoding
pub block_bytes : (bytes : List ℕ) (all : List Attribute) → IsBlockOf bytes all
    → bytes ≡ canonical_block all
block_bytes bytes [] none = none
block_bytes bytes (a ∷ more) (rest, fits, whole, block) =
    whole ∙ sym (padded-append a rest)
    ∙ ap (λ (x : List ℕ). padded a ++ x) (block_bytes rest more block)

-- the encoding of attributes that fit is a block of them
pub written_block : (all : List Attribute) → All FitsAttribute all
    → IsBlockOf (canonical_block all) all
written_block [] each = refl
written_block (a ∷ more) each = (
  canonical_block more,
  each 0 a (omega arith),
  padded-append a (canonical_block more),
  written_block more (λ k d inside. each (suc k) d (omega arith)),
)

pub written_walks : (all : List Attribute) → All FitsAttribute all
    → Walk (canonical_block all) all None
written_walks all each = block_walks (canonical_block all) all (written_block all each)

-- the encoding of a walk without an error is a block of its attributes
pub walked_block : (bytes : List ℕ) (all : List Attribute) → Walk bytes all None
    → IsBlockOf (canonical_block all) all
walked_block bytes [] none = refl
walked_block bytes (a ∷ more) (rest, starts, walk) = (
  canonical_block more,
  starts.fits,
  padded-append a (canonical_block more),
  walked_block rest
      more walk,
)

pub walked_canonical : (bytes : List ℕ) (all : List Attribute) → Walk bytes all None
    → IsCanonicalBlock (canonical_block all)
walked_canonical bytes all walk = (all, walked_block bytes all walk)

-- and it is the bytes themselves if and only if they are canonical
pub written_fixed : (bytes : List ℕ) (all : List Attribute) → Walk bytes all None
    → (canonical_block all ≡ bytes) ↔ IsCanonicalBlock bytes
written_fixed bytes all walk = (
  λ same. subst IsCanonicalBlock same (walked_canonical bytes all walk),
  λ canonical. (let same = walk_once bytes all canonical.0 None None walk
      (block_walks bytes canonical.0 canonical.1) in
      ap canonical_block same.0 ∙ sym (block_bytes bytes canonical.0 canonical.1)),
)

pub block_push : (done : List Attribute) (a : Attribute)
    → canonical_block (done ++ (a ∷ [])) ≡ canonical_block done ++ padded a
block_push [] a = append-nil (padded a)
block_push (first ∷ done) a =
    ap (λ x. padded first ++ x) (block_push done a)
    ∙ sym (append_assoc (padded first) (canonical_block done) (padded a))

pub block_joined : (bytes : List ℕ) (block more : List Attribute) (after : List ℕ)
    (fault : Option DecodeError)
    → IsBlockOf bytes block → Walk after more fault → Walk (bytes ++ after) (block ++ more) fault
block_joined bytes [] more after fault none later =
    subst (λ (x : List ℕ). Walk (x ++ after) more fault) (sym none) later
block_joined bytes (a ∷ block) more after fault (rest, fits, whole, is) later =
    let zeros : List ℕ = replicate (padding (length a.value)) 0 in
    let joined : bytes ++ after ≡ attribute_bytes a ++ (zeros ++ (rest ++ after)) =
    ap (λ (x : List ℕ). x ++ after) whole ∙ append_assoc (attribute_bytes a) (zeros ++ rest) after
    ∙ ap (λ (x : List ℕ). attribute_bytes a ++ x) (append_assoc zeros rest after) in (
      rest ++ after,
      starts_padded (bytes ++ after) a (rest ++ after) fits joined,
      block_joined rest
          block more after fault is later,
    )

-- bytes after a block of attributes are walked as they are alone
pub walk_joined : (bytes : List ℕ) (block all more : List Attribute) (after : List ℕ)
    (end fault : Option DecodeError)
    → IsBlockOf bytes block → Walk bytes all end → Walk after more fault
    → Walk (bytes ++ after) (all ++ more) fault
walk_joined bytes block all more after end fault is walk later =
    let same = (walk_once bytes block all None end (block_walks bytes block is) walk).0 in
    subst (λ (x : List Attribute). Walk (bytes ++ after) (x ++ more) fault) same
    (block_joined bytes block more after fault is later)

-- a canonical block is walked without an error, and encoding its walk gives the block
pub canonical_walk : (bytes : List ℕ) → IsCanonicalBlock bytes
    → (all : List Attribute) × Walk bytes all None × (canonical_block all ≡ bytes)
canonical_walk bytes (all, block) =
    (all, block_walks bytes all block, sym (block_bytes bytes all block))

pub canonical_walked : (bytes : List ℕ) (all : List Attribute) (fault : Option DecodeError)
    → IsCanonicalBlock bytes
    → Walk bytes all fault → (fault ≡ None) × (canonical_block all ≡ bytes)
canonical_walked bytes all fault (block, is) walk =
    let same = walk_once bytes all block fault None walk (block_walks bytes block is) in
    (same.1, ap canonical_block same.0 ∙ sym (block_bytes bytes block is))

-- two blocks have the same encoding if and only if they have the same attributes
pub written_alike : (a b : List ℕ) (x y : List Attribute) → Walk a x None → Walk b y None
    → (canonical_block x ≡ canonical_block y) ↔ (x ≡ y)
written_alike a b x y walk other = (
  λ same. (walk_once (canonical_block y) x y None None
      (subst (λ (block : List ℕ). Walk block x None) same
      (block_walks (canonical_block x) x (walked_block a x walk)))
      (block_walks (canonical_block y) y (walked_block b y other))).0,
  λ same. ap canonical_block same,
)
