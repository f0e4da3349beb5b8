-- What a block encoded from a walk implies about any walk of the same bytes.
use Rattle.std.proofs.Common.{◌≡◌, ◌↔◌, ◌⊎◌, ℕ, List, [], ap, sym, ◌∙◌, inl, inr, Some, None, Result, Ok, Err, Vec, Global, MatchResult, IfOk, IfErr}
use Rattle.netlink_bytes.specs.declared.error.DecodeError.{DecodeError}
use Rattle.netlink_bytes.specs.declared.error.DecodeError.TheVariants.{OutOfMemory}
use Rattle.netlink_attributes.specs.Attribute.{Attribute}
use Rattle.netlink_attributes.specs.Block.{canonical_block, IsCanonicalBlock}
use Rattle.netlink_attributes.specs.Walk.{Walk}
use Rattle.netlink_attributes.specs.BlockLaws.{walked_canonical, written_fixed, canonical_walk, canonical_walked}
use Rattle.netlink_attributes.specs.WalkLaws.{walk_once}

-- bytes with a walk without an error have no walk with one
pub no_fault : (bytes : List ℕ) (x y : List Attribute) (fault : DecodeError) → Walk bytes x None → Walk bytes y (Some fault) → ⊥
no_fault bytes x y fault sound damaged = let same = (walk_once bytes x y None (Some fault) sound damaged).1 in cc

pub same_fault : (bytes : List ℕ) (x y : List Attribute) (f g : DecodeError) → Walk bytes x (Some f) → Walk bytes y (Some g) → f ≡ g
same_fault bytes x y f g p q = let same = (walk_once bytes x y (Some f) (Some g) p q).1 in cc

-- a canonical block has no walk with an error
pub no_canonical_fault : (bytes : List ℕ) (all : List Attribute) (fault : DecodeError)
    → Walk bytes all (Some fault) → IsCanonicalBlock bytes → ⊥
no_canonical_fault bytes all fault walk canonical = let none = (canonical_walked bytes all (Some fault) canonical walk).0 in cc

-- the result is the encoding of a walk, or `OutOfMemory`, or the error that ends a walk
abbrev pub IsNormalized : List ℕ → Result (Vec ℕ Global) DecodeError → Type 0
IsNormalized bytes result = MatchResult result
    (λ v. (all : List Attribute) × Walk bytes all None × (v.items ≡ canonical_block all))
    (λ e. (e ≡ OutOfMemory) ⊎ ((all : List Attribute) × Walk bytes all (Some e)))

pub normalized_ok : (bytes : List ℕ) (result : Result (Vec ℕ Global) DecodeError) → IsNormalized bytes result
    → IfOk result (λ v. (all : List Attribute) × Walk bytes all None × (v.items ≡ canonical_block all))
normalized_ok bytes (Ok v) answer = answer
normalized_ok bytes (Err e) answer = tt

pub normalized_err : (bytes : List ℕ) (result : Result (Vec ℕ Global) DecodeError) → IsNormalized bytes result
    → IfErr result (λ e. (e ≡ OutOfMemory) ⊎ ((all : List Attribute) × Walk bytes all (Some e)))
normalized_err bytes (Ok v) answer = tt
normalized_err bytes (Err e) answer = answer

pub normalized_writes : (bytes : List ℕ) (result : Result (Vec ℕ Global) DecodeError) → IsNormalized bytes result → (all : List Attribute)
    → Walk bytes all None
    → MatchResult result (λ v. v.items ≡ canonical_block all) (λ e. e ≡ OutOfMemory)
normalized_writes bytes (Ok v) (x, walk, items) all other = items ∙ ap canonical_block (walk_once bytes x all None None walk other).0
normalized_writes bytes (Err e) (inl memory) all other = memory
normalized_writes bytes (Err e) (inr (x, walk)) all other = absurd (no_fault bytes all x e other walk)

-- a copy of a canonical block is such a result
pub normalized_copied : (bytes : List ℕ) (result : Result (Vec ℕ Global) DecodeError) → IsCanonicalBlock bytes
    → IfOk result (λ v. v.items ≡ bytes) → IfErr result (λ e. e ≡ OutOfMemory) → IsNormalized bytes result
normalized_copied bytes (Ok v) canonical same memory = let walk = canonical_walk bytes canonical in (walk.0, walk.1, same ∙ sym walk.2)
normalized_copied bytes (Err e) canonical same memory = inl memory

-- the empty list is a canonical block
pub empty_canonical : (bytes : List ℕ) → bytes ≡ [] → IsCanonicalBlock bytes
empty_canonical bytes none = ([], none)

-- for a canonical block, the result is the block itself
pub normalized_fixed : (bytes : List ℕ) (result : Result (Vec ℕ Global) DecodeError) → IsNormalized bytes result → IsCanonicalBlock bytes
    → MatchResult result (λ v. v.items ≡ bytes) (λ e. e ≡ OutOfMemory)
normalized_fixed bytes (Ok v) (x, walk, items) canonical = items ∙ (canonical_walked bytes x None canonical walk).1
normalized_fixed bytes (Err e) (inl memory) canonical = memory
normalized_fixed bytes (Err e) (inr (x, walk)) canonical = absurd (no_canonical_fault bytes x e walk canonical)

pub normalized_canonical : (bytes : List ℕ) (result : Result (Vec ℕ Global) DecodeError) → IsNormalized bytes result
    → IfOk result (λ v. IsCanonicalBlock v.items)
normalized_canonical bytes (Ok v) (x, walk, items) = rw items (walked_canonical bytes x walk)
normalized_canonical bytes (Err e) answer = tt

pub normalized_unchanged : (bytes : List ℕ) (result : Result (Vec ℕ Global) DecodeError) → IsNormalized bytes result
    → IfOk result (λ v. (v.items ≡ bytes) ↔ IsCanonicalBlock bytes)
normalized_unchanged bytes (Ok v) (x, walk, items) = rw items (written_fixed bytes x walk)
normalized_unchanged bytes (Err e) answer = tt
