-- What a canonical block starts with.
use Rattle.std.proofs.Common.{◌≡◌, ◌≢◌, ℕ, List, [], ◌∷◌, ◌++◌, length, take, drop, ap, sym, subst, ◌∙◌, inl}
use Rattle.std.proofs.lemmas.List.{length-replicate, take_at}
use Rattle.std.specs.Prelude.{replicate}
use Rattle.netlink_bytes.specs.declared.error.DecodeError.{DecodeError}
use Rattle.netlink_attributes.specs.Attribute.{Attribute, padded_size, padding}
use Rattle.netlink_attributes.specs.Block.{IsBlockOf, IsCanonicalBlock}
use Rattle.netlink_attributes.specs.Views.{length_field}
use Rattle.netlink_attributes.specs.Walk.{Starts, IsFault}
use Rattle.netlink_attributes.specs.BlockLaws.{block_walks}
use Rattle.netlink_attributes.specs.StartLaws.{starts-attribute_of, starts-fault, starts-rest, nothing_starts}
use Rattle.netlink_attributes.specs.ZeroPadding.{IsZeroPadded, after_text, same_padding}

block_rest : (bytes : List ℕ) (a : Attribute) (rest : List ℕ) (all : List Attribute) → Starts bytes a rest → IsBlockOf bytes all
    → IsCanonicalBlock rest × IsZeroPadded bytes (length_field bytes)
block_rest bytes a rest [] starts none = absurd (nothing_starts bytes a rest none starts)
block_rest bytes a rest (b ∷ more) starts (then, fits, whole, block) =
    let missing : ℕ = padding (length b.value) in
    let zeros : List ℕ = replicate missing 0 in
    let begins : Starts bytes b then = record { fits = fits; gap = zeros; whole = whole; gap_size = inl (length-replicate missing 0) } in
    let same : b ≡ a = sym (starts-attribute_of bytes b then begins) ∙ starts-attribute_of bytes a rest starts in
    let rests : then ≡ rest =
    starts-rest bytes b then begins ∙ ap (λ (c : Attribute). drop (padded_size c) bytes) same ∙ sym (starts-rest bytes a rest starts) in
    let padded : take missing (drop (length_field bytes) bytes) ≡ zeros =
    ap (take missing) (after_text bytes b then begins) ∙ take_at zeros then missing (length-replicate missing 0) in (
      (more, subst (λ (r : List ℕ). IsBlockOf r more) rests block),
      subst
          (λ (k : ℕ). take k (drop (length_field bytes) bytes) ≡ replicate k 0) (sym (same_padding bytes b then begins)) padded,
    )

-- and every canonical block has this form
pub canonical_rest : (bytes : List ℕ) (a : Attribute) (rest : List ℕ) → Starts bytes a rest → IsCanonicalBlock bytes
    → IsCanonicalBlock rest × IsZeroPadded bytes (length_field bytes)
canonical_rest bytes a rest starts (all, block) = block_rest bytes a rest all starts block

block_fault : (bytes : List ℕ) (fault : DecodeError) (all : List Attribute) → bytes ≢ [] → IsFault bytes fault → IsBlockOf bytes all → ⊥
block_fault bytes fault [] some is none = some none
block_fault bytes fault (a ∷ more) some is block = let walk = block_walks bytes (a ∷ more) block in
    starts-fault bytes a walk.0 fault walk.1 is

pub canonical_fault : (bytes : List ℕ) (fault : DecodeError) → bytes ≢ [] → IsFault bytes fault → IsCanonicalBlock bytes → ⊥
canonical_fault bytes fault some is (all, block) = block_fault bytes fault all some is block
