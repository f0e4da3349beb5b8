-- What was canonical while an attribute with both flag bits lost one is still canonical.
use Rattle.std.proofs.Common.{◌≡◌, ℕ, Bool, cond, ◌-◌, ◌<◌, ◌^◌, List, [], ◌∷◌, ◌++◌, refl, ap, sym, ◌∙◌, Option, None}
use Rattle.std.proofs.lemmas.Bool.{lt-leb}
use Rattle.netlink_bytes.specs.declared.error.DecodeError.{DecodeError}
use Rattle.netlink_attributes.specs.Attribute.{Attribute, padded}
use Rattle.netlink_attributes.specs.Block.{canonical_block, IsBlockOf, IsCanonicalBlock}
use Rattle.netlink_attributes.specs.Nla.{attribute_with}
use Rattle.netlink_attributes.specs.OlderBlock.{both_flags, older_written_kind, older_canonical_block, IsOlderBlockOf, IsOlderCanonicalBlock}
use Rattle.netlink_attributes.specs.Walk.{Walk}
use Rattle.netlink_attributes.specs.BlockLaws.{block_walks, block_bytes}
use Rattle.netlink_attributes.specs.WalkLaws.{walk_once}

older_block : (bytes : List ℕ) (all : List Attribute) → IsOlderBlockOf bytes all → IsBlockOf bytes all
older_block bytes [] none = none
older_block bytes (a ∷ more) (rest, fits, one_flag, whole, block) = (rest, fits, whole, older_block rest more block)

-- a kind without both flag bits was written unchanged
older_kind : (kind : ℕ) → kind < both_flags → older_written_kind kind ≡ kind
older_kind kind one_flag = ap (λ (b : Bool). cond b (kind - 2 ^ 14) kind) (lt-leb both_flags kind one_flag)

-- and a block of such kinds was encoded as it is now
older_text : (bytes : List ℕ) (all : List Attribute) → IsOlderBlockOf bytes all → older_canonical_block all ≡ canonical_block all
older_text bytes [] none = refl
older_text bytes (a ∷ more) (rest, fits, one_flag, whole, block) =
    ap (λ (kind : ℕ). padded (attribute_with kind a.value) ++ older_canonical_block more) (older_kind a.kind one_flag)
    ∙ ap (λ (x : List ℕ). padded a ++ x) (older_text rest more block)

pub older_canonical : (bytes : List ℕ) → IsOlderCanonicalBlock bytes → IsCanonicalBlock bytes
older_canonical bytes (all, block) = (all, older_block bytes all block)

pub older_walk : (bytes : List ℕ) → IsOlderCanonicalBlock bytes → (all : List Attribute) (fault : Option DecodeError) → Walk bytes all fault
    → (fault ≡ None) × (canonical_block all ≡ bytes) × (older_canonical_block all ≡ bytes)
older_walk bytes (block, older) all fault walk =
    let is = older_block bytes block older in
    let same = walk_once bytes block all None fault (block_walks bytes block is) walk in
    let text : canonical_block all ≡ bytes = ap canonical_block (sym same.0) ∙ sym (block_bytes bytes block is) in
    (sym same.1, text, ap older_canonical_block (sym same.0) ∙ older_text bytes block older ∙ ap canonical_block same.0 ∙ text)
