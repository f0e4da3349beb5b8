-- Writing trees as bytes.
use Rattle.std.specs.Prelude.{ℕ, ◌≡◌, ◌⊎◌, Bool, true, false, ◌||◌, nat_lt, if◌then◌else◌, List, [], ◌∷◌, length, Contains, Result, Ok, Err}
use Rattle.netlink_packet_core.specs.Attribute.{Attribute, value_max}
use Rattle.netlink_packet_core.specs.Block.{canonical_block, IsBlockOf}
use Rattle.netlink_packet_core.specs.DecodeError.TheVariants.{OutOfMemory}
use Rattle.netlink_packet_core.specs.Views.{is_nested}
use Rattle.netlink_tree.specs.Tree.{Tree, leaf, nest, Forest, no_trees, grow, levels}
use Rattle.netlink_tree.specs.declared.fault.TreeFault.{TreeFault}
use Rattle.netlink_tree.specs.declared.fault.TreeFault.TheVariants.{TooDeep, TooLong, Decode}

abbrev mutual
  -- the attribute that a tree is written as: the value of a nest is the block of what is inside
  pub written : Tree → Attribute
  written (leaf kind value) = record { kind = kind; value = value }
  written (nest kind children) =
      record { kind = kind; value = canonical_block (attributes_of children) }

  pub attributes_of : Forest → List Attribute
  attributes_of no_trees = []
  attributes_of (grow t ts) = written t ∷ attributes_of ts

-- the encoding of trees: the canonical block of the attributes that they are written as
abbrev pub tree_bytes : Forest → List ℕ
tree_bytes ts = canonical_block (attributes_of ts)

-- whether bytes are more than the length field of an attribute can count
abbrev pub is_long : List ℕ → Bool
is_long value = nat_lt value_max (length value)

abbrev mutual
  -- whether a value, or the encoding inside a nest, is too long
  pub is_too_long : Tree → Bool
  is_too_long (leaf kind value) = is_long value
  is_too_long (nest kind children) = are_too_long children || is_long (tree_bytes children)

  pub are_too_long : Forest → Bool
  are_too_long no_trees = false
  are_too_long (grow t ts) = is_too_long t || are_too_long ts

-- the result of writing trees
abbrev pub writing : Forest → Result (List ℕ) TreeFault
writing ts =
    if nat_lt 16 (levels ts) then Err TooDeep else if are_too_long ts then Err TooLong else Ok
    (tree_bytes ts)

-- why trees are not written: the error that writing them results in, or `OutOfMemory` if it results
-- in a block
abbrev pub IsWriteFault : Forest → TreeFault → Type 0
IsWriteFault ts e =
    (writing ts ≡ Err e) ⊎ ((e ≡ Decode OutOfMemory) × (writing ts ≡ Ok (tree_bytes ts)))

-- a canonical block in which the value of each attribute with the bit `NLA_F_NESTED` is one too, at
-- every depth
pub data IsCanonicalDeep : List ℕ → Type 0 where
  deep : (bytes : List ℕ) (all : List Attribute) → IsBlockOf bytes all
      → ((a : Attribute) → Contains all a → is_nested a.kind ≡ true → IsCanonicalDeep a.value)
      → IsCanonicalDeep bytes
