-- Bytes read as trees.
use Rattle.std.specs.Prelude.{ℕ, zero, suc, ◌≡◌, ◌≢◌, ◌⊎◌, true, false, List, [], ◌∷◌, Option, Some, None, Result, Ok, Err}
use Rattle.netlink_packet_core.specs.Attribute.{Attribute}
use Rattle.netlink_packet_core.specs.DecodeError.{DecodeError}
use Rattle.netlink_packet_core.specs.Views.{is_nested}
use Rattle.netlink_packet_core.specs.Walk.{Walk}
use Rattle.netlink_tree.specs.Tree.{Tree, leaf, nest, Forest, no_trees, grow}
use Rattle.netlink_tree.specs.declared.fault.TreeFault.{TreeFault}
use Rattle.netlink_tree.specs.declared.fault.TreeFault.TheVariants.{TooDeep, Decode}

-- the result for bytes: trees, or an error
abbrev pub Outcome : Type 0
Outcome = Result Forest TreeFault

-- the attribute is this tree, or has this error inside; `Inside` relates the value of a nest to its
-- result
abbrev pub IsRead : (List ℕ → Outcome → Type 0) → Attribute → Result Tree TreeFault → Type 0
IsRead Inside a (Ok (leaf kind value)) =
    (is_nested a.kind ≡ false) × (kind ≡ a.kind) × (value ≡ a.value)
IsRead Inside a (Ok (nest kind children)) =
    (is_nested a.kind ≡ true) × (kind ≡ a.kind) × Inside a.value (Ok children)
IsRead Inside a (Err fault) = (is_nested a.kind ≡ true) × Inside a.value (Err fault)

-- the result for attributes, one after another, and then the end or one error: the first error is
-- the result
abbrev pub Along : (List ℕ → Outcome → Type 0) → List Attribute → Option DecodeError → Outcome
    → Type 0
Along Inside [] None outcome = outcome ≡ Ok no_trees
Along Inside [] (Some fault) outcome = outcome ≡ Err (Decode fault)
Along Inside (a ∷ more) fault (Ok no_trees) = ⊥
Along Inside (a ∷ more) fault (Ok (grow t ts)) =
    IsRead Inside a (Ok t) × Along Inside more fault (Ok ts)
Along Inside (a ∷ more) fault (Err found) =
    IsRead Inside a (Err found)
    ⊎ ((t : Tree) × IsRead Inside a (Ok t) × Along Inside more fault (Err found))

-- the result for bytes in which attributes may be nested to a depth of `levels`
unfoldable pub Trees : ℕ → List ℕ → Outcome → Type 0
Trees zero bytes outcome =
    ((bytes ≡ []) × (outcome ≡ Ok no_trees)) ⊎ ((bytes ≢ []) × (outcome ≡ Err TooDeep))
Trees (suc levels) bytes outcome =
    (all : List Attribute) × (fault : Option DecodeError) × Walk bytes all fault
    × Along (Trees levels) all fault outcome
