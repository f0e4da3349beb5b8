-- Every byte list has a result.
use Rattle.std.proofs.Common.{◌≡◌, ℕ, zero, suc, ◌+◌, List, [], ◌∷◌, ◌++◌, drop, Bool, true, false, refl, ap, ◌∙◌, inl, inr, arith, Option, Some, None, Result, Ok, Err}
use Rattle.std.proofs.lemmas.List.{get_or-drop}
use Rattle.netlink_packet_core.specs.Attribute.{Attribute, attribute_bytes}
use Rattle.netlink_packet_core.specs.DecodeError.{DecodeError}
use Rattle.netlink_packet_core.specs.Numbers.{IsBytes, bytes_le}
use Rattle.netlink_packet_core.specs.Views.{is_nested}
use Rattle.netlink_packet_core.specs.StartLaws.{starts_bytes}
use Rattle.netlink_packet_core.specs.Walk.{Starts, Walk}
use Rattle.netlink_tree.specs.Tree.{Tree, leaf, nest, no_trees, grow}
use Rattle.netlink_tree.specs.Reading.{Outcome, IsRead, Along, Trees}
use Rattle.netlink_tree.specs.declared.fault.TreeFault.{TreeFault}
use Rattle.netlink_tree.specs.declared.fault.TreeFault.TheVariants.{TooDeep, Decode}

-- every byte list has a walk
abbrev pub Walks : Type 0
Walks = (bytes : List ℕ) → IsBytes bytes → (all : List Attribute) × (fault : Option DecodeError) × Walk bytes all fault

-- every value has a result
abbrev Comes : (List ℕ → Outcome → Type 0) → Type 0
Comes Inside = (v : List ℕ) → IsBytes v → (outcome : Outcome) × Inside v outcome

-- the start of a list of bytes is a list of bytes
front_bytes : (v more : List ℕ) → IsBytes (v ++ more) → IsBytes v
front_bytes [] more each i = omega arith
front_bytes (x ∷ v) more each zero = each 0
front_bytes (x ∷ v) more each (suc i) = front_bytes v more (λ j. each (suc j)) i

after_header : (a : Attribute) (more : List ℕ) → drop 4 (attribute_bytes a ++ more) ≡ a.value ++ more
unfolding bytes_le
after_header a more = refl

value_bytes : (bytes : List ℕ) (a : Attribute) (rest : List ℕ) → Starts bytes a rest → IsBytes bytes → IsBytes a.value
value_bytes bytes a rest starts each = front_bytes a.value (starts.gap ++ rest) (λ i.
    let behind : drop 4 bytes ≡ a.value ++ (starts.gap ++ rest) = ap (drop 4) starts.whole ∙ after_header a (starts.gap ++ rest) in
    rw (← behind, get_or-drop) (each (4 + i)))

-- an attribute is read as a tree, or has an error inside
read_some : (Inside : List ℕ → Outcome → Type 0) → Comes Inside → (a : Attribute) → IsBytes a.value
    → (r : Result Tree TreeFault) × IsRead Inside a r
read_some Inside comes a each = by_flag (is_nested a.kind) refl
  where
    by_flag : (flag : Bool) → is_nested a.kind ≡ flag → (r : Result Tree TreeFault) × IsRead Inside a r
    by_flag false is = (Ok (leaf a.kind a.value), (is, refl, refl))
    by_flag true is = by_outcome (comes a.value each)
      where
        by_outcome : (outcome : Outcome) × Inside a.value outcome → (r : Result Tree TreeFault) × IsRead Inside a r
        by_outcome (Ok ts, inside) = (Ok (nest a.kind ts), (is, refl, inside))
        by_outcome (Err e, inside) = (Err e, (is, inside))

-- and with the result for what follows it, this gives a result for both
joined : (Inside : List ℕ → Outcome → Type 0) (a : Attribute) (more : List Attribute) (fault : Option DecodeError)
    → (r : Result Tree TreeFault) × IsRead Inside a r → (behind : Outcome) × Along Inside more fault behind
    → (outcome : Outcome) × Along Inside (a ∷ more) fault outcome
joined Inside a more fault (Err e, first) behind = (Err e, inl first)
joined Inside a more fault (Ok t, first) (Ok ts, along) = (Ok (grow t ts), (first, along))
joined Inside a more fault (Ok t, first) (Err e, along) = (Err e, inr (t, first, along))

along_some : (Inside : List ℕ → Outcome → Type 0) → Comes Inside → (bytes : List ℕ) (all : List Attribute) (fault : Option DecodeError)
    → IsBytes bytes → Walk bytes all fault → (outcome : Outcome) × Along Inside all fault outcome
along_some Inside comes bytes [] None each walk = (Ok no_trees, refl)
along_some Inside comes bytes [] (Some e) each walk = (Err (Decode e), refl)
along_some Inside comes bytes (a ∷ more) fault each (rest, starts, walk) =
    joined Inside a more fault (read_some Inside comes a (value_bytes bytes a rest starts each))
    (along_some Inside comes rest more fault (starts_bytes bytes a rest starts each) walk)

pub trees_some : Walks → (n : ℕ) (bytes : List ℕ) → IsBytes bytes → (outcome : Outcome) × Trees n bytes outcome
unfolding Trees
trees_some walks zero [] each = (Ok no_trees, inl (refl, refl))
trees_some walks zero (b ∷ bytes) each = (Err TooDeep, inr (λ none. absurd (cc), refl))
trees_some walks (suc n) bytes each =
    let walk = walks bytes each in
    let along = along_some (Trees n) (trees_some walks n) bytes walk.0 walk.1 each walk.2 in
    (along.0, (walk.0, walk.1, walk.2, along.1))
