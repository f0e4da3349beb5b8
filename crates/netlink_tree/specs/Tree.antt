-- Attributes nested in one another, and what an `NlaTree` represents.
use Rattle.std.specs.Prelude.{ℕ, ◌+◌, ◌<◌, ◌^◌, ◌≡◌, max, true, false, List, [], ◌∷◌, map, ⊤}
use Rattle.netlink_packet_core.specs.Views.{is_nested}
use Rattle.netlink_tree.specs.declared.tree.NlaTree.{NlaTree}
use Rattle.netlink_tree.specs.declared.tree.NlaTree.TheOpen.{NlaTree-F}
use Rattle.netlink_tree.specs.declared.tree.NlaTree.TheFolds.{fold-NlaTree}

-- an attribute with a value, or with attributes inside; and attributes one after another
mutual
  pub data Tree : Type 0 where
    leaf : ℕ → List ℕ → Tree
    nest : ℕ → Forest → Tree

  pub data Forest : Type 0 where
    no_trees : Forest
    grow : Tree → Forest → Forest

-- trees one after another
abbrev pub forest : List Tree → Forest
forest [] = no_trees
forest (t ∷ ts) = grow t (forest ts)

-- one level of what a value represents, given that of what is inside
abbrev pub view_step : NlaTree-F Tree → Tree
view_step (NlaTree-F.Leaf kind value) = leaf kind value.items
view_step (NlaTree-F.Nest kind children) = nest kind (forest children.items)

-- the tree that a value represents
abbrev pub view : NlaTree → Tree
view = fold-NlaTree Tree view_step

abbrev pub views : List NlaTree → Forest
views ts = forest (map view ts)

abbrev mutual
  -- the kinds of leaves lack the bit `NLA_F_NESTED`, and those of nests have it
  pub IsWellFormed : Tree → Type 0
  IsWellFormed (leaf kind value) = is_nested kind ≡ false
  IsWellFormed (nest kind children) = (is_nested kind ≡ true) × AreWellFormed children

  pub AreWellFormed : Forest → Type 0
  AreWellFormed no_trees = ⊤
  AreWellFormed (grow t ts) = IsWellFormed t × AreWellFormed ts

abbrev mutual
  -- kinds fit in 16 bits
  pub TreeInRange : Tree → Type 0
  TreeInRange (leaf kind value) = kind < 2 ^ 16
  TreeInRange (nest kind children) = (kind < 2 ^ 16) × TreesInRange children

  pub TreesInRange : Forest → Type 0
  TreesInRange no_trees = ⊤
  TreesInRange (grow t ts) = TreeInRange t × TreesInRange ts

abbrev mutual
  -- the number of levels of attributes, inside a tree and in trees
  pub levels_inside : Tree → ℕ
  levels_inside (leaf kind value) = 0
  levels_inside (nest kind children) = levels children

  pub levels : Forest → ℕ
  levels no_trees = 0
  levels (grow t ts) = max (levels_inside t + 1) (levels ts)
