-- What trees represent, one by one.
use Rattle.std.proofs.Common.{◌≡◌, List, [], ◌∷◌, ◌++◌, refl, ap}
use Rattle.netlink_tree.specs.Tree.{Tree, Forest, no_trees, grow, view, views}
use Rattle.netlink_tree.specs.declared.tree.NlaTree.{NlaTree}

-- trees with one more at the end
abbrev pub grown : Forest → Tree → Forest
grown no_trees t = grow t no_trees
grown (grow first ts) t = grow first (grown ts t)

pub views_push : (ts : List NlaTree) (t : NlaTree) → views (ts ++ (t ∷ [])) ≡ grown (views ts) (view t)
views_push [] t = refl
views_push (first ∷ ts) t = ap (grow (view first)) (views_push ts t)
