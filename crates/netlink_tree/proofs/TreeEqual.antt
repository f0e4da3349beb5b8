-- What `==` means for trees.
use Rattle.std.proofs.Common.{◌≡◌, ◌↔◌, ℕ, Vec, Global, Bool, IsTrue, false, refl, sym, subst, ◌∙◌, ◌&&◌, ◌==◌, List, [], ◌∷◌, map}
use Rattle.std.proofs.lemmas.Bool.{and_from, and_parts}
use Rattle.std.proofs.lemmas.Bool.Decides.{Decides-eqb}
use Rattle.std.proofs.lemmas.Cmp.{nat_list_eq_equiv}
use Rattle.std.specs.Cmp.Lexicographic.{pointwise, same_text}
use Rattle.netlink_tree.specs.Tree.{Tree, leaf, nest, Forest, view, views, view_step}
use Rattle.netlink_tree.specs.declared.tree.NlaTree.{NlaTree}
use Rattle.netlink_tree.specs.declared.tree.NlaTree.TheOpen.{NlaTree-F}
use Rattle.netlink_tree.specs.declared.tree.NlaTree.TheViews.{roll-NlaTree, out-NlaTree, roll-out-NlaTree, out-roll-NlaTree}
use Rattle.netlink_tree.specs.declared.tree.NlaTree.TheFolds.{ind-NlaTree, fold-roll-NlaTree, map-NlaTree}
use Rattle.netlink_tree.specs.contracts.tree.NlaTreePartialEq.TheImpl.{ghosts}
use Rattle.netlink_tree.specs.contracts.tree.NlaTreePartialEq.TheImpl.Laws.{unfolded, is}

-- the derived `==`
abbrev equal : NlaTree → NlaTree → Bool
equal a b = ghosts.eq a b

-- a tree of each shape
abbrev a_leaf : ℕ → Vec ℕ Global → NlaTree
a_leaf k v = roll-NlaTree (NlaTree-F.Leaf k v)

abbrev a_nest : ℕ → Vec NlaTree Global → NlaTree
a_nest k ts = roll-NlaTree (NlaTree-F.Nest k ts)

-- ---- what they represent, and whether they are equal

view-leaf : (k : ℕ) (v : Vec ℕ Global) → view (a_leaf k v) ≡ leaf k v.items
view-leaf k v = fold-roll-NlaTree Tree view_step (NlaTree-F.Leaf k v)

view-nest : (k : ℕ) (ts : Vec NlaTree Global) → view (a_nest k ts) ≡ nest k (views ts.items)
view-nest k ts = fold-roll-NlaTree Tree view_step (NlaTree-F.Nest k ts)

leaf_leaf : (k l : ℕ) (v w : Vec ℕ Global) → unfolded (a_leaf k v) (a_leaf l w) ≡ (k == l) && pointwise ◌==◌ v.items w.items
leaf_leaf k l v w = simp out-roll-NlaTree

nest_nest : (k l : ℕ) (ts us : Vec NlaTree Global) → unfolded (a_nest k ts) (a_nest l us) ≡ (k == l) && pointwise equal ts.items us.items
nest_nest k l ts us = simp out-roll-NlaTree

leaf_nest : (k l : ℕ) (v : Vec ℕ Global) (us : Vec NlaTree Global) → unfolded (a_leaf k v) (a_nest l us) ≡ false
leaf_nest k l v us = simp out-roll-NlaTree

nest_leaf : (k l : ℕ) (ts : Vec NlaTree Global) (w : Vec ℕ Global) → unfolded (a_nest k ts) (a_leaf l w) ≡ false
nest_leaf k l ts w = simp out-roll-NlaTree

-- ---- the parts

lists : (xs ys : List ℕ) → IsTrue (pointwise ◌==◌ xs ys) ↔ (xs ≡ ys)
lists xs ys = (λ h. same_text xs ys (sym h), λ e. rw e (nat_list_eq_equiv.refl ys))

leaves : (k l : ℕ) (v w : List ℕ) → ◌≡◌ {A = Tree} (leaf k v) (leaf l w) → (k ≡ l) × (v ≡ w)
leaves k l v w e = (cc, cc)

nests : (k l : ℕ) (ts us : Forest) → ◌≡◌ {A = Tree} (nest k ts) (nest l us) → (k ≡ l) × (ts ≡ us)
nests k l ts us e = (cc, cc)

-- ---- by induction

abbrev pub IsSame : NlaTree → Type 0
IsSame a = (b : NlaTree) → IsTrue (equal a b) ↔ (view a ≡ view b)

-- a tree for which that is known
abbrev Known : Type 0
Known = (t : NlaTree) × IsSame t

abbrev plain : List Known → List NlaTree
plain es = map (λ e. e.0) es

same_lists : (es : List Known) (bs : List NlaTree) → IsTrue (pointwise equal (plain es) bs) ↔ (views (plain es) ≡ views bs)
same_lists [] [] = (λ h. refl, λ h. refl)
same_lists [] (b ∷ bs) = (λ h. absurd (cc), λ h. absurd (cc))
same_lists (e ∷ es) [] = (λ h. absurd (cc), λ h. absurd (cc))
same_lists (e ∷ es) (b ∷ bs) =
    let later = same_lists es bs in
    let here = e.1 b in (
      λ h. let k = and_parts _ _ h in let i = here.0 k.0 in let j = later.0 k.1 in cc,
      λ h. let i : view e.0 ≡ view b = cc in let j : views (plain es) ≡ views bs = cc in and_from _ _ (here.1 i) (later.1 j),
    )

-- two trees compared at one level, where the trees inside the first are known
abbrev SameLevel : NlaTree → NlaTree → Type 0
SameLevel a b = IsTrue (unfolded a b) ↔ (view a ≡ view b)

same_leaves : (k l : ℕ) (v w : Vec ℕ Global) → SameLevel (a_leaf k v) (a_leaf l w)
same_leaves k l v w =
    let e = leaf_leaf k l v w in
    let a = view-leaf k v in
    let b = view-leaf l w in (
      λ h. let p = and_parts (k == l) (pointwise ◌==◌ v.items w.items) (sym e ∙ h) in let n = (Decides-eqb k l).0 p.0 in
          let i = (lists v.items w.items).0 p.1 in cc,
      λ h. let p = leaves k l v.items w.items (sym a ∙ h ∙ b) in e ∙ and_from _ _ ((Decides-eqb k l).1 p.0) ((lists v.items w.items).1 p.1),
    )

leaf_no_nest : (k l : ℕ) (v : Vec ℕ Global) (us : Vec NlaTree Global) → SameLevel (a_leaf k v) (a_nest l us)
leaf_no_nest k l v us =
    let e = leaf_nest k l v us in
    let a = view-leaf k v in
    let b = view-nest l us in
    (λ h. absurd (cc), λ h. absurd (cc))

nest_no_leaf : (k l : ℕ) (ts : Vec NlaTree Global) (w : Vec ℕ Global) → SameLevel (a_nest k ts) (a_leaf l w)
nest_no_leaf k l ts w =
    let e = nest_leaf k l ts w in
    let a = view-nest k ts in
    let b = view-leaf l w in
    (λ h. absurd (cc), λ h. absurd (cc))

same_nests : (k l : ℕ) (ts us : Vec NlaTree Global) (es : List Known) → plain es ≡ ts.items → SameLevel (a_nest k ts) (a_nest l us)
same_nests k l ts us es from =
    let e = nest_nest k l ts us in
    let a = view-nest k ts in
    let b = view-nest l us in
    let inside =
    subst (λ (xs : List NlaTree). IsTrue (pointwise equal xs us.items) ↔ (views xs ≡ views us.items)) from (same_lists es us.items) in (
      λ h. let p = and_parts (k == l) (pointwise equal ts.items us.items) (sym e ∙ h) in
          let n = (Decides-eqb k l).0 p.0 in let i = inside.0 p.1 in
          cc,
      λ h. let p = nests k l (views ts.items) (views us.items) (sym a ∙ h ∙ b) in e ∙ and_from _ _ ((Decides-eqb k l).1 p.0) (inside.1 p.1),
    )

abbrev plain_level : NlaTree-F Known → NlaTree-F NlaTree
plain_level y = map-NlaTree Known NlaTree (λ e. e.0) y

same_level : (y : NlaTree-F Known) (z : NlaTree-F NlaTree) → SameLevel (roll-NlaTree (plain_level y)) (roll-NlaTree z)
same_level (NlaTree-F.Leaf k v) (NlaTree-F.Leaf l w) = same_leaves k l v w
same_level (NlaTree-F.Leaf k v) (NlaTree-F.Nest l us) = leaf_no_nest k l v us
same_level (NlaTree-F.Nest k ts) (NlaTree-F.Leaf l w) = nest_no_leaf k l _ w
same_level (NlaTree-F.Nest k ts) (NlaTree-F.Nest l us) = same_nests k l _ us ts.items refl

pub same_tree : (a : NlaTree) → IsSame a
same_tree = ind-NlaTree IsSame (λ x y e b.
    let level = same_level y (out-NlaTree b) in
    let whole =
    subst (λ (z : NlaTree-F NlaTree). IsTrue (equal (roll-NlaTree z) (roll-NlaTree (out-NlaTree b)))
    ↔ (view (roll-NlaTree z) ≡ view (roll-NlaTree (out-NlaTree b)))) e (rw is level) in
    subst (λ (c : NlaTree). IsTrue (equal (roll-NlaTree x) c) ↔ (view (roll-NlaTree x) ≡ view c)) (roll-out-NlaTree b) whole)
