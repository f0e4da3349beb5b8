-- What is written is read back, and what is read is written back.
use Rattle.std.proofs.Common.{◌≡◌, ◌↔◌, ℕ, zero, suc, ◌<◌, ◌≤◌, ◌^◌, false, nat_lt, List, [], ◌∷◌, length, refl, sym, ap, subst, ◌∙◌, inl, inr, Option, Some, None, Result, Ok, Err, Vec, Global, OnOk, IfOk, MatchResult, All, Contains, arith}
use Rattle.std.proofs.lemmas.List.Elements.{All-nil, All-cons, All-head, All-tail, All-weaker, All-contains_itself}
use Rattle.netlink_packet_core.specs.Attribute.{Attribute, FitsAttribute, value_max}
use Rattle.netlink_packet_core.specs.Block.{canonical_block}
use Rattle.netlink_packet_core.specs.DecodeError.{DecodeError}
use Rattle.netlink_packet_core.specs.DecodeError.TheVariants.{OutOfMemory}
use Rattle.netlink_packet_core.specs.Walk.{Walk}
use Rattle.netlink_tree.specs.Tree.{Tree, leaf, nest, Forest, no_trees, grow, IsWellFormed, AreWellFormed, levels, levels_inside, TreeInRange, TreesInRange}
use Rattle.netlink_tree.specs.Reading.{IsRead, Along, Trees}
use Rattle.netlink_tree.specs.Writing.{written, attributes_of, tree_bytes, is_long, is_too_long, are_too_long, writing, IsCanonicalDeep, deep}
use Rattle.netlink_tree.specs.declared.fault.TreeFault.{TreeFault}
use Rattle.netlink_tree.specs.declared.fault.TreeFault.TheVariants.{Decode}
use Rattle.netlink_tree.proofs.TreeOnce.{WalksOnce}
use Rattle.netlink_tree.proofs.TreeReading.{trees_formed}
use Rattle.netlink_tree.proofs.TreeWriting.{IsDeep, neither, forest_fits, block_bytes, block_fits, text_deep, writing_ok, writing_is}

-- walking the encoding of attributes yields them
abbrev pub WalksBack : Type 0
WalksBack = (all : List Attribute) → All FitsAttribute all → Walk (canonical_block all) all None

-- ---- what is written is read back

mutual
  unfolding Trees

  tree_back : WalksBack → (t : Tree) (n : ℕ) → levels_inside t ≤ n → IsWellFormed t → TreeInRange t → is_too_long t ≡ false
      → IsRead (Trees n) (written t) (Ok t)
  tree_back walks (leaf k v) n low formed range fit = (formed, refl, refl)
  tree_back walks (nest k no_trees) zero low formed range fit = (formed.0, refl, inl (refl, refl))
  tree_back walks (nest k (grow t ts)) zero low formed range fit = absurd (omega arith)
  tree_back walks (nest k ts) (suc n) low formed range fit =
      let inside = neither (are_too_long ts) (is_long (tree_bytes ts)) fit in (
        formed.0,
        refl,
        (
          attributes_of ts,
          None,
          walks (attributes_of ts) (forest_fits ts range.1 inside.0),
          along_back walks ts n low
              formed.1 range.1 inside.0,
        ),
      )

  along_back : WalksBack → (ts : Forest) (n : ℕ) → levels ts ≤ suc n → AreWellFormed ts → TreesInRange ts → are_too_long ts ≡ false
      → Along (Trees n) (attributes_of ts) None (Ok ts)
  along_back walks no_trees n low formed range fit = refl
  along_back walks (grow t ts) n low formed range fit =
      let each = neither (is_too_long t) (are_too_long ts) fit in
      (tree_back walks t n (omega arith) formed.0 range.0 each.0, along_back walks ts n (omega arith) formed.1 range.1 each.1)

trees_back : WalksBack → (ts : Forest) (n : ℕ) → levels ts ≤ suc n → AreWellFormed ts → TreesInRange ts → are_too_long ts ≡ false
    → Trees (suc n) (tree_bytes ts) (Ok ts)
unfolding Trees
trees_back walks ts n low formed range fit =
    (attributes_of ts, None, walks (attributes_of ts) (forest_fits ts range fit), along_back walks ts n low formed range fit)

pub read_back : WalksBack → (ts : Forest) (text : List ℕ) → AreWellFormed ts → TreesInRange ts → writing ts ≡ Ok text
    → Trees 16 text (Ok ts)
read_back walks ts text formed range e =
    let parts = writing_ok ts text e in
    subst (λ (b : List ℕ). Trees 16 b (Ok ts)) parts.2 (trees_back walks ts 15 parts.0 formed range parts.1)

-- ---- what is read is written back

walk_fits : (bytes : List ℕ) (all : List Attribute) (fault : Option DecodeError) → Walk bytes all fault → All FitsAttribute all
walk_fits bytes [] fault walk = All-nil FitsAttribute
walk_fits bytes (a ∷ more) fault (rest, starts, walk) = All-cons FitsAttribute a more starts.fits (walk_fits rest more fault walk)

attribute_is : (a : Attribute) (k : ℕ) (v : List ℕ) → k ≡ a.kind → v ≡ a.value → ◌≡◌ {A = Attribute} (record { kind = k; value = v }) a
attribute_is a k v e₁ e₂ = ap (λ (x : ℕ). record { kind = x; value = v }) e₁ ∙ ap (λ (x : List ℕ). record { kind = a.kind; value = x }) e₂

not_long : (v w : List ℕ) → v ≡ w → length w ≤ value_max → is_long v ≡ false
not_long v w e fits = rw e (grind arith)

-- bytes that are canonical at every depth read as trees that are written as them
abbrev IsWrittenAs : Forest → List ℕ → Type 0
IsWrittenAs ts bytes = (tree_bytes ts ≡ bytes) × (are_too_long ts ≡ false)

deep_along : (n : ℕ) → ((v : List ℕ) (ts : Forest) → IsCanonicalDeep v → Trees n v (Ok ts) → IsWrittenAs ts v)
    → (all : List Attribute) (ts : Forest) → All IsDeep all → All FitsAttribute all → Along (Trees n) all None (Ok ts)
    → (attributes_of ts ≡ all) × (are_too_long ts ≡ false)
deep_along n inside [] no_trees are fit along = (refl, refl)
deep_along n inside [] (grow t ts) are fit along = absurd (cc)
deep_along n inside (b ∷ more) no_trees are fit along = absurd along
deep_along n inside (b ∷ more) (grow (leaf k v) ts) are fit along =
    let later = deep_along n inside more ts (All-tail IsDeep b more are) (All-tail FitsAttribute b more fit) along.1 in
    let same = attribute_is b k v along.0.1 along.0.2 in
    let e = later.0 in
    (cc, rw (not_long v b.value along.0.2 (All-head FitsAttribute b more fit).value) later.1)
deep_along n inside (b ∷ more) (grow (nest k inner) ts) are fit along =
    let later = deep_along n inside more ts (All-tail IsDeep b more are) (All-tail FitsAttribute b more fit) along.1 in
    let within = inside b.value inner (All-head IsDeep b more are along.0.0) along.0.2 in
    let same = attribute_is b k (tree_bytes inner) along.0.1 within.0 in
    let e = later.0 in
    (cc, rw (not_long (tree_bytes inner) b.value within.0 (All-head FitsAttribute b more fit).value, within.1) later.1)

deep_trees : WalksOnce → WalksBack → (n : ℕ) (bytes : List ℕ) (ts : Forest) → IsCanonicalDeep bytes → Trees n bytes (Ok ts)
    → IsWrittenAs ts bytes
unfolding Trees
deep_trees once walks zero bytes no_trees d trees = elim trees [ inl p ↦ (sym p.0, refl) | inr p ↦ absurd (let e = p.1 in cc) ]
deep_trees once walks zero bytes (grow x ts) d trees = absurd (elim trees [ inl p ↦ (let e = p.1 in cc) | inr p ↦ (let e = p.1 in cc) ])
deep_trees once walks (suc n) _ ts (deep bytes all block inside) (found, fault, walk, along) =
    let are : All IsDeep all = All-weaker (Contains all) IsDeep inside all (All-contains_itself all) in
    let text : canonical_block all ≡ bytes = block_bytes bytes all block in
    let fits : All FitsAttribute all = block_fits bytes all block in
    let same = once bytes found all fault None walk (subst (λ (b : List ℕ). Walk b all None) text (walks all fits)) in
    let along_all =
    subst (λ (f : Option DecodeError). Along (Trees n) all f (Ok ts)) same.1
    (subst (λ (each : List Attribute). Along (Trees n) each fault (Ok ts)) same.0 along) in
    let parts = deep_along n (deep_trees once walks n) all ts are fits along_all in
    (ap canonical_block parts.0 ∙ text, parts.1)

along_levels : (n : ℕ) → ((v : List ℕ) (ts : Forest) → Trees n v (Ok ts) → levels ts ≤ n)
    → (all : List Attribute) (fault : Option DecodeError) (ts : Forest) → Along (Trees n) all fault (Ok ts) → levels ts ≤ suc n
along_levels n inside all fault no_trees along = omega arith
along_levels n inside [] None (grow t ts) along = absurd (cc)
along_levels n inside [] (Some e) (grow t ts) along = absurd (cc)
along_levels n inside (b ∷ more) fault (grow (leaf k v) ts) along = let later = along_levels n inside more fault ts along.1 in omega arith
along_levels n inside (b ∷ more) fault (grow (nest k inner) ts) along = let later = along_levels n inside more fault ts along.1 in
    let within = inside b.value inner along.0.2 in omega arith

trees_levels : (n : ℕ) (bytes : List ℕ) (ts : Forest) → Trees n bytes (Ok ts) → levels ts ≤ n
unfolding Trees
trees_levels zero bytes no_trees trees = omega arith
trees_levels zero bytes (grow x ts) trees = absurd (elim trees [ inl p ↦ (let e = p.1 in cc) | inr p ↦ (let e = p.1 in cc) ])
trees_levels (suc n) bytes ts trees = along_levels n (trees_levels n) trees.0 trees.1 ts trees.3

along_range : (n : ℕ) → ((v : List ℕ) (ts : Forest) → Trees n v (Ok ts) → TreesInRange ts)
    → (all : List Attribute) (fault : Option DecodeError) (ts : Forest) → All FitsAttribute all → Along (Trees n) all fault (Ok ts)
    → TreesInRange ts
along_range n inside all fault no_trees fit along = tt
along_range n inside [] None (grow t ts) fit along = absurd (cc)
along_range n inside [] (Some e) (grow t ts) fit along = absurd (cc)
along_range n inside (b ∷ more) fault (grow (leaf k v) ts) fit along = (
  subst (λ (x : ℕ). x < 2 ^ 16) (sym along.0.1) (All-head FitsAttribute b more fit).kind,
  along_range n inside more fault ts
      (All-tail FitsAttribute b more fit) along.1,
)
along_range n inside (b ∷ more) fault (grow (nest k inner) ts) fit along = (
  (subst (λ (x : ℕ). x < 2 ^ 16) (sym along.0.1) (All-head FitsAttribute b more fit).kind, inside b.value inner along.0.2),
  along_range n
      inside more fault ts (All-tail FitsAttribute b more fit) along.1,
)

trees_range : (n : ℕ) (bytes : List ℕ) (ts : Forest) → Trees n bytes (Ok ts) → TreesInRange ts
unfolding Trees
trees_range zero bytes no_trees trees = tt
trees_range zero bytes (grow x ts) trees = absurd (elim trees [ inl p ↦ (let e = p.1 in cc) | inr p ↦ (let e = p.1 in cc) ])
trees_range (suc n) bytes ts trees = along_range n (trees_range n) trees.0 trees.1 ts (walk_fits bytes trees.0 trees.1 trees.2) trees.3

pub write_back : WalksOnce → WalksBack → (bytes : List ℕ) (ts : Forest) → Trees 16 bytes (Ok ts)
    → (writing ts ≡ Ok bytes) ↔ IsCanonicalDeep bytes
write_back once walks bytes ts trees = (
  λ e. (let parts = writing_ok ts bytes e in
      subst IsCanonicalDeep parts.2 (text_deep ts (trees_formed 16 bytes ts trees) (trees_range 16 bytes ts trees) parts.1)),
  λ d. (let parts = deep_trees once walks 16 bytes ts d trees in writing_is ts (trees_levels 16 bytes ts trees) parts.1 ∙ ap Ok parts.0),
)

-- ---- what a call wrote

pub text_reads_back : WalksBack → (ts : Forest) (result : Result (Vec ℕ Global) TreeFault) → AreWellFormed ts
    → nat_lt 16 (levels ts) ≡ false → are_too_long ts ≡ false → OnOk result (TreesInRange ts)
    → MatchResult result (λ v. v.items ≡ tree_bytes ts) (λ e. e ≡ Decode OutOfMemory) → IfOk result (λ v. Trees 16 v.items (Ok ts))
text_reads_back walks ts (Ok v) formed low fit range text =
    let shallow : levels ts ≤ 16 = grind (arith, low) in
    subst (λ (b : List ℕ). Trees 16 b (Ok ts)) (sym text) (trees_back walks ts 15 shallow formed range fit)
text_reads_back walks ts (Err e) formed low fit range text = tt

pub text_is_deep : (ts : Forest) (result : Result (Vec ℕ Global) TreeFault) → AreWellFormed ts → are_too_long ts ≡ false
    → OnOk result (TreesInRange ts) → MatchResult result (λ v. v.items ≡ tree_bytes ts) (λ e. e ≡ Decode OutOfMemory)
    → IfOk result (λ v. IsCanonicalDeep v.items)
text_is_deep ts (Ok v) formed fit range text = subst IsCanonicalDeep (sym text) (text_deep ts formed range fit)
text_is_deep ts (Err e) formed fit range text = tt
