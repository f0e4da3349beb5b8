-- Bytes have at most one result.
use Rattle.std.proofs.Common.{◌≡◌, ℕ, zero, suc, List, [], ◌∷◌, sym, subst, ◌∙◌, inl, inr, Option, Some, None, Result, Ok, Err}
use Rattle.netlink_packet_core.specs.Attribute.{Attribute}
use Rattle.netlink_packet_core.specs.DecodeError.{DecodeError}
use Rattle.netlink_packet_core.specs.Walk.{Walk}
use Rattle.netlink_tree.specs.Tree.{Tree, leaf, nest, no_trees, grow}
use Rattle.netlink_tree.specs.Reading.{Outcome, IsRead, Along, Trees}
use Rattle.netlink_tree.specs.declared.fault.TreeFault.{TreeFault}

-- bytes have at most one walk
abbrev pub WalksOnce : Type 0
WalksOnce = (bytes : List ℕ) (a b : List Attribute) (f g : Option DecodeError) → Walk bytes a f → Walk bytes b g → (a ≡ b) × (f ≡ g)

-- what is inside has at most one result
abbrev pub ComesOnce : (List ℕ → Outcome → Type 0) → Type 0
ComesOnce Inside = (v : List ℕ) (r s : Outcome) → Inside v r → Inside v s → r ≡ s

read_once : (Inside : List ℕ → Outcome → Type 0) → ComesOnce Inside → (a : Attribute) (r s : Result Tree TreeFault) → IsRead Inside a r
    → IsRead Inside a s → r ≡ s
read_once Inside once a (Ok (leaf k v)) (Ok (leaf l w)) p q = let e = p.1 in let f = q.1 in cc
read_once Inside once a (Ok (leaf k v)) (Ok (nest l w)) p q = absurd (cc)
read_once Inside once a (Ok (leaf k v)) (Err f) p q = absurd (cc)
read_once Inside once a (Ok (nest k v)) (Ok (leaf l w)) p q = absurd (cc)
read_once Inside once a (Ok (nest k v)) (Ok (nest l w)) p q = let e = p.1 in let f = q.1 in let g = once a.value (Ok v) (Ok w) p.2 q.2 in cc
read_once Inside once a (Ok (nest k v)) (Err f) p q = absurd (let g = once a.value (Ok v) (Err f) p.2 q.1 in cc)
read_once Inside once a (Err e) (Ok (leaf l w)) p q = absurd (cc)
read_once Inside once a (Err e) (Ok (nest l w)) p q = absurd (let g = once a.value (Err e) (Ok w) p.1 q.2 in cc)
read_once Inside once a (Err e) (Err f) p q = let g = once a.value (Err e) (Err f) p.1 q.1 in cc

along_once : (Inside : List ℕ → Outcome → Type 0) → ComesOnce Inside → (all : List Attribute) (fault : Option DecodeError) (r s : Outcome)
    → Along Inside all fault r → Along Inside all fault s → r ≡ s
along_once Inside once [] None r s p q = p ∙ sym q
along_once Inside once [] (Some e) r s p q = p ∙ sym q
along_once Inside once (a ∷ more) fault (Ok no_trees) s p q = absurd p
along_once Inside once (a ∷ more) fault (Ok (grow t ts)) (Ok no_trees) p q = absurd q
along_once Inside once (a ∷ more) fault (Err e) (Ok no_trees) p q = absurd q
along_once Inside once (a ∷ more) fault (Ok (grow t ts)) (Ok (grow u us)) p q =
    let e = read_once Inside once a (Ok t) (Ok u) p.0 q.0 in
    let f = along_once Inside once more fault (Ok ts) (Ok us) p.1 q.1 in
    cc
along_once Inside once (a ∷ more) fault (Ok (grow t ts)) (Err e) p (inl q) =
    absurd (let f = read_once Inside once a (Ok t) (Err e) p.0 q in cc)
along_once Inside once (a ∷ more) fault (Ok (grow t ts)) (Err e) p (inr q) =
    absurd (let f = along_once Inside once more fault (Ok ts) (Err e) p.1 q.2 in cc)
along_once Inside once (a ∷ more) fault (Err e) (Ok (grow t ts)) (inl p) q =
    absurd (let f = read_once Inside once a (Err e) (Ok t) p q.0 in cc)
along_once Inside once (a ∷ more) fault (Err e) (Ok (grow t ts)) (inr p) q =
    absurd (let f = along_once Inside once more fault (Err e) (Ok ts) p.2 q.1 in cc)
along_once Inside once (a ∷ more) fault (Err e) (Err f) (inl p) (inl q) = let g = read_once Inside once a (Err e) (Err f) p q in cc
along_once Inside once (a ∷ more) fault (Err e) (Err f) (inl p) (inr q) =
    absurd (let g = read_once Inside once a (Err e) (Ok q.0) p q.1 in cc)
along_once Inside once (a ∷ more) fault (Err e) (Err f) (inr p) (inl q) =
    absurd (let g = read_once Inside once a (Ok p.0) (Err f) p.1 q in cc)
along_once Inside once (a ∷ more) fault (Err e) (Err f) (inr p) (inr q) = along_once Inside once more fault (Err e) (Err f) p.2 q.2

pub trees_once : WalksOnce → (n : ℕ) (bytes : List ℕ) (r s : Outcome) → Trees n bytes r → Trees n bytes s → r ≡ s
unfolding Trees
trees_once walks zero bytes r s (inl p) (inl q) = p.1 ∙ sym q.1
trees_once walks zero bytes r s (inl p) (inr q) = absurd (q.0 p.0)
trees_once walks zero bytes r s (inr p) (inl q) = absurd (p.0 q.0)
trees_once walks zero bytes r s (inr p) (inr q) = p.1 ∙ sym q.1
trees_once walks (suc n) bytes r s p q =
    let same = walks bytes p.0 q.0 p.1 q.1 p.2 q.2 in
    along_once (Trees n) (trees_once walks n) q.0 q.1 r s
    (subst (λ (f : Option DecodeError). Along (Trees n) q.0 f r) same.1
    (subst (λ (all : List Attribute). Along (Trees n) all p.1 r) same.0 p.3)) q.3
