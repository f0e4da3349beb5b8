-- The result of reading, from its parts.
use Rattle.std.proofs.Common.{◌≡◌, ◌≢◌, ◌⊎◌, ℕ, zero, suc, ◌+◌, ◌-◌, ◌*◌, ◌/◌, ◌%◌, ◌<◌, ◌≤◌, List, [], ◌∷◌, ◌++◌, length, drop, refl, sym, ap, subst, ◌∙◌, inl, inr, arith, Option, Some, None, Ok, Err, append-nil}
use Rattle.netlink_packet_core.specs.Attribute.{Attribute}
use Rattle.netlink_packet_core.specs.DecodeError.{DecodeError}
use Rattle.netlink_packet_core.specs.DecodeError.TheVariants.{OutOfMemory}
use Rattle.netlink_packet_core.specs.Numbers.{IsBytes}
use Rattle.netlink_packet_core.specs.Progress.{Passes, passes_bytes, passes_push, passes_walks}
use Rattle.netlink_packet_core.specs.StartLaws.{starts_held}
use Rattle.netlink_packet_core.specs.Views.{attribute_of, is_nested, length_field, HoldsAttribute}
use Rattle.netlink_packet_core.specs.Walk.{Starts, Walk, IsFault}
use Rattle.netlink_tree.specs.Tree.{Tree, leaf, nest, Forest, no_trees, grow, AreWellFormed, view, views}
use Rattle.netlink_tree.specs.Reading.{Outcome, IsRead, Along, Trees}
use Rattle.netlink_tree.specs.declared.fault.TreeFault.{TreeFault}
use Rattle.netlink_tree.specs.declared.fault.TreeFault.TheVariants.{TooDeep, Decode}
use Rattle.netlink_tree.specs.declared.tree.NlaTree.{NlaTree}
use Rattle.netlink_tree.proofs.TreeViews.{grown, views_push}

-- ---- the result for attributes

-- these attributes are read as these trees
abbrev pub AreRead : (List ℕ → Outcome → Type 0) → List Attribute → Forest → Type 0
AreRead Inside [] ts = ts ≡ no_trees
AreRead Inside (a ∷ done) no_trees = ⊥
AreRead Inside (a ∷ done) (grow t ts) = IsRead Inside a (Ok t) × AreRead Inside done ts

pub read_push : (Inside : List ℕ → Outcome → Type 0) (done : List Attribute) (ts : Forest) (a : Attribute) (t : Tree)
    → AreRead Inside done ts → IsRead Inside a (Ok t) → AreRead Inside (done ++ (a ∷ [])) (grown ts t)
read_push Inside [] no_trees a t so_far last = (last, refl)
read_push Inside [] (grow first ts) a t so_far last = absurd (cc)
read_push Inside (d ∷ done) no_trees a t so_far last = absurd so_far
read_push Inside (d ∷ done) (grow first ts) a t so_far last = (so_far.0, read_push Inside done ts a t so_far.1 last)

along_done : (Inside : List ℕ → Outcome → Type 0) (done : List Attribute) (ts : Forest) → AreRead Inside done ts
    → Along Inside done None (Ok ts)
along_done Inside [] ts r = ap Ok r
along_done Inside (a ∷ done) no_trees r = absurd r
along_done Inside (a ∷ done) (grow t ts) r = (r.0, along_done Inside done ts r.1)

-- an error after attributes that were read
along_fault : (Inside : List ℕ → Outcome → Type 0) (done more : List Attribute) (ts : Forest) (fault : Option DecodeError) (e : TreeFault)
    → AreRead Inside done ts → Along Inside more fault (Err e) → Along Inside (done ++ more) fault (Err e)
along_fault Inside [] more ts fault e r along = along
along_fault Inside (a ∷ done) more no_trees fault e r along = absurd r
along_fault Inside (a ∷ done) more (grow t ts) fault e r along = inr (t, r.0, along_fault Inside done more ts fault e r.1 along)

-- ---- the result for a block

-- for no bytes, at any level
pub trees_none : (n : ℕ) (bytes : List ℕ) (ts : List NlaTree) → length bytes ≡ 0 → ts ≡ [] → Trees n bytes (Ok (views ts))
unfolding Trees
trees_none zero [] ts none bare = inl (refl, ap (λ (x : List NlaTree). Ok (views x)) bare)
trees_none (suc n) [] ts none bare = ([], None, refl, ap (λ (x : List NlaTree). Ok (views x)) bare)
trees_none n (b ∷ bytes) ts none bare = absurd (omega arith)

-- for some bytes, where no attribute is allowed
pub trees_deep : (n : ℕ) (bytes : List ℕ) → n ≡ 0 → length bytes ≢ 0 → Trees n bytes (Err TooDeep)
unfolding Trees
trees_deep zero bytes least some = inr (λ none. some (ap length none), refl)
trees_deep (suc n) bytes least some = absurd (omega arith)

-- from a walk, and the result for its attributes
trees_of : (n : ℕ) (bytes : List ℕ) (all : List Attribute) (fault : Option DecodeError) (outcome : Outcome) → n ≢ 0 → Walk bytes all fault
    → Along (Trees (n - 1)) all fault outcome → Trees n bytes outcome
unfolding Trees
trees_of zero bytes all fault outcome some walk along = absurd (some refl)
trees_of (suc n) bytes all fault outcome some walk along =
    let one : suc n - 1 ≡ n = omega arith in
    (all, fault, walk, subst (λ (k : ℕ). Along (Trees k) all fault outcome) one along)

-- at the end of the walk
pub trees_end : (n : ℕ) (bytes : List ℕ) (done : List Attribute) (rest : List ℕ) (ts : Forest) → n ≢ 0 → Passes bytes done rest → rest ≡ []
    → AreRead (Trees (n - 1)) done ts → Trees n bytes (Ok ts)
trees_end n bytes done rest ts some passes none are =
    trees_of n bytes _ None (Ok ts) some (passes_walks bytes done rest [] None passes none)
    (subst (λ (all : List Attribute). Along (Trees (n - 1)) all None (Ok ts)) (sym (append-nil done))
    (along_done (Trees (n - 1)) done ts are))

-- what a proof about these cases needs
pub ruleset block_ends = (trees_none, trees_deep)

-- bytes that hold an attribute start with it
pub starts_some : (bytes : List ℕ) → IsBytes bytes → HoldsAttribute bytes → (rest : List ℕ) × Starts bytes (attribute_of bytes) rest
starts_some bytes each holds =
    let end : ℕ = (length_field bytes + 3) / 4 * 4 in
    (drop end bytes, starts_held bytes end each holds (omega arith) (omega arith) (omega arith))

-- after one more attribute, which ends at this place with its padding; `seen` is what its view shows
pub block_step : (n : ℕ) (bytes : List ℕ) (done : List Attribute) (rest seen : List ℕ) (old new : List NlaTree) (size end : ℕ)
    → IsBytes bytes → Passes bytes done rest → AreRead (Trees n) done (views old) → HoldsAttribute rest → seen ≡ rest
    → size ≡ length_field seen → (size ≤ end) × (end < size + 4) → end % 4 ≡ 0
    → (t : NlaTree) × (new ≡ old ++ (t ∷ [])) × IsRead (Trees n) (attribute_of seen) (Ok (view t))
    → Passes bytes (done ++ (attribute_of rest ∷ [])) (drop end rest) × AreRead (Trees n) (done ++ (attribute_of rest ∷ [])) (views new)
block_step n bytes done rest seen old new size end each passes are holds same is least multiple (t, more, read) =
    let all : List Attribute = done ++ (attribute_of rest ∷ []) in
    let field : size ≡ length_field rest = is ∙ ap length_field same in
    let starts =
    starts_held rest end (passes_bytes bytes done rest passes each) holds (omega (arith, least)) (omega (arith, least)) multiple in
    let this : IsRead (Trees n) (attribute_of rest) (Ok (view t)) =
    subst (λ (b : List ℕ). IsRead (Trees n) (attribute_of b) (Ok (view t))) same read in
    let grows : views new ≡ grown (views old) (view t) = ap views more ∙ views_push old t in (
      passes_push bytes done rest (attribute_of rest) (drop end rest) passes starts,
      subst (λ (ts : Forest). AreRead (Trees n) all ts) (sym grows)
          (read_push (Trees n) done (views old) (attribute_of rest) (view t) are this),
    )

-- at the error of the walk
pub trees_fault : (n : ℕ) (bytes : List ℕ) (done : List Attribute) (rest : List ℕ) (ts : Forest) (e : DecodeError) → n ≢ 0
    → Passes bytes done rest → rest ≢ [] → IsFault rest e → AreRead (Trees (n - 1)) done ts → Trees n bytes (Err (Decode e))
trees_fault n bytes done rest ts e some passes left is are =
    trees_of n bytes _ (Some e) (Err (Decode e)) some (passes_walks bytes done rest [] (Some e) passes (left, is))
    (along_fault (Trees (n - 1)) done [] ts (Some e) (Decode e) are refl)

-- at an error inside an attribute, or `OutOfMemory`; what follows the attribute has some walk
pub trees_inside : (n : ℕ) (bytes : List ℕ) (done : List Attribute) (middle : List ℕ) (a : Attribute) (rest : List ℕ) (ts : Forest)
    (e : TreeFault) → n ≢ 0 → Passes bytes done middle → Starts middle a rest
    → (later : (all : List Attribute) × (fault : Option DecodeError) × Walk rest all fault)
    → (e ≡ Decode OutOfMemory) ⊎ IsRead (Trees (n - 1)) a (Err e) → AreRead (Trees (n - 1)) done ts
    → (e ≡ Decode OutOfMemory) ⊎ Trees n bytes (Err e)
trees_inside n bytes done middle a rest ts e some passes starts later (inl memory) are = inl memory
trees_inside n bytes done middle a rest ts e some passes starts later (inr inside) are = inr
    (trees_of n bytes _ later.1 (Err e) some (passes_walks bytes done middle (a ∷ later.0) later.1 passes (rest, starts, later.2))
    (along_fault (Trees (n - 1)) done (a ∷ later.0) ts later.1 e are (inl inside)))

-- ---- what is read is well formed

formed_along : (Inside : List ℕ → Outcome → Type 0) → ((v : List ℕ) (ts : Forest) → Inside v (Ok ts) → AreWellFormed ts)
    → (all : List Attribute) (fault : Option DecodeError) (ts : Forest) → Along Inside all fault (Ok ts) → AreWellFormed ts
formed_along Inside formed all fault no_trees along = tt
formed_along Inside formed [] None (grow t ts) along = absurd (cc)
formed_along Inside formed [] (Some e) (grow t ts) along = absurd (cc)
formed_along Inside formed (b ∷ all) fault (grow (leaf kind value) ts) along =
    (ap is_nested along.0.1 ∙ along.0.0, formed_along Inside formed all fault ts along.1)
formed_along Inside formed (b ∷ all) fault (grow (nest kind children) ts) along =
    ((ap is_nested along.0.1 ∙ along.0.0, formed b.value children along.0.2), formed_along Inside formed all fault ts along.1)

pub trees_formed : (n : ℕ) (bytes : List ℕ) (ts : Forest) → Trees n bytes (Ok ts) → AreWellFormed ts
unfolding Trees
trees_formed zero bytes no_trees trees = tt
trees_formed zero bytes (grow t ts) trees = absurd (elim trees [ inl p ↦ (let e = p.1 in cc) | inr p ↦ (let e = p.1 in cc) ])
trees_formed (suc n) bytes ts trees = formed_along (Trees n) (trees_formed n) trees.0 trees.1 ts trees.3
