-- Laws about contents after a write, for callers to cite.
use Rattle.std.specs.Prelude.{◌≡◌, ◌≤◌, ℕ, List, [], ◌++◌, length, take, drop}
use Rattle.std.specs.Vec.{with_items}
use Rattle.std.specs.declared.vec.Vec.{Vec}
use Rattle.std.proofs.Common.{ap, sym, ◌∙◌, arith}
use Rattle.std.proofs.Math.ListN.{drop_of_length-le}
use mathlib.Core.HLevel.{is_prop→PathP}
use native.Mathlib.Bridge.{le_prop}
use native.Mathlib.Nat.{ℕ_set}

-- the vector's length is that of the list, and within its capacity
abbrev Fits : {Z : Type 0} → Vec ℕ Z → List ℕ → Type 0
Fits v items = (v.len ≡ length items) × (v.len ≤ v.cap)

abbrev holding : {Z : Type 0} (v : Vec ℕ Z) (items : List ℕ) → Fits v items → Vec ℕ Z
holding v items ok =
    record {
      ptr = v.ptr;
      len = v.len;
      cap = v.cap;
      alloc = v.alloc;
      items = items;
      ok = ok;
      small = v.small;
    }

-- vectors that differ only in their items are equal if the items are
holding_equal : {Z : Type 0} (v : Vec ℕ Z) (xs ys : List ℕ) (e : xs ≡ ys) (p : Fits v xs)
    (q : Fits v ys) → holding v xs p ≡ holding v ys q
holding_equal v xs ys e p q =
    let ok =
    is_prop→PathP (λ i. Fits v (e i)) (λ i p q j. (ℕ_set _ _ p.0 q.0 j, le_prop p.1 q.1 j)) p q
    in
    λ i. holding v (e i) (ok i)

-- of two writes that keep the number of items, the later one remains
pub with_items-with_items : {Z : Type 0} (v : Vec ℕ Z) (first later : List ℕ)
    → length first ≡ length v.items → length later ≡ length v.items
    → with_items (with_items v first) later ≡ with_items v later
with_items-with_items v first later size size_later =
    let between = with_items v first in
    let none : drop (length later) v.items ≡ [] = drop_of_length-le v.items (omega arith) in
    let none_between : drop (length later) between.items ≡ [] =
    drop_of_length-le between.items (let same = between.ok.0 in let own = v.ok.0 in omega arith)
    in
    let items = ap (λ rest. take v.len (later ++ rest)) (none_between ∙ sym none) in
    holding_equal v _ _ items (with_items between later).ok (with_items v later).ok
