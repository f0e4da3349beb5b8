-- A key can only be on one side of a row of a sorted table.
use Rattle.std.specs.Prelude.{ℕ, ◌≡◌, ◌==◌, ◌<◌, ◌≤◌, Bool, true, false, ◌&&◌, ◌||◌, List, [], ◌∷◌, ◌++◌, nat_lt, Option, Some, None, refl, if◌then◌else◌}
use Rattle.std.proofs.Common.{arith, ap, sym, ◌∙◌, inl, inr}
use Rattle.std.proofs.lemmas.Bool.{and_parts, and_from, eqb-true, eq-eqb, ltb-true, lt-ltb, cases_lt, or_cases}
use Rattle.netlink_shapes.specs.Shapes.{Row, row_at, are_sorted, is_before, key_before, sorted_from}

-- a policy and a kind precede another pair
pub record IsLess (p k q l : ℕ) : Type 0 where
  pub low : p ≤ q
  pub tie : p ≡ q → k < l

or_left : (x y : Bool) → x ≡ true → (x || y) ≡ true
or_left true y is = refl
or_left false y is = absurd (cc)

or_right : (x y : Bool) → y ≡ true → (x || y) ≡ true
or_right true y is = refl
or_right false y is = is

pub key_less : (p k q l : ℕ) → key_before p k q l ≡ true → IsLess p k q l
key_less p k q l is =
    elim (or_cases (nat_lt p q) (p == q && nat_lt k l) is) [
      | inl less ↦ (let low = ltb-true p q less in
          record { low = omega arith; tie = λ same. absurd (omega arith) })
      | inr tie ↦ (let t = and_parts (p == q) (nat_lt k l) tie in
          let same = eqb-true p q t.0 in let less = ltb-true k l t.1 in
          record { low = omega arith; tie = λ e. omega arith })
    ]

pub before_less : (a b : Row) → is_before a b ≡ true → IsLess a.0 a.1 b.0 b.1
before_less a b is = key_less a.0 a.1 b.0 b.1 is

-- if it does not precede the other
tied : (p k q l : ℕ) → key_before p k q l ≡ false → p ≡ q → l ≤ k
tied p k q l not same = elim (cases_lt k l) [
  | inl less ↦ (let t = and_from (p == q) (nat_lt k l) (eq-eqb p q same) (lt-ltb k l less) in
      let u = or_right (nat_lt p q) (p == q && nat_lt k l) t in absurd (cc))
  | inr more ↦ more
]

low : (p k q l : ℕ) → key_before p k q l ≡ false → q ≤ p
low p k q l not = elim (cases_lt p q) [
  | inl less ↦ (let t = or_left (nat_lt p q) (p == q && nat_lt k l) (lt-ltb p q less) in absurd (cc))
  | inr more ↦ more
]

-- and is not equal to it, the other precedes it
pub is_after : (p k q l : ℕ) → (p == q && k == l) ≡ false → key_before p k q l ≡ false → IsLess q l p k
is_after p k q l other not = record {
  low = low p k q l not;
  tie = λ e. elim (cases_lt l k) [
    | inl less ↦ less
    | inr more ↦ (let same : p ≡ q = sym e in let t = tied p k q l not same in
        let one : k ≡ l = omega arith in
        let both = and_from (p == q) (k == l) (eq-eqb p q same) (eq-eqb k l one) in absurd (cc))
  ];
}

chain : (p k q l r m : ℕ) → IsLess p k q l → IsLess q l r m → IsLess p k r m
chain p k q l r m first second =
    let low : p ≤ q = first.low in
    let high : q ≤ r = second.low in
    record {
      low = omega arith;
      tie = λ e. (let x : p ≡ q = omega arith in let y : q ≡ r = omega arith in
          let a = first.tie x in let b = second.tie y in omega arith);
    }

pub if_not : {T : Type 0} (b : Bool) (x y : T) → (b ≡ true → ⊥) → (if b then x else y) ≡ y
if_not true x y not = absurd (not refl)
if_not false x y not = refl

-- a row with another key is skipped
pub other_row : (row : Row) (rest : List Row) (p k : ℕ) → (row.0 ≡ p → row.1 ≡ k → ⊥)
    → row_at (row ∷ rest) p k ≡ row_at rest p k
other_row row rest p k other =
    if_not (row.0 == p && row.1 == k) (Some row) (row_at rest p k)
    (λ is. (let parts = and_parts (row.0 == p) (row.1 == k) is in
    other (eqb-true row.0 p parts.0) (eqb-true row.1 k parts.1)))

pub this_row : (row : Row) (rest : List Row) (p k : ℕ) → row.0 ≡ p → row.1 ≡ k → row_at (row ∷ rest) p k ≡ Some row
this_row row rest p k policy kind =
    ap (λ (b : Bool). if b then Some row else row_at rest p k)
    (and_from (row.0 == p) (row.1 == k) (eq-eqb row.0 p policy) (eq-eqb row.1 k kind))

-- after a row there is no key that precedes it
misses : (row : Row) (more : List Row) (p k : ℕ) → sorted_from row more ≡ true
    → IsLess p k row.0 row.1 → row_at more p k ≡ None
misses row [] p k sorted less = refl
misses row (b ∷ more) p k sorted less =
    let parts = and_parts (is_before row b) (sorted_from b more) sorted in
    let next = chain p k row.0 row.1 b.0 b.1 less (before_less row b parts.0) in
    other_row b more p k (λ policy kind. (let t = next.tie (sym policy) in omega arith))
    ∙ misses b more p k parts.1 next

-- a row precedes all rows after it
pub before_later : (a : Row) (front : List Row) (r : Row) (back : List Row)
    → sorted_from a (front ++ (r ∷ back)) ≡ true → IsLess a.0 a.1 r.0 r.1
before_later a [] r back sorted =
    before_less a r (and_parts (is_before a r) (sorted_from r back) sorted).0
before_later a (b ∷ front) r back sorted =
    let parts = and_parts (is_before a b) (sorted_from b (front ++ (r ∷ back))) sorted in
    chain a.0 a.1 b.0 b.1 r.0 r.1 (before_less a b parts.0) (before_later b front r back parts.1)

pub tail_sorted : (a : Row) (more : List Row) → sorted_from a more ≡ true → are_sorted more ≡ true
tail_sorted a [] sorted = refl
tail_sorted a (b ∷ more) sorted = (and_parts (is_before a b) (sorted_from b more) sorted).1

-- ---- one side

-- a key that does not precede a row is not before it
skips : (front : List Row) (r : Row) (back : List Row) (p k : ℕ)
    → are_sorted (front ++ (r ∷ back)) ≡ true → r.0 ≤ p → (r.0 ≡ p → r.1 ≤ k)
    → row_at (front ++ (r ∷ back)) p k ≡ row_at (r ∷ back) p k
skips [] r back p k sorted low tie = refl
skips (a ∷ front) r back p k sorted low tie =
    let less = before_later a front r back sorted in
    let small : a.0 ≤ r.0 = less.low in
    other_row a (front ++ (r ∷ back)) p k
    (λ policy kind. (let same : a.0 ≡ r.0 = omega arith in let t = less.tie same in
    let here : r.0 ≡ p = omega arith in let u = tie here in omega arith))
    ∙ skips front r back p k (tail_sorted a (front ++ (r ∷ back)) sorted) low tie

pub after_row : (front : List Row) (r : Row) (back : List Row) (p k : ℕ)
    → are_sorted (front ++ (r ∷ back)) ≡ true → IsLess r.0 r.1 p k
    → row_at (front ++ (r ∷ back)) p k ≡ row_at back p k
after_row front r back p k sorted less =
    skips front r back p k sorted less.low (λ e. (let t = less.tie e in omega arith))
    ∙ other_row r back p k (λ policy kind. (let t = less.tie policy in omega arith))

pub at_row : (front : List Row) (r : Row) (back : List Row) (p k : ℕ)
    → are_sorted (front ++ (r ∷ back)) ≡ true → r.0 ≡ p → r.1 ≡ k → row_at (front ++ (r ∷ back)) p k ≡ Some r
at_row front r back p k sorted policy kind =
    skips front r back p k sorted (omega arith) (λ e. omega arith) ∙ this_row r back p k policy kind

pub before_row : (front : List Row) (r : Row) (back : List Row) (p k : ℕ)
    → are_sorted (front ++ (r ∷ back)) ≡ true → IsLess p k r.0 r.1
    → row_at (front ++ (r ∷ back)) p k ≡ row_at front p k
before_row [] r back p k sorted less =
    other_row r back p k (λ policy kind. (let t = less.tie (sym policy) in omega arith))
    ∙ misses r back p k sorted less
before_row (a ∷ front) r back p k sorted less =
    ap (λ (s : Option Row). if a.0 == p && a.1 == k then Some a else s)
    (before_row front r back p k (tail_sorted a (front ++ (r ∷ back)) sorted) less)

-- ---- the parts are sorted

pub back_sorted : (front : List Row) (r : Row) (back : List Row)
    → are_sorted (front ++ (r ∷ back)) ≡ true → are_sorted back ≡ true
back_sorted [] r back sorted = tail_sorted r back sorted
back_sorted (a ∷ front) r back sorted =
    back_sorted front r back (tail_sorted a (front ++ (r ∷ back)) sorted)

front_from : (a : Row) (front more : List Row) → sorted_from a (front ++ more) ≡ true → sorted_from a front ≡ true
front_from a [] more sorted = refl
front_from a (b ∷ front) more sorted =
    let parts = and_parts (is_before a b) (sorted_from b (front ++ more)) sorted in
    and_from (is_before a b) (sorted_from b front) parts.0 (front_from b front more parts.1)

pub front_sorted : (front more : List Row) → are_sorted (front ++ more) ≡ true → are_sorted front ≡ true
front_sorted [] more sorted = refl
front_sorted (a ∷ front) more sorted = front_from a front more sorted

-- the rows of one of two tables are sorted
pub both_sorted : (b : Bool) (x y : List Row) → are_sorted x ≡ true → are_sorted y ≡ true
    → are_sorted (if b then x else y) ≡ true
both_sorted true x y first second = first
both_sorted false x y first second = second
