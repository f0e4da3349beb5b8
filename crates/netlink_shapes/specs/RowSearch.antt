-- Binary search in sorted rows.
use Rattle.std.proofs.Common.{◌≡◌, ◌+◌, ◌-◌, ◌<◌, ◌≤◌, arith, length, slice_index_or, Bor, ◌==◌, ◌&&◌, ℕ, Bool, true, false, List, [], ◌∷◌, ◌++◌, take, drop, ap, sym, ◌∙◌, subst, refl, inl, inr, Option, Some, None}
use Rattle.std.specs.Prelude.{if◌then◌else◌}
use Rattle.std.proofs.lemmas.Bool.{and_parts, cases_lt, eqb-true}
use Rattle.std.proofs.lemmas.List.{drop_all, drop_more, map-append, take-append-drop, take_all}
use Rattle.netlink_shapes.specs.Shapes.{Row, stored_row, row_at, rows_in, are_sorted, key_before}
use Rattle.netlink_shapes.specs.SortedLaws.{IsLess, at_row, back_sorted, before_row, after_row, front_sorted, is_after, key_less}
use Rattle.netlink_shapes.specs.declared.shape.Shape.{Shape}
use Rattle.netlink_shapes.specs.declared.shape.Shape.TheVariants.{Flag}

-- a row as the code declares it
abbrev pub StoredRow : Type 0
StoredRow = ℕ × ℕ × Bor (List ℕ) × Shape

-- a placeholder for a missing row
abbrev pub blank : StoredRow
blank = (0, 0, record { ref_ptr = (0, 0); now = [] }, Flag)

-- all but the first
abbrev pub all_but_first : {X : Type 0} → List X → List X
all_but_first l = take (length l - 1) (drop 1 l)

pub first_and_rest : {X : Type 0} (l : List X) (d : X) → 1 ≤ length l → l ≡ slice_index_or l 0 d ∷ all_but_first l
first_and_rest [] d some = absurd (omega arith)
first_and_rest (x ∷ l) d some = ap (λ r. x ∷ r) (sym (take_all (length (x ∷ l) - 1) l (omega arith)))

-- the row is among those that are left, and they are sorted
pub record AreLeft (p k : ℕ) (rows rest : List StoredRow) : Type 0 where
  pub same : row_at (rows_in rows) p k ≡ row_at (rows_in rest) p k
  pub sorted : are_sorted (rows_in rest) ≡ true

-- the invariant: the row is at `low` or after it, if there is one, and the key precedes the row at `high`
pub record IsBetween (p k : ℕ) (rows : List StoredRow) (low high : ℕ) : Type 0 where
  pub order : low ≤ high
  pub inside : high ≤ length rows
  pub left : AreLeft p k rows (drop low rows)
  pub later : high < length rows → IsLess p k (slice_index_or rows high blank).0 (slice_index_or rows high blank).1

pub parts : (rest : List StoredRow) (m : ℕ) (front tail back : List StoredRow) (row : StoredRow)
    → front ≡ take m rest → tail ≡ drop m rest → tail ≡ row ∷ back
    → rows_in rest ≡ rows_in front ++ (stored_row row ∷ rows_in back)
parts rest m front tail back row head after is =
    ap rows_in (sym (take-append-drop m rest)) ∙ map-append stored_row (take m rest) (drop m rest)
    ∙ ap (λ x. rows_in x ++ rows_in (drop m rest)) (sym head) ∙ ap (λ x. rows_in front ++ rows_in x) (sym after ∙ is)

module _ (p k : ℕ) (rows rest : List StoredRow) (m : ℕ) (front tail back : List StoredRow)
    (row : StoredRow) (left : AreLeft p k rows rest) (head : front ≡ take m rest) (after : tail ≡ drop m rest)
    (is : tail ≡ row ∷ back) where
  whole : rows_in rest ≡ rows_in front ++ (stored_row row ∷ rows_in back)
  whole = parts rest m front tail back row head after is

  order : are_sorted (rows_in front ++ (stored_row row ∷ rows_in back)) ≡ true
  order = sym (ap are_sorted whole) ∙ left.sorted

  goes_back : key_before row.0 row.1 p k ≡ true → AreLeft p k rows back
  goes_back less = record {
    same =
        left.same ∙ ap (λ (x : List Row). row_at x p k) whole
        ∙ after_row (rows_in front) (stored_row row) (rows_in back) p k order (key_less row.0 row.1 p k less);
    sorted = back_sorted (rows_in front) (stored_row row) (rows_in back) order;
  }

  goes_front : IsLess p k row.0 row.1 → AreLeft p k rows front
  goes_front less = record {
    same =
        left.same ∙ ap (λ (x : List Row). row_at x p k) whole
        ∙ before_row (rows_in front) (stored_row row) (rows_in back) p k order less;
    sorted = front_sorted (rows_in front) (stored_row row ∷ rows_in back) order;
  }

  -- the search ends at the row
  found : (same : Bool) → same ≡ (row.0 == p && row.1 == k) → same ≡ true
      → ◌≡◌ {A = Option Row} (Some (stored_row row)) (row_at (rows_in rows) p k)
  found same which is =
      let keys = and_parts (row.0 == p) (row.1 == k) (sym which ∙ is) in
      sym (left.same ∙ ap (λ (x : List Row). row_at x p k) whole
      ∙ at_row (rows_in front) (stored_row row) (rows_in back) p k order (eqb-true row.0 p keys.0) (eqb-true row.1 k keys.1))

-- the row at an index
pub found_at : (p k : ℕ) (rows : List StoredRow) (at : ℕ) → are_sorted (rows_in rows) ≡ true → at < length rows
    → (same : Bool) → same ≡ ((slice_index_or rows at blank).0 == p && (slice_index_or rows at blank).1 == k) → same ≡ true
    → ◌≡◌ {A = Option Row} (Some (stored_row (slice_index_or rows at blank))) (row_at (rows_in rows) p k)
found_at p k rows at sorted inside =
    found p k rows rows at (take at rows) (drop at rows) (drop (at + 1) rows) (slice_index_or rows at blank)
    (record { same = refl; sorted = sorted }) refl refl (drop_more rows at blank inside)

-- a step of the search: the bounds after the row in the middle, or those up to it
module _ (p k : ℕ) (rows : List StoredRow) (low middle high : ℕ) (between : IsBetween p k rows low high)
    (sorted : are_sorted (rows_in rows) ≡ true) (from : low ≤ middle) (inside : middle < high) where
  abbrev row : StoredRow
  row = slice_index_or rows middle blank

  abbrev Bounds : ℕ × ℕ → Type 0
  Bounds next = IsBetween p k rows next.0 next.1

  by_side : (b : Bool) → (row.0 == p && row.1 == k) ≡ false → key_before row.0 row.1 p k ≡ b
      → Bounds (if b then (middle + 1, high) else (low, middle))
  by_side true other less = record {
    order = omega arith;
    inside = between.inside;
    left =
        goes_back p k rows rows middle (take middle rows) (drop middle rows) (drop (middle + 1) rows) row
        (record { same = refl; sorted = sorted }) refl refl
        (drop_more rows middle blank (omega (arith, between.inside, inside))) less;
    later = between.later;
  }
  by_side false other not = record {
    order = from;
    inside = omega (arith, between.inside, inside);
    left = between.left;
    later = λ _. is_after row.0 row.1 p k other not;
  }

  pub between_step : (same after : Bool) (next : ℕ × ℕ) → same ≡ (row.0 == p && row.1 == k) → same ≡ false
      → after ≡ key_before row.0 row.1 p k → next ≡ (if after then (middle + 1, high) else (low, middle))
      → IsBetween p k rows next.0 next.1
  between_step same after next which other side is =
      subst Bounds (sym is) (by_side after (sym which ∙ other) (sym side))

-- once no row is between the bounds, the key has no row
pub none_left : (p k : ℕ) (rows : List StoredRow) (low high : ℕ) → IsBetween p k rows low high → high ≤ low
    → None ≡ row_at (rows_in rows) p k
none_left p k rows low high between ends = elim (cases_lt low (length rows)) [
  | inl inside ↦ (let row = slice_index_or rows low blank in
      let place : high ≡ low = omega (arith, between.order, ends) in
      let less : IsLess p k row.0 row.1 =
      subst (λ (h : ℕ). h < length rows → IsLess p k (slice_index_or rows h blank).0 (slice_index_or rows h blank).1)
      place between.later inside in
      sym (goes_front p k rows (drop low rows) 0 [] (drop low rows) (drop (low + 1) rows) row between.left refl refl
      (drop_more rows low blank inside) less).same)
  | inr past ↦ sym (between.left.same ∙ ap (λ (r : List StoredRow). row_at (rows_in r) p k) (drop_all low rows past))
]

-- if the last row precedes the key, it has no row
pub none_after : (p k : ℕ) (rows : List StoredRow) (at : ℕ) → are_sorted (rows_in rows) ≡ true → at + 1 ≡ length rows
    → key_before (slice_index_or rows at blank).0 (slice_index_or rows at blank).1 p k ≡ true
    → row_at (rows_in rows) p k ≡ None
none_after p k rows at sorted last before =
    let row = slice_index_or rows at blank in
    let left = goes_back p k rows rows at (take at rows) (drop at rows) (drop (at + 1) rows) row
    (record { same = refl; sorted = sorted }) refl refl (drop_more rows at blank (omega arith)) before in
    left.same ∙ ap (λ (r : List StoredRow). row_at (rows_in r) p k) (drop_all (at + 1) rows (omega arith))
