-- What is looked up in a policy is found among its rows.
use Rattle.std.proofs.Common.{ℕ, ◌≡◌, ◌==◌, ◌+◌, ◌<◌, ◌≤◌, Bool, true, false, ◌&&◌, List, [], ◌∷◌, ◌++◌, length, slice_index_or, take, drop, Option, Some, refl, arith, ap, sym, ◌∙◌}
use Rattle.std.specs.Prelude.{◌||◌, bytes_eq, if◌then◌else◌}
use Rattle.std.proofs.lemmas.Bool.{and_parts, eqb-true}
use Rattle.std.proofs.lemmas.List.{drop_more}
use Rattle.netlink_attributes.specs.Views.{masked}
use Rattle.netlink_shapes.specs.Policies.{IsPart, of_policy}
use Rattle.netlink_shapes.specs.Pushing.{chooses, is_chosen_by}
use Rattle.netlink_shapes.specs.Shapes.{Row, any_kind, are_sorted, choice_at, is_before, or_first, row_at, rows_in, shape_by, shape_in, sorted_from, stored_row}
use Rattle.netlink_shapes.specs.SortedLaws.{back_sorted, before_later, before_less, front_sorted, if_not, tail_sorted}
use Rattle.netlink_shapes.specs.declared.shape.Shape.{Shape}
use Rattle.netlink_shapes.specs.declared.shape.Shape.TheVariants.{Bytes}
use Rattle.netlink_shapes.specs.RowSearch.{StoredRow, all_but_first, blank, first_and_rest, parts}

-- ---- a lookup in a policy reads only its rows

row_step : (p k : ℕ) (row : Row) (part rows : List Row) (b : Bool) → (row.0 == p) ≡ b
    → row_at part p k ≡ row_at rows p k
    → row_at (if b then row ∷ part else part) p k ≡ row_at (row ∷ rows) p k
row_step p k row part rows true is same = ap (λ (o : Option Row). if row.0 == p && row.1 == k then Some row else o) same
row_step p k row part rows false is same =
    same ∙ sym (ap (λ (b : Bool). if b && row.1 == k then Some row else row_at rows p k) is)

row_of : (p k : ℕ) (rows : List Row) → row_at (of_policy p rows) p k ≡ row_at rows p k
row_of p k [] = refl
row_of p k (row ∷ rows) = row_step p k row (of_policy p rows) rows (row.0 == p) refl (row_of p k rows)

part_row : (p k : ℕ) (rows part : List Row) → IsPart p rows part → row_at part p k ≡ row_at rows p k
part_row p k rows part is =
    sym (row_of p k part) ∙ ap (λ (r : List Row). row_at r p k) is.same ∙ row_of p k rows

pub part_shape : (p kind : ℕ) (rows part : List Row) → IsPart p rows part → shape_in part p kind ≡ shape_in rows p kind
part_shape p kind rows part is =
    ap (λ (o : Option Row). shape_by (or_first o (row_at part p any_kind))) (part_row p (masked kind) rows part is)
    ∙ ap (λ (o : Option Row). shape_by (or_first (row_at rows p (masked kind)) o)) (part_row p any_kind rows part is)

-- ---- parts of sorted rows

skip : (p : ℕ) (row : Row) (rows : List Row) → (row.0 ≡ p → ⊥) → of_policy p (row ∷ rows) ≡ of_policy p rows
skip p row rows other =
    if_not (row.0 == p) (row ∷ of_policy p rows) (of_policy p rows) (λ is. other (eqb-true row.0 p is))

-- no row before one of a smaller policy
after_smaller : (p : ℕ) (front : List Row) (row : Row) (back : List Row)
    → are_sorted (front ++ (row ∷ back)) ≡ true → row.0 < p → of_policy p (front ++ (row ∷ back)) ≡ of_policy p back
after_smaller p [] row back sorted less = skip p row back (λ e. omega arith)
after_smaller p (a ∷ front) row back sorted less =
    let low : a.0 ≤ row.0 = (before_later a front row back sorted).low in
    skip p a (front ++ (row ∷ back)) (λ e. omega arith)
    ∙ after_smaller p front row back (tail_sorted a (front ++ (row ∷ back)) sorted) less

-- no row from one of a greater policy on
none_from : (p : ℕ) (row : Row) (back : List Row) → sorted_from row back ≡ true → p < row.0
    → of_policy p (row ∷ back) ≡ []
none_from p row [] sorted more = skip p row [] (λ e. omega arith)
none_from p row (b ∷ back) sorted more =
    let parts = and_parts (is_before row b) (sorted_from b back) sorted in
    let low : row.0 ≤ b.0 = (before_less row b parts.0).low in
    skip p row (b ∷ back) (λ e. omega arith) ∙ none_from p b back parts.1 (omega arith)

before_greater : (p : ℕ) (front : List Row) (row : Row) (back : List Row)
    → are_sorted (front ++ (row ∷ back)) ≡ true → p < row.0 → of_policy p (front ++ (row ∷ back)) ≡ of_policy p front
before_greater p [] row back sorted more = none_from p row back sorted more
before_greater p (a ∷ front) row back sorted more =
    ap (λ (rest : List Row). if a.0 == p then a ∷ rest else rest)
    (before_greater p front row back (tail_sorted a (front ++ (row ∷ back)) sorted) more)

-- the rows after a row of a smaller policy are a part, and so are those before one of a greater policy
split : (rows : List StoredRow) (at : ℕ) → at < length rows
    → rows_in rows ≡ rows_in (take at rows) ++ (stored_row (slice_index_or rows at blank) ∷ rows_in (drop (at + 1) rows))
split rows at inside =
    parts rows at (take at rows) (drop at rows) (drop (at + 1) rows) (slice_index_or rows at blank) refl refl
    (drop_more rows at blank inside)

pub drop_smaller : (p : ℕ) (rows : List StoredRow) (at : ℕ) → are_sorted (rows_in rows) ≡ true → at < length rows
    → (slice_index_or rows at blank).0 < p → IsPart p (rows_in rows) (rows_in (drop (at + 1) rows))
drop_smaller p rows at sorted inside less =
    let whole = split rows at inside in
    let order = sym (ap are_sorted whole) ∙ sorted in
    let front = rows_in (take at rows) in
    let row = stored_row (slice_index_or rows at blank) in
    let back = rows_in (drop (at + 1) rows) in
    record {
      same = sym (ap (of_policy p) whole ∙ after_smaller p front row back order less);
      sorted = back_sorted front row back order;
    }

pub take_smaller : (p : ℕ) (rows : List StoredRow) (at : ℕ) → are_sorted (rows_in rows) ≡ true → at < length rows
    → p < (slice_index_or rows at blank).0 → IsPart p (rows_in rows) (rows_in (take at rows))
take_smaller p rows at sorted inside more =
    let whole = split rows at inside in
    let order = sym (ap are_sorted whole) ∙ sorted in
    let front = rows_in (take at rows) in
    let row = stored_row (slice_index_or rows at blank) in
    let back = rows_in (drop (at + 1) rows) in
    record {
      same = sym (ap (of_policy p) whole ∙ before_greater p front row back order more);
      sorted = front_sorted front (row ∷ back) order;
    }

-- ---- a choice among the rows of a policy

choice_step : (p : ℕ) (name : List ℕ) (row : Row) (part rows : List Row) (b : Bool) → (row.0 == p) ≡ b
    → choice_at part p name ≡ choice_at rows p name
    → choice_at (if b then row ∷ part else part) p name ≡ choice_at (row ∷ rows) p name
choice_step p name row part rows true is same =
    ap (λ (s : Shape). if row.0 == p && bytes_eq row.2 name then row.3 else s) same
choice_step p name row part rows false is same =
    same ∙ sym (ap (λ (b : Bool). if b && bytes_eq row.2 name then row.3 else choice_at rows p name) is)

choice_of : (p : ℕ) (name : List ℕ) (rows : List Row) → choice_at (of_policy p rows) p name ≡ choice_at rows p name
choice_of p name [] = refl
choice_of p name (row ∷ rows) =
    choice_step p name row (of_policy p rows) rows (row.0 == p) refl (choice_of p name rows)

-- the invariant: the choice is among the rows that are left, and they are sorted
pub record AreUnread (p : ℕ) (name : List ℕ) (rows rest : List StoredRow) : Type 0 where
  pub same : choice_at (rows_in rows) p name ≡ choice_at (rows_in rest) p name
  pub sorted : are_sorted (rows_in rest) ≡ true

pub begins : (p : ℕ) (name : List ℕ) (rows part : List StoredRow) → IsPart p (rows_in rows) (rows_in part)
    → AreUnread p name rows part
begins p name rows part is = record {
  same =
      sym (choice_of p name (rows_in rows)) ∙ ap (λ (r : List Row). choice_at r p name) (sym is.same)
      ∙ choice_of p name (rows_in part);
  sorted = is.sorted;
}

-- a greater policy ends the rows of the policy
pub ends : (p : ℕ) (name : List ℕ) (rows rest : List StoredRow) → AreUnread p name rows rest → 1 ≤ length rest
    → p < (slice_index_or rest 0 blank).0 → Bytes ≡ choice_at (rows_in rows) p name
ends p name rows rest left some greater =
    let row = stored_row (slice_index_or rest 0 blank) in
    let more = rows_in (all_but_first rest) in
    let is = ap rows_in (first_and_rest rest blank some) in
    sym (left.same ∙ ap (λ (r : List Row). choice_at r p name) is ∙ sym (choice_of p name (row ∷ more))
    ∙ ap (λ (r : List Row). choice_at r p name) (none_from p row more (sym (ap are_sorted is) ∙ left.sorted) greater))

-- ---- kinds that choose

chooses_step : (kind : ℕ) (row : Row) (part rows : List Row) (b : Bool) → (row.0 == 0) ≡ b
    → chooses part kind ≡ chooses rows kind
    → chooses (if b then row ∷ part else part) kind ≡ chooses (row ∷ rows) kind
chooses_step kind row part rows true is same = ap (λ (c : Bool). row.0 == 0 && is_chosen_by kind row.3 || c) same
chooses_step kind row part rows false is same =
    same ∙ sym (ap (λ (b : Bool). b && is_chosen_by kind row.3 || chooses rows kind) is)

chooses_of : (kind : ℕ) (rows : List Row) → chooses (of_policy 0 rows) kind ≡ chooses rows kind
chooses_of kind [] = refl
chooses_of kind (row ∷ rows) = chooses_step kind row (of_policy 0 rows) rows (row.0 == 0) refl (chooses_of kind rows)

-- the invariant: the rows that are left decide, and they are sorted
pub record AreAsked (kind : ℕ) (rows rest : List StoredRow) : Type 0 where
  pub same : chooses (rows_in rows) kind ≡ chooses (rows_in rest) kind
  pub sorted : are_sorted (rows_in rest) ≡ true

-- another policy ends the rows of policy 0
pub none_chooses : (kind : ℕ) (rows rest : List StoredRow) → AreAsked kind rows rest → 1 ≤ length rest
    → 0 < (slice_index_or rest 0 blank).0 → false ≡ chooses (rows_in rows) kind
none_chooses kind rows rest left some other =
    let row = stored_row (slice_index_or rest 0 blank) in
    let more = rows_in (all_but_first rest) in
    let is = ap rows_in (first_and_rest rest blank some) in
    sym (left.same ∙ ap (λ (r : List Row). chooses r kind) is ∙ sym (chooses_of kind (row ∷ more))
    ∙ ap (λ (r : List Row). chooses r kind) (none_from 0 row more (sym (ap are_sorted is) ∙ left.sorted) other))
