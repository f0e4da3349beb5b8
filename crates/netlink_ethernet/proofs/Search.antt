-- The search for a number, and how many comparisons it takes.
use Rattle.std.proofs.Common.{◌≡◌, ℕ, zero, suc, ◌+◌, ◌-◌, ◌*◌, ◌^◌, ◌<◌, ◌≤◌, List, length, slice_index, slice_get, Some, get_or, sym, ap, ◌∙◌, arith, inl, inr, true, false, Ordering, Less, Equal, Greater}
use Rattle.std.proofs.Math.Nat.{pow-succ'}
use Rattle.std.proofs.lemmas.Bool.{cases_lt}
use Rattle.std.proofs.lemmas.Cmp.{ranked}
use Rattle.std.proofs.lemmas.List.{get_or-map, get_or_default}
use Rattle.std.proofs.lemmas.Option.{get_or_from_slice_get}
use Rattle.std.specs.List.Sorted.{IsStrictlyIncreasing}
use Rattle.std.specs.Ordering.{is_eq, is_gt, nat_cmp}
use Rattle.netlink_ethernet.specs.declared.protocol.EthernetProtocol.{EthernetProtocol}
use Rattle.netlink_ethernet.specs.declared.protocol.EthernetProtocol.TheVariants.{Other}
use Rattle.netlink_ethernet.specs.Table.{named, numbers, protocol_of}
use Rattle.netlink_ethernet.proofs.Rows as rows

-- ---- the rows that are left

-- in a strictly ascending list, each number is less than those after it
rises_by : (xs : List ℕ) → IsStrictlyIncreasing xs → (i d : ℕ) → i + suc d < length xs → slice_index xs i < slice_index xs (i + suc d)
rises_by xs rise i zero h = let e : i + suc zero ≡ i + 1 = omega arith in rw e (rise i (omega arith))
rises_by xs rise i (suc d) h =
    let before = rises_by xs rise i d (omega arith) in
    let next = rise (i + suc d) (omega arith) in
    let e : i + suc (suc d) ≡ i + suc d + 1 = omega arith in
    rw e (omega arith)

rows_rise : (i j : ℕ) → i < j → j < 102 → slice_index numbers i < slice_index numbers j
rows_rise i j h fits =
    let rise : IsStrictlyIncreasing numbers = rw rows.numbers_are rows.numbers_rise in
    let e : j ≡ i + suc (j - suc i) = omega arith in
    rw e (rises_by numbers rise i (j - suc i) (rw rows.length-numbers (omega arith)))

-- the rows before low have numbers less than the sought one, and those from high onward greater
-- ones
abbrev pub IsWithin : ℕ → ℕ → ℕ → Type 0
IsWithin sought low high =
    ((k : ℕ) → k < low → slice_index numbers k < sought) × ((k : ℕ) → high ≤ k → k < 102 → sought < slice_index numbers k)

pub within_later_rows : (sought low high middle : ℕ) → IsWithin sought low high → middle < 102
    → slice_index numbers middle < sought → IsWithin sought (middle + 1) high
within_later_rows sought low high middle (below, above) row less = (
  (λ k h. elim (cases_lt k middle) [
    | inl before ↦ let rise = rows_rise k middle before row in omega arith
    | inr at ↦ let e : k ≡ middle = omega arith in rw e less
  ]),
  above,
)

pub within_earlier_rows : (sought low high middle : ℕ) → IsWithin sought low high → middle < 102
    → sought < slice_index numbers middle → IsWithin sought low middle
within_earlier_rows sought low high middle (below, above) row more = (
  below,
  (λ k h fits. elim (cases_lt middle k) [
    | inl after ↦ let rise = rows_rise middle k after fits in omega arith
    | inr at ↦ let e : k ≡ middle = omega arith in rw e more
  ]),
)

-- the row that was compared may stay among those that are left
pub within_from : (sought low high later : ℕ) → IsWithin sought later high → low ≤ later → IsWithin sought low high
within_from sought low high later (below, above) order = ((λ k h. below k (omega arith)), above)

-- if no row is left, none has the number
pub protocol_of-none_left : (sought low high : ℕ) → IsWithin sought low high → high ≤ low → protocol_of sought ≡ Other sought
protocol_of-none_left sought low high (below, above) meet =
    rows.protocol_of-no_row sought (λ (k, fits, same).
    let row : k < 102 = rw rows.length-numbers at fits in
    let found : slice_index numbers k ≡ sought = get_or_default numbers k 0 sought fits ∙ same in
    elim (cases_lt k low) [
      | inl before ↦ let b = below k before in omega arith
      | inr after ↦ let a = above k (omega arith) row in omega arith
    ])

-- the row that has the number holds its protocol
pub protocol_of-found : (sought middle : ℕ) (p : EthernetProtocol) → middle < 102 → sought ≡ slice_index numbers middle
    → slice_get named middle ≡ Some p → p ≡ protocol_of sought
protocol_of-found sought middle p row same found =
    sym (get_or_from_slice_get named middle p (Other 0) found)
    ∙ ap (λ (ps : List EthernetProtocol). get_or ps middle (Other 0)) (sym rows.protocols_of_numbers)
    ∙ get_or-map protocol_of numbers middle 0 (Other 0) (rw rows.length-numbers row)
    ∙ ap protocol_of (sym same)

-- ---- the comparisons

-- what `is_gt` and `is_eq` of a result of `cmp` imply about two numbers
pub greater_from_is_gt : (x y : ℕ) (o : Ordering) → o ≡ nat_cmp x y → is_gt o ≡ true → y < x
greater_from_is_gt x y Less e t = grind arith
greater_from_is_gt x y Equal e t = grind arith
greater_from_is_gt x y Greater e t = ranked x y Greater e

pub equal_from_is_eq : (x y : ℕ) (o : Ordering) → o ≡ nat_cmp x y → is_eq o ≡ true → x ≡ y
equal_from_is_eq x y Less e t = grind arith
equal_from_is_eq x y Equal e t = ranked x y Equal e
equal_from_is_eq x y Greater e t = grind arith

pub less_from_neither : (x y : ℕ) (o : Ordering) → o ≡ nat_cmp x y → is_eq o ≡ false → is_gt o ≡ false → x < y
less_from_neither x y Less e n g = ranked x y Less e
less_from_neither x y Equal e n g = grind arith
less_from_neither x y Greater e n g = grind arith

halved : (used size next : ℕ) → 0 < size → size < 2 ^ (7 - used) → 2 * next ≤ size → (used < 7) × (next < 2 ^ (7 - (used + 1)))
halved used size next some within half = elim (cases_lt used 7) [
  | inl more ↦
      let e : 7 - used ≡ suc (7 - (used + 1)) = omega arith in
      let w : size < 2 ^ suc (7 - (used + 1)) = rw e at within in
      let p : 2 ^ suc (7 - (used + 1)) ≡ 2 * 2 ^ (7 - (used + 1)) = pow-succ' 2 (7 - (used + 1)) in
      (more, omega arith)
  | inr none ↦
      let e : 7 - used ≡ 0 = omega arith in
      let w : size < 2 ^ 0 = rw e at within in
      absurd (omega arith)
]

-- each comparison at least halves the rows that are left, so seven are enough
pub one_more : (old now new size next : ℕ) → new ≡ now + 1 → old ≤ now → 0 < size → size < 2 ^ (7 - (now - old)) → 2 * next ≤ size
    → (new ≤ old + 7) × (next < 2 ^ (7 - (new - old)))
one_more old now new size next one before some within half =
    let h = halved (now - old) size next some within half in
    let e : new - old ≡ now - old + 1 = omega arith in
    (omega (arith, h.0), rw e h.1)
