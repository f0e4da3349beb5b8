-- The constants hold the table's rows, the numbers are ascending, and the conversions agree.
use Rattle.std.proofs.Common.{◌≡◌, ◌≢◌, add-one, ℕ, zero, suc, List, [], ◌∷◌, length, true, Bool, ◌&&◌, nat_lt, map, refl, arith, inl, inr}
use Rattle.std.proofs.lemmas.Bool.{cases_eq, eq-eqb, ne_eqb}
use Rattle.std.proofs.lemmas.Bool.Decides.{nat_tests}
use Rattle.std.specs.List.{Contains}
use Rattle.std.specs.List.Sorted.{IsStrictlyIncreasing}
use Rattle.netlink_ethernet.specs.declared.protocol.EthernetProtocol.{EthernetProtocol}
use Rattle.netlink_ethernet.specs.declared.protocol.EthernetProtocol.TheVariants.{Other}
use Rattle.netlink_ethernet.specs.declared.comparisons.TheConstants.{NUMBERS}
use Rattle.netlink_ethernet.specs.Table.{named, numbers, number_of, protocol_of, first_with, IsProper}

-- ---- computed over the whole table

pub numbers_are : numbers ≡ NUMBERS
unfolding numbers named
numbers_are = refl

pub length-numbers : length numbers ≡ 102
unfolding numbers named
length-numbers = refl

-- the protocol of each number is that of its row
pub protocols_of_numbers : map protocol_of numbers ≡ named
unfolding numbers named protocol_of first_with
protocols_of_numbers = refl

abbrev pub is_rising : List ℕ → Bool
is_rising [] = true
is_rising (x ∷ []) = true
is_rising (x ∷ (y ∷ ys)) = nat_lt x y && is_rising (y ∷ ys)

pub rises : (xs : List ℕ) → is_rising xs ≡ true → IsStrictlyIncreasing xs
rises [] t k h = absurd (omega arith)
rises (x ∷ []) t k h = absurd (omega arith)
rises (x ∷ (y ∷ ys)) t zero h = grind (arith, nat_tests)
rises (x ∷ (y ∷ ys)) t (suc k) h =
    let rest : is_rising (y ∷ ys) ≡ true = grind (arith, nat_tests) in
    let later = rises (y ∷ ys) rest k (omega arith) in
    simp add-one (simp add-one at later)

pub numbers_rise : IsStrictlyIncreasing NUMBERS
numbers_rise = rises NUMBERS refl

-- ---- the conversions agree

number_of-first_with : (n : ℕ) (ps : List EthernetProtocol) → number_of (first_with n ps) ≡ n
unfolding first_with
number_of-first_with n [] = refl
number_of-first_with n (p ∷ ps) = elim (cases_eq (number_of p) n) [
  | inl same ↦ rw (eq-eqb (number_of p) n same) same
  | inr other ↦ rw (ne_eqb (number_of p) n other) (number_of-first_with n ps)
]

pub number_of-protocol_of : (n : ℕ) → number_of (protocol_of n) ≡ n
unfolding protocol_of
number_of-protocol_of n = number_of-first_with n named

first_with-no_row : (n : ℕ) (ps : List EthernetProtocol) → ¬ Contains (map number_of ps) n → first_with n ps ≡ Other n
unfolding first_with
first_with-no_row n [] h = refl
first_with-no_row n (p ∷ ps) h =
    let other : number_of p ≢ n = λ same. h (0, omega arith, same) in
    let later : ¬ Contains (map number_of ps) n = λ (k, below, same). h (suc k, omega arith, same) in
    rw (ne_eqb (number_of p) n other) (first_with-no_row n ps later)

-- a number that is in no row
pub protocol_of-no_row : (n : ℕ) → ¬ Contains numbers n → protocol_of n ≡ Other n
unfolding protocol_of numbers
protocol_of-no_row n h = first_with-no_row n named h

pub protocol_of-number_of : (p : EthernetProtocol) → IsProper p → protocol_of (number_of p) ≡ p
unfolding protocol_of first_with named
protocol_of-number_of (Other n) h = protocol_of-no_row n h
protocol_of-number_of _ h = refl
