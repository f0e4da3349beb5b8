-- The units of times, and the options of an interface.
use Rattle.std.proofs.Common.{◌≡◌, ◌<◌, ◌≤◌, ◌+◌, ◌-◌, ◌*◌, ◌%◌, ◌∙◌, refl, ℕ, zero, suc, List, ap, sym, arith, length, get_or}
use Rattle.std.proofs.Math.Nat.{one-mul}
use Rattle.std.proofs.Math.Pow.{pow_mono, shl_exact}
use Rattle.std.proofs.lemmas.Bool.{eq-eqb, le-leb, le-ltb, lt-ltb, ne_eqb}
use Rattle.std.specs.Prelude.{Bool, true, false, ◌==◌, ◌&&◌, ◌^◌, if◌then◌else◌, nat_le, nat_lt}
use Rattle.netlink_input.specs.Block.{after_option, resolution_in}
use Rattle.netlink_input.specs.Pcap.{number_in}
use Rattle.netlink_input.specs.Time.{tens_of, unit_of}
use Rattle.netlink_input.specs.declared.pcap.Order.{Order}

pub power_unit : (r : ℕ) → 128 ≤ r → r ≤ 172 → 1 * 2 ^ (r - 128) % 18446744073709551616 ≡ unit_of r
unfolding unit_of
power_unit r least most =
    shl_exact {a = 1} 1 (r - 128) 64 (omega arith) (omega (arith, most)) ∙ one-mul (2 ^ (r - 128))
    ∙ sym (ap (λ (b : Bool). if b then (if nat_le r 172 then 2 ^ (r - 128) else 0) else tens_of r) (le-leb 128 r least)
    ∙ ap (λ (b : Bool). if b then 2 ^ (r - 128) else 0) (le-leb r 172 most))

pub power_most : (r : ℕ) → 128 ≤ r → r ≤ 172 → 1 * 2 ^ (r - 128) % 18446744073709551616 ≤ 17592186044416
power_most r least most =
    let same : 1 * 2 ^ (r - 128) % 18446744073709551616 ≡ 2 ^ (r - 128) =
    shl_exact {a = 1} 1 (r - 128) 64 (omega arith) (omega (arith, most)) ∙ one-mul (2 ^ (r - 128)) in
    let bound : 2 ^ (r - 128) ≤ 2 ^ 44 = pow_mono {i = r - 128} {j = 44} (omega (arith, most)) in
    omega (arith, same, bound)

-- ---- the options of an interface

one_left : (n i : ℕ) → i < n → n - i ≡ suc (n - (i + 1))
one_left n i more = omega (arith, more)

abbrev step : ℕ → Order → List ℕ → Bool → Bool → Bool → ℕ
step n order rest short found ends =
    if short then 6 else if found then get_or rest 4 0 else if ends then 6
    else resolution_in n order (after_option rest (number_in order 2 2 rest))

one_step : (n i : ℕ) (order : Order) (rest : List ℕ) → i < n
    → resolution_in (n - i) order rest
    ≡ step (n - (i + 1)) order rest (nat_lt (length rest) 4) (number_in order 0 2 rest == 9 && nat_lt 4 (length rest))
    (number_in order 0 2 rest == 0)
unfolding resolution_in
one_step n i order rest more = ap (λ (m : ℕ). resolution_in m order rest) (one_left n i more)

pub resolution_short : (n i : ℕ) (order : Order) (rest : List ℕ) → i < n → length rest < 4 → resolution_in (n - i) order rest ≡ 6
resolution_short n i order rest more short =
    one_step n i order rest more
    ∙ ap (λ (b : Bool). step (n - (i + 1)) order rest b (number_in order 0 2 rest == 9 && nat_lt 4 (length rest)) (number_in order 0 2 rest == 0))
    (lt-ltb (length rest) 4 short)

pub resolution_found : (n i : ℕ) (order : Order) (rest : List ℕ) → i < n → 4 ≤ length rest
    → (number_in order 0 2 rest == 9 && nat_lt 4 (length rest)) ≡ true → resolution_in (n - i) order rest ≡ get_or rest 4 0
resolution_found n i order rest more long found =
    one_step n i order rest more
    ∙ ap (λ (b : Bool). step (n - (i + 1)) order rest b (number_in order 0 2 rest == 9 && nat_lt 4 (length rest)) (number_in order 0 2 rest == 0))
    (le-ltb (length rest) 4 long)
    ∙ ap (λ (b : Bool). step (n - (i + 1)) order rest false b (number_in order 0 2 rest == 0)) found

pub resolution_ends : (n i : ℕ) (order : Order) (rest : List ℕ) → i < n → 4 ≤ length rest
    → (number_in order 0 2 rest == 9 && nat_lt 4 (length rest)) ≡ false → (number_in order 0 2 rest == 0) ≡ true
    → resolution_in (n - i) order rest ≡ 6
resolution_ends n i order rest more long other ends =
    one_step n i order rest more
    ∙ ap (λ (b : Bool). step (n - (i + 1)) order rest b (number_in order 0 2 rest == 9 && nat_lt 4 (length rest)) (number_in order 0 2 rest == 0))
    (le-ltb (length rest) 4 long)
    ∙ ap (λ (b : Bool). step (n - (i + 1)) order rest false b (number_in order 0 2 rest == 0)) other
    ∙ ap (λ (b : Bool). step (n - (i + 1)) order rest false false b) ends

pub resolution_next : (n i : ℕ) (order : Order) (rest : List ℕ) → i < n → 4 ≤ length rest
    → (number_in order 0 2 rest == 9 && nat_lt 4 (length rest)) ≡ false → (number_in order 0 2 rest == 0) ≡ false
    → resolution_in (n - i) order rest ≡ resolution_in (n - (i + 1)) order (after_option rest (number_in order 2 2 rest))
resolution_next n i order rest more long other goes =
    one_step n i order rest more
    ∙ ap (λ (b : Bool). step (n - (i + 1)) order rest b (number_in order 0 2 rest == 9 && nat_lt 4 (length rest)) (number_in order 0 2 rest == 0))
    (le-ltb (length rest) 4 long)
    ∙ ap (λ (b : Bool). step (n - (i + 1)) order rest false b (number_in order 0 2 rest == 0)) other
    ∙ ap (λ (b : Bool). step (n - (i + 1)) order rest false false b) goes

-- no option is left
pub resolution_none : (n i : ℕ) (order : Order) (rest : List ℕ) → n ≤ i → resolution_in (n - i) order rest ≡ 6
unfolding resolution_in
resolution_none n i order rest done =
    let none : n - i ≡ 0 = omega (arith, done) in
    ap (λ (m : ℕ). resolution_in m order rest) none

pub found_true : (kind size : ℕ) → kind ≡ 9 → 4 < size → (kind == 9 && nat_lt 4 size) ≡ true
found_true kind size is long =
    ap (λ (b : Bool). b && nat_lt 4 size) (eq-eqb kind 9 is) ∙ lt-ltb 4 size long

pub found_other : (kind size : ℕ) → (kind ≡ 9 → ⊥) → (kind == 9 && nat_lt 4 size) ≡ false
found_other kind size not = ap (λ (b : Bool). b && nat_lt 4 size) (ne_eqb kind 9 not)

and_none : (b : Bool) → (b && false) ≡ false
and_none true = refl
and_none false = refl

pub found_short : (kind size : ℕ) → size ≤ 4 → (kind == 9 && nat_lt 4 size) ≡ false
found_short kind size short = ap (λ (b : Bool). (kind == 9) && b) (le-ltb 4 size short) ∙ and_none (kind == 9)
