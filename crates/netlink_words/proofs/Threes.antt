-- The digits of numbers, three at a time.
use Rattle.std.proofs.Common.{◌≡◌, ◌∙◌, ◌<◌, ◌≤◌, ◌^◌, ◌/◌, ◌%◌, ◌+◌, ◌++◌, ap, arith, ℕ, List, [], ◌∷◌, append_assoc, sym}
use Rattle.std.specs.Fmt.{decimal}
use Rattle.std.proofs.lemmas.Fmt.{decimal_digit, decimal_step}

-- the three digits of a number below 1000
abbrev pub three : ℕ → List ℕ
three n = (48 + n / 100) ∷ (48 + n / 10 % 10) ∷ (48 + n % 10) ∷ []

append_two : (xs : List ℕ) (a b : ℕ) → (xs ++ (a ∷ [])) ++ (b ∷ []) ≡ xs ++ (a ∷ b ∷ [])
append_two xs a b = append_assoc xs (a ∷ []) (b ∷ [])

append_three : (xs : List ℕ) (a b c : ℕ) → ((xs ++ (a ∷ [])) ++ (b ∷ [])) ++ (c ∷ []) ≡ xs ++ (a ∷ b ∷ c ∷ [])
append_three xs a b c = ap (λ (l : List ℕ). l ++ (c ∷ [])) (append_two xs a b) ∙ append_assoc xs (a ∷ b ∷ []) (c ∷ [])

-- a number of more than three digits has those of its thousands before its last three
thousands_three : (n : ℕ) → 1000 ≤ n → n < 2 ^ 32 → decimal n ≡ decimal (n / 1000) ++ three (n % 1000)
thousands_three n large fits =
    let one : decimal n ≡ decimal (n / 10) ++ ((48 + n % 10) ∷ []) = decimal_step n (omega (arith, large)) (omega (arith, fits)) in
    let two : decimal (n / 10) ≡ decimal (n / 10 / 10) ++ ((48 + n / 10 % 10) ∷ []) = decimal_step (n / 10) (omega (arith, large)) (omega (arith, fits)) in
    let thr : decimal (n / 10 / 10) ≡ decimal (n / 10 / 10 / 10) ++ ((48 + n / 10 / 10 % 10) ∷ []) = decimal_step (n / 10 / 10) (omega (arith, large)) (omega (arith, fits)) in
    let thousands : n / 10 / 10 / 10 ≡ n / 1000 = omega arith in
    let hundreds : n / 10 / 10 % 10 ≡ n % 1000 / 100 = omega arith in
    let tens : n / 10 % 10 ≡ n % 1000 / 10 % 10 = omega arith in
    let ones : n % 10 ≡ n % 1000 % 10 = omega arith in
    rw (one, two, thr, append_three (decimal (n / 10 / 10 / 10)) (48 + n / 10 / 10 % 10) (48 + n / 10 % 10) (48 + n % 10), thousands, hundreds, tens, ones)

pub after_three : (text : List ℕ) (n : ℕ) → 1000 ≤ n → n < 2 ^ 32
    → text ++ decimal n ≡ (text ++ decimal (n / 1000)) ++ three (n % 1000)
after_three text n large fits =
    ap (λ (l : List ℕ). text ++ l) (thousands_three n large fits) ∙ sym (append_assoc text (decimal (n / 1000)) (three (n % 1000)))

-- a number of more than six digits has those of its millions before its last six
pub after_six : (text : List ℕ) (n : ℕ) → 1000000 ≤ n → n < 2 ^ 32
    → text ++ decimal n ≡ ((text ++ decimal (n / 1000000)) ++ three (n / 1000 % 1000)) ++ three (n % 1000)
after_six text n large fits =
    let millions : n / 1000 / 1000 ≡ n / 1000000 = omega arith in
    after_three text n (omega (arith, large)) fits
    ∙ ap (λ (l : List ℕ). l ++ three (n % 1000)) (after_three text (n / 1000) (omega (arith, large)) (omega (arith, fits))
    ∙ ap (λ (m : ℕ). (text ++ decimal m) ++ three (n / 1000 % 1000)) millions)

-- a number of one digit, two and three
pub after_one : (text : List ℕ) (n : ℕ) → n < 10 → text ++ decimal n ≡ text ++ ((48 + n) ∷ [])
after_one text n small = ap (λ (l : List ℕ). text ++ l) (decimal_digit n small)

short_two : (n : ℕ) → 10 ≤ n → n < 100 → decimal n ≡ (48 + n / 10) ∷ (48 + n % 10) ∷ []
short_two n large small =
    decimal_step n large (omega (arith, small))
    ∙ ap (λ (l : List ℕ). l ++ ((48 + n % 10) ∷ [])) (decimal_digit (n / 10) (omega (arith, small)))

pub after_two : (text : List ℕ) (n : ℕ) → 10 ≤ n → n < 100
    → text ++ decimal n ≡ (text ++ ((48 + n / 10) ∷ [])) ++ ((48 + n % 10) ∷ [])
after_two text n large small =
    ap (λ (l : List ℕ). text ++ l) (short_two n large small) ∙ sym (append_two text (48 + n / 10) (48 + n % 10))

short_three : (n : ℕ) → 100 ≤ n → n < 1000 → decimal n ≡ three n
short_three n large small =
    let hundreds : n / 10 / 10 ≡ n / 100 = omega arith in
    decimal_step n (omega (arith, large)) (omega (arith, small))
    ∙ ap (λ (l : List ℕ). l ++ ((48 + n % 10) ∷ [])) (short_two (n / 10) (omega (arith, large)) (omega (arith, small)))
    ∙ ap (λ (h : ℕ). (48 + h) ∷ (48 + n / 10 % 10) ∷ (48 + n % 10) ∷ []) hundreds

pub after_hundred : (text : List ℕ) (n : ℕ) → 100 ≤ n → n < 1000 → text ++ decimal n ≡ text ++ three n
after_hundred text n large small = ap (λ (l : List ℕ). text ++ l) (short_three n large small)
