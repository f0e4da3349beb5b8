-- The line of a message that is of the second of two tables, or of neither.
use Rattle.std.proofs.Common.{◌≡◌, ◌∙◌, ap, refl, ℕ, Bool, true, false, List}
use Rattle.std.specs.Prelude.{if◌then◌else◌}

pub is_false : (b : Bool) → (b ≡ true → false ≡ true) → b ≡ false
is_false true f = (let bad = f refl in absurd (cc))
is_false false f = refl

pub two_ifs : {X : Type 0} (a b : Bool) (x y z : X) → a ≡ false → b ≡ false → (if a then x else if b then y else z) ≡ z
two_ifs a b x y z first second =
    ap (λ (c : Bool). if c then x else if b then y else z) first ∙ ap (λ (c : Bool). if c then y else z) second

pub else_if : {X : Type 0} (a b : Bool) (x y z : X) → a ≡ false → b ≡ true → (if a then x else if b then y else z) ≡ y
else_if a b x y z first second =
    ap (λ (c : Bool). if c then x else if b then y else z) first ∙ ap (λ (c : Bool). if c then y else z) second

pub moved : {X : Type 0} (f : ℕ → List ℕ → X) (t u : ℕ) (p q : List ℕ) → t ≡ u → p ≡ q → f t p ≡ f u q
moved f t u p q type payload = ap (λ n. f n p) type ∙ ap (f u) payload
