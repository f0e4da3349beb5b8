-- Two errors are equal by the derived `==` if and only if nothing distinguishes them.
use Rattle.std.proofs.Common.{◌≡◌, ◌≤◌, ◌↔◌, ◌&&◌, ◌==◌, ℕ, suc, Bool, true, false, List, [], ◌∷◌, get_or, IsTrue, nat_eq, inl, inr, refl, sym, ap, ◌∙◌, arith}
use Rattle.std.proofs.lemmas.Bool.{and_from, and_parts}
use Rattle.std.proofs.lemmas.Bool.Decides.{Decides-eqb}
use Rattle.std.proofs.Math.Bool.{beq}
use Rattle.std.specs.Cmp.{booleans_Decides}
use Rattle.std.specs.Cmp.Lexicographic.{bytes_decides, pointwise}
use Rattle.std.specs.Prelude.{String, string_bytes}
use Rattle.std.specs.declared.alloc.Global.{Global}
use denote.Enum.Compared.{Each, by}
use denote.Enum.Declared.{Choice}
use denote.Struct.Field.{Field}
use denote.Struct.Values.{Values}
use Rattle.netlink_bytes.specs.Causes.{SameCause, cause_number, held_sizes, held_text, is_inside}
use Rattle.netlink_bytes.specs.contracts.error.DecodeError.{as_values, the_parts}
use Rattle.netlink_bytes.specs.contracts.error.DecodeErrorPartialEq.TheImpl
use Rattle.netlink_bytes.specs.declared.error.DecodeError.{DecodeError}
use Rattle.netlink_bytes.specs.declared.error.DecodeError.TheVariants.{InvalidBuffer, InvalidMacAddress, InvalidIpAddress, InvalidNumber, NlaBufferTooSmall, NlaLengthMismatch, NlaInvalidLength, BufferTooSmall, FrameShort, FrameCut, FrameLength, DoneShort, ErrorShort, Message, TooLong, OutOfMemory}

-- ---- any enum whose variants are distinguished by what they hold

-- what an error holds: its text, its sizes, and whether it is inside
abbrev Held : Type 0
Held = List ℕ × (List ℕ × Bool)

-- how the derived `==` compares two values of a variant, what a value holds, and that two are equal
-- if and only if they hold the same
record Shape (V : Type 0) : Type 0 where
  same : V → V → Bool
  holds : V → Held
  tells : (x y : V) → IsTrue (same x y) ↔ (holds x ≡ holds y)

-- a shape for each variant
abbrev Shapes : List (List Field) → Type 0
Shapes [] = Unit {0}
Shapes (Fs ∷ Fss) = Shape (Values Fs) × Shapes Fss

abbrev each_of : (Fss : List (List Field)) → Shapes Fss → Each Bool Fss
each_of [] shapes = tt
each_of (Fs ∷ Fss) shapes = (shapes.0.same, each_of Fss shapes.1)

-- the number of the variant, counted from n, and what it holds
abbrev held_from : ℕ → (Fss : List (List Field)) → Shapes Fss → Choice Fss → ℕ × Held
held_from n [] shapes c = absurd c
held_from n (Fs ∷ Fss) shapes (inl x) = (n, shapes.0.holds x)
held_from n (Fs ∷ Fss) shapes (inr c) = held_from (suc n) Fss shapes.1 c

counted_from : (n : ℕ) (Fss : List (List Field)) (shapes : Shapes Fss) (c : Choice Fss) → n ≤ (held_from n Fss shapes c).0
counted_from n [] shapes c = absurd c
counted_from n (Fs ∷ Fss) shapes (inl x) = omega arith
counted_from n (Fs ∷ Fss) shapes (inr c) = let rest = counted_from (suc n) Fss shapes.1 c in omega (arith, rest)

-- two values of any variants are equal if and only if they are of the same variant and hold the same
tell_apart : (n : ℕ) (Fss : List (List Field)) (shapes : Shapes Fss) (c d : Choice Fss)
    → IsTrue (by false false Fss (each_of Fss shapes) c d) ↔ (held_from n Fss shapes c ≡ held_from n Fss shapes d)
tell_apart n [] shapes c d = absurd c
tell_apart n (Fs ∷ Fss) shapes (inl x) (inl y) =
    let here = shapes.0.tells x y in
    (λ e. ap (λ (h : Held). (n, h)) (here.0 e), λ e. here.1 (ap (λ (p : ℕ × Held). p.1) e))
tell_apart n (Fs ∷ Fss) shapes (inl x) (inr d) =
    let more = counted_from (suc n) Fss shapes.1 d in
    (λ e. absurd (cc), λ e. let same = ap (λ (p : ℕ × Held). p.0) e in absurd (omega (arith, more, same)))
tell_apart n (Fs ∷ Fss) shapes (inr c) (inl y) =
    let more = counted_from (suc n) Fss shapes.1 c in
    (λ e. absurd (cc), λ e. let same = ap (λ (p : ℕ × Held). p.0) e in absurd (omega (arith, more, same)))
tell_apart n (Fs ∷ Fss) shapes (inr c) (inr d) = tell_apart (suc n) Fss shapes.1 c d

-- ---- what errors of each shape hold

abbrev held : List ℕ → List ℕ → Bool → Held
held text sizes inside = (text, (sizes, inside))

abbrev size_in : ℕ → Held → ℕ
size_in i h = get_or h.1.0 i 0

-- one size
abbrev One : Type 0
One = ℕ × Unit {0}

abbrev one_same : One → One → Bool
one_same x y = x.0 == y.0

abbrev one_holds : One → Held
one_holds x = held [] (x.0 ∷ []) false

one_tells : (x y : One) → IsTrue (one_same x y) ↔ (one_holds x ≡ one_holds y)
one_tells x y =
    let size = Decides-eqb x.0 y.0 in
    (λ e. λ i. held [] (size.0 e i ∷ []) false, λ e. size.1 (ap (size_in 0) e))

-- two sizes
abbrev Two : Type 0
Two = ℕ × One

abbrev two_same : Two → Two → Bool
two_same x y = (x.0 == y.0) && (x.1.0 == y.1.0)

abbrev two_holds : Two → Held
two_holds x = held [] (x.0 ∷ x.1.0 ∷ []) false

two_tell : (x y : Two) → IsTrue (two_same x y) ↔ (two_holds x ≡ two_holds y)
two_tell x y =
    let first = Decides-eqb x.0 y.0 in
    let later = Decides-eqb x.1.0 y.1.0 in (
      λ e. let parts = and_parts _ _ e in λ i. held [] (first.0 parts.0 i ∷ later.0 parts.1 i ∷ []) false,
      λ e. and_from _ _ (first.1 (ap (size_in 0) e)) (later.1 (ap (size_in 1) e)),
    )

-- one size, and whether it is inside
abbrev Marked : Type 0
Marked = ℕ × (Bool × Unit {0})

abbrev marked_same : Marked → Marked → Bool
marked_same x y = (x.0 == y.0) && beq x.1.0 y.1.0

abbrev marked_holds : Marked → Held
marked_holds x = held [] (x.0 ∷ []) x.1.0

marked_tells : (x y : Marked) → IsTrue (marked_same x y) ↔ (marked_holds x ≡ marked_holds y)
marked_tells x y =
    let size = Decides-eqb x.0 y.0 in
    let mark = booleans_Decides x.1.0 y.1.0 in (
      λ e. let parts = and_parts _ _ e in λ i. held [] (size.0 parts.0 i ∷ []) (mark.0 parts.1 i),
      λ e. and_from _ _ (size.1 (ap (size_in 0) e)) (mark.1 (ap (λ (h : Held). h.1.1) e)),
    )

-- two sizes, and whether it is inside
abbrev MarkedTwo : Type 0
MarkedTwo = ℕ × Marked

abbrev marked_two_same : MarkedTwo → MarkedTwo → Bool
marked_two_same x y = (x.0 == y.0) && ((x.1.0 == y.1.0) && beq x.1.1.0 y.1.1.0)

abbrev marked_two_holds : MarkedTwo → Held
marked_two_holds x = held [] (x.0 ∷ x.1.0 ∷ []) x.1.1.0

marked_two_tell : (x y : MarkedTwo) → IsTrue (marked_two_same x y) ↔ (marked_two_holds x ≡ marked_two_holds y)
marked_two_tell x y =
    let first = Decides-eqb x.0 y.0 in
    let later = Decides-eqb x.1.0 y.1.0 in
    let mark = booleans_Decides x.1.1.0 y.1.1.0 in (
      λ e. let parts = and_parts _ _ e in let rest = and_parts _ _ parts.1 in
          λ i. held [] (first.0 parts.0 i ∷ later.0 rest.0 i ∷ []) (mark.0 rest.1 i),
      λ e. and_from _ _ (first.1 (ap (size_in 0) e))
          (and_from _ _ (later.1 (ap (size_in 1) e)) (mark.1 (ap (λ (h : Held). h.1.1) e))),
    )

-- a text
abbrev text_same : List ℕ → List ℕ → Bool
text_same t u = pointwise nat_eq t u

abbrev text_holds : List ℕ → Held
text_holds t = held t [] false

text_tells : (t u : List ℕ) → IsTrue (text_same t u) ↔ (text_holds t ≡ text_holds u)
text_tells t u =
    let text = bytes_decides t u in
    (λ e. λ i. held (text.0 e i) [] false, λ e. text.1 (ap (λ (h : Held). h.0) e))

-- a text and two sizes
abbrev named_same : List ℕ → Two → List ℕ → Two → Bool
named_same t x u y = pointwise nat_eq t u && ((x.0 == y.0) && (x.1.0 == y.1.0))

abbrev named_holds : List ℕ → Two → Held
named_holds t x = held t (x.0 ∷ x.1.0 ∷ []) false

named_tells : (t : List ℕ) (x : Two) (u : List ℕ) (y : Two) → IsTrue (named_same t x u y) ↔ (named_holds t x ≡ named_holds u y)
named_tells t x u y =
    let text = bytes_decides t u in
    let first = Decides-eqb x.0 y.0 in
    let later = Decides-eqb x.1.0 y.1.0 in (
      λ e. let parts = and_parts _ _ e in let rest = and_parts _ _ parts.1 in
          λ i. held (text.0 parts.0 i) (first.0 rest.0 i ∷ later.0 rest.1 i ∷ []) false,
      λ e. and_from _ _ (text.1 (ap (λ (h : Held). h.0) e))
          (and_from _ _ (first.1 (ap (size_in 0) e)) (later.1 (ap (size_in 1) e))),
    )

-- ---- the errors, in order

abbrev one : Shape One
one = record { same = one_same; holds = one_holds; tells = one_tells }

abbrev two : Shape Two
two = record { same = two_same; holds = two_holds; tells = two_tell }

abbrev mark : Shape Marked
mark = record { same = marked_same; holds = marked_holds; tells = marked_tells }

abbrev pair : Shape MarkedTwo
pair = record { same = marked_two_same; holds = marked_two_holds; tells = marked_two_tell }

-- no fields
abbrev bare : Shape (Unit {0})
bare = record { same = λ x y. true; holds = λ x. held [] [] false; tells = λ x y. (λ e. refl, λ e. refl) }

abbrev words : Shape (String Global × Unit {0})
words = record {
  same = λ x y. text_same (string_bytes x.0) (string_bytes y.0);
  holds = λ x. text_holds (string_bytes x.0);
  tells = λ x y. text_tells (string_bytes x.0) (string_bytes y.0);
}

abbrev named : Shape (String Global × Two)
named = record {
  same = λ x y. named_same (string_bytes x.0) x.1 (string_bytes y.0) y.1;
  holds = λ x. named_holds (string_bytes x.0) x.1;
  tells = λ x y. named_tells (string_bytes x.0) x.1 (string_bytes y.0) y.1;
}

abbrev shapes : Shapes the_parts
shapes = (named, (one, (one, (two, (two, (two, (two, (two, (mark, (pair, (mark, (mark, (mark, (words, (bare, (bare, tt))))))))))))))))

abbrev held_cause : DecodeError → ℕ × Held
held_cause e = (cause_number e, held (held_text e) (held_sizes e) (is_inside e))

as_held : (e : DecodeError) → held_from 1 the_parts shapes (as_values e) ≡ held_cause e
as_held (InvalidBuffer name received minimum_length) = refl
as_held (InvalidMacAddress received) = refl
as_held (InvalidIpAddress received) = refl
as_held (InvalidNumber expected received) = refl
as_held (NlaBufferTooSmall buffer_len nla_len) = refl
as_held (NlaLengthMismatch buffer_len nla_len) = refl
as_held (NlaInvalidLength buffer_len nla_len) = refl
as_held (BufferTooSmall buffer_len value_len) = refl
as_held (FrameShort size inside) = refl
as_held (FrameCut length size inside) = refl
as_held (FrameLength length inside) = refl
as_held (DoneShort size inside) = refl
as_held (ErrorShort size inside) = refl
as_held (Message text) = refl
as_held TooLong = refl
as_held OutOfMemory = refl

pub causes_equal : (a b : DecodeError) → IsTrue (TheImpl.ghosts.eq a b) ↔ SameCause a b
causes_equal a b =
    let apart = tell_apart 1 the_parts shapes (as_values a) (as_values b) in (
      λ e. let same = sym (as_held a) ∙ apart.0 e ∙ as_held b in record {
        number = ap (λ (h : ℕ × Held). h.0) same;
        text = ap (λ (h : ℕ × Held). h.1.0) same;
        sizes = ap (λ (h : ℕ × Held). h.1.1.0) same;
        inside = ap (λ (h : ℕ × Held). h.1.1.1) same;
      },
      λ s. apart.1 (as_held a ∙ (λ i. (s.number i, held (s.text i) (s.sizes i) (s.inside i))) ∙ sym (as_held b)),
    )
