-- The numbers of a shape, and the shape that numbers identify.
use Rattle.std.specs.Prelude.{◌≡◌, ◌==◌, ℕ, Option, Some, None, refl, if◌then◌else◌}
use Rattle.netlink_family.specs.declared.shape.Shape.{Shape}
use Rattle.netlink_family.specs.declared.shape.Shape.TheVariants.{Flag, U8, U16, U32, U64, I32, I64, Be16, Be32, Be64, BeI32, ExactLen, Ip, NulStr, Str, MinLen, Elements, Nested, HeaderNested, Chosen, ChosenByNumber, Bytes}
use Rattle.netlink_route_c.specs.declared.shape.ShapeNumbers.{ShapeNumbers}

abbrev pub shape_with : ℕ → ℕ → ℕ → ShapeNumbers
shape_with shape size policy = record { shape = shape; size = size; policy = policy }

abbrev pub shape_numbers : Shape → ShapeNumbers
shape_numbers Bytes = shape_with 0 0 0
shape_numbers U8 = shape_with 1 0 0
shape_numbers U16 = shape_with 2 0 0
shape_numbers U32 = shape_with 3 0 0
shape_numbers I32 = shape_with 4 0 0
shape_numbers U64 = shape_with 5 0 0
shape_numbers I64 = shape_with 6 0 0
shape_numbers Be16 = shape_with 7 0 0
shape_numbers Be32 = shape_with 8 0 0
shape_numbers Be64 = shape_with 9 0 0
shape_numbers Flag = shape_with 10 0 0
shape_numbers Ip = shape_with 11 0 0
shape_numbers NulStr = shape_with 12 0 0
shape_numbers Str = shape_with 13 0 0
shape_numbers (ExactLen size) = shape_with 14 size 0
shape_numbers (MinLen size) = shape_with 15 size 0
shape_numbers (Nested policy) = shape_with 16 0 policy
shape_numbers (HeaderNested size policy) = shape_with 17 size policy
shape_numbers (Chosen by policy) = shape_with 18 by policy
shape_numbers BeI32 = shape_with 19 0 0
shape_numbers (Elements size) = shape_with 20 size 0
shape_numbers (ChosenByNumber by policy) = shape_with 21 by policy

abbrev pub shape_from : ShapeNumbers → Option Shape
shape_from numbers =
    if numbers.shape == 0 then Some Bytes
    else if numbers.shape == 1 then Some U8
    else if numbers.shape == 2 then Some U16
    else if numbers.shape == 3 then Some U32
    else if numbers.shape == 4 then Some I32
    else if numbers.shape == 5 then Some U64
    else if numbers.shape == 6 then Some I64
    else if numbers.shape == 7 then Some Be16
    else if numbers.shape == 8 then Some Be32
    else if numbers.shape == 9 then Some Be64
    else if numbers.shape == 10 then Some Flag
    else if numbers.shape == 11 then Some Ip
    else if numbers.shape == 12 then Some NulStr
    else if numbers.shape == 13 then Some Str
    else if numbers.shape == 14 then Some (ExactLen numbers.size)
    else if numbers.shape == 15 then Some (MinLen numbers.size)
    else if numbers.shape == 16 then Some (Nested numbers.policy)
    else if numbers.shape == 17 then Some (HeaderNested numbers.size numbers.policy)
    else if numbers.shape == 18 then Some (Chosen numbers.size numbers.policy)
    else if numbers.shape == 19 then Some BeI32
    else if numbers.shape == 20 then Some (Elements numbers.size)
    else if numbers.shape == 21 then Some (ChosenByNumber numbers.size numbers.policy)
    else None

-- the numbers of a shape identify it
pub shape_again : (shape : Shape) → shape_from (shape_numbers shape) ≡ Some shape
shape_again Bytes = refl
shape_again U8 = refl
shape_again U16 = refl
shape_again U32 = refl
shape_again I32 = refl
shape_again U64 = refl
shape_again I64 = refl
shape_again Be16 = refl
shape_again Be32 = refl
shape_again Be64 = refl
shape_again Flag = refl
shape_again Ip = refl
shape_again NulStr = refl
shape_again Str = refl
shape_again (ExactLen size) = refl
shape_again (MinLen size) = refl
shape_again (Nested policy) = refl
shape_again (HeaderNested size policy) = refl
shape_again (Chosen by policy) = refl
shape_again BeI32 = refl
shape_again (Elements size) = refl
shape_again (ChosenByNumber by policy) = refl
