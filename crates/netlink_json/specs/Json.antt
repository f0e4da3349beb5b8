-- Values of JSON, and their texts.
use Rattle.std.specs.Prelude.{ℕ, ℤ, pos, negsuc, suc, ◌/◌, ◌%◌, ◌^◌, ◌==◌, Bool, true, false, List, [], ◌∷◌, ◌++◌, codes, decimal, if◌then◌else◌}
use Rattle.netlink_json.specs.Strings.{string_text}

-- a string has any bytes, and an object keeps the order of its members
mutual
  pub data Json : Type 0 where
    null : Json
    boolean : Bool → Json
    number : ℕ → Json
    signed : ℤ → Json
    hundredths : ℕ → Json
    text : List ℕ → Json
    array : Items → Json
    object : Members → Json

  pub data Items : Type 0 where
    no_items : Items
    item : Json → Items → Items

  pub data Members : Type 0 where
    no_members : Members
    member : List ℕ → Json → Members → Members

-- a number of 64 bits
abbrev pub number_text : ℕ → List ℕ
number_text n = decimal (n % 2 ^ 64)

abbrev pub signed_text : ℤ → List ℕ
signed_text (pos n) = number_text n
signed_text (negsuc n) = codes "-" ++ number_text (suc n)

-- a number of hundredths, without zeros at its end, such as `1.5` for 150
abbrev pub last_text : ℕ → List ℕ
last_text digit = if digit == 0 then [] else decimal digit

abbrev pub fraction_text : ℕ → List ℕ
fraction_text n = if n == 0 then [] else codes "." ++ (decimal (n / 10) ++ last_text (n % 10))

abbrev pub hundredths_text : ℕ → List ℕ
hundredths_text n = number_text (n / 100) ++ fraction_text (n % 100)

abbrev pub boolean_text : Bool → List ℕ
boolean_text true = codes "true"
boolean_text false = codes "false"

-- bytes without a first comma
abbrev pub after_comma : List ℕ → List ℕ
after_comma [] = []
after_comma (b ∷ bytes) = if b == 44 then bytes else b ∷ bytes

-- the text of a value; each item of an array, and each member of an object, after a comma, and without the first one
abbrev mutual
  pub json_text : Json → List ℕ
  json_text null = codes "null"
  json_text (boolean b) = boolean_text b
  json_text (number n) = number_text n
  json_text (signed z) = signed_text z
  json_text (hundredths n) = hundredths_text n
  json_text (text bytes) = string_text bytes
  json_text (array items) = codes "[" ++ (after_comma (items_text items) ++ codes "]")
  json_text (object members) = codes "{" ++ (after_comma (members_text members) ++ codes "}")

  pub items_text : Items → List ℕ
  items_text no_items = []
  items_text (item value more) = codes "," ++ (json_text value ++ items_text more)

  pub members_text : Members → List ℕ
  members_text no_members = []
  members_text (member key value more) =
      codes "," ++ (string_text key ++ (codes ":" ++ (json_text value ++ members_text more)))
