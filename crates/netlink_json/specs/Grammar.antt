-- The grammar of JSON (RFC 8259), without white space between tokens, and without exponents and negative fractions.
use Rattle.std.specs.Prelude.{ℕ, ◌≡◌, ◌==◌, ◌&&◌, ◌||◌, not, Bool, List, [], ◌∷◌, ◌++◌, codes, nat_le}
use Rattle.std.specs.List.{list_all}

-- ---- strings (section 7)

abbrev pub is_digit : ℕ → Bool
is_digit c = nat_le 48 c && nat_le c 57

abbrev pub is_hex : ℕ → Bool
is_hex c = is_digit c || (nat_le 65 c && nat_le c 70) || (nat_le 97 c && nat_le c 102)

-- a byte that needs no backslash; the characters from U+0080 on are bytes of 0x80 and more
abbrev pub is_plain : ℕ → Bool
is_plain b = nat_le 32 b && (not (b == 34) && not (b == 92))

-- what is between the quotation marks
pub data AreChars : List ℕ → Type 0 where
  none : AreChars []
  plain : {b : ℕ} {more : List ℕ} → is_plain b ≡ Bool.true → AreChars more → AreChars (b ∷ more)
  quote : {more : List ℕ} → AreChars more → AreChars (92 ∷ 34 ∷ more)
  backslash : {more : List ℕ} → AreChars more → AreChars (92 ∷ 92 ∷ more)
  numbered : {a b c d : ℕ} {more : List ℕ} → list_all is_hex (a ∷ b ∷ c ∷ d ∷ []) ≡ Bool.true → AreChars more
      → AreChars (92 ∷ 117 ∷ a ∷ b ∷ c ∷ d ∷ more)

pub record IsString (text : List ℕ) : Type 0 where
  pub chars : List ℕ
  pub whole : text ≡ codes "\"" ++ (chars ++ codes "\"")
  pub valid : AreChars chars

-- ---- numbers (section 6)

-- `0`, or digits of which the first is another one
pub data IsNatural : List ℕ → Type 0 where
  nothing : IsNatural (48 ∷ [])
  natural : {c : ℕ} {digits : List ℕ} → is_digit c ≡ Bool.true → (c == 48) ≡ Bool.false → list_all is_digit digits ≡ Bool.true
      → IsNatural (c ∷ digits)

-- ---- values (sections 3 to 5)

mutual
  pub data IsValue : List ℕ → Type 0 where
    null : IsValue (codes "null")
    true : IsValue (codes "true")
    false : IsValue (codes "false")
    number : {text : List ℕ} → IsNatural text → IsValue text
    negative : {text : List ℕ} → IsNatural text → IsValue (45 ∷ text)
    fraction : {text : List ℕ} (c : ℕ) (digits : List ℕ) → IsNatural text → list_all is_digit (c ∷ digits) ≡ Bool.true
        → IsValue (text ++ (46 ∷ c ∷ digits))
    string : {text : List ℕ} → IsString text → IsValue text
    no_items : IsValue (codes "[]")
    array : {items : List ℕ} → AreItems items → IsValue (codes "[" ++ (items ++ codes "]"))
    no_members : IsValue (codes "{}")
    object : {members : List ℕ} → AreMembers members → IsValue (codes "{" ++ (members ++ codes "}"))

  pub data AreItems : List ℕ → Type 0 where
    one_item : {value : List ℕ} → IsValue value → AreItems value
    more_items : {value rest : List ℕ} → IsValue value → AreItems rest → AreItems (value ++ (codes "," ++ rest))

  pub data AreMembers : List ℕ → Type 0 where
    one_member : {key value : List ℕ} → IsString key → IsValue value → AreMembers (key ++ (codes ":" ++ value))
    more_members : {key value rest : List ℕ} → IsString key → IsValue value → AreMembers rest
        → AreMembers (key ++ (codes ":" ++ (value ++ (codes "," ++ rest))))

-- ---- values on lines of their own

pub data AreLines : List ℕ → Type 0 where
  no_lines : AreLines []
  one_line : {value rest : List ℕ} → IsValue value → AreLines rest → AreLines (value ++ (codes "\n" ++ rest))
