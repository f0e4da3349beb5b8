-- The texts of values are values of the grammar.
use Rattle.std.proofs.Common.{◌≡◌, ◌<◌, ◌≤◌, ◌^◌, ◌/◌, ◌%◌, ◌+◌, ◌++◌, ◌==◌, ◌&&◌, ◌||◌, ap, arith, refl, sym, subst, ℕ, zero, suc, ℤ, pos, negsuc, Bool, true, false, List, [], ◌∷◌, append-nil, codes, decimal, if◌then◌else◌, nat_lt}
use Rattle.std.proofs.lemmas.Bool.{eqb-true}
use Rattle.std.proofs.lemmas.Fmt.{decimal_by_steps_wide}
use Rattle.std.specs.List.{list_all}
use Rattle.std.specs.Str.{is_utf8}
use Rattle.netlink_packet_core.specs.Text.{hex_digit}
use Rattle.netlink_json.specs.Grammar.{AreChars, AreItems, AreMembers, IsNatural, IsString, IsValue, is_digit, is_hex, is_plain}
use Rattle.netlink_json.specs.Json as json
use Rattle.netlink_json.specs.Json.{Items, Json, Members, fraction_text, hundredths_text, items_text, json_text, last_text, members_text, number_text, signed_text}
use Rattle.netlink_json.specs.Strings.{ascii_escape, escape, escaped, numbered, string_text}

-- ---- strings

hex_valid : (n : ℕ) → n < 16 → is_hex (hex_digit n) ≡ true
hex_valid n small = grind (arith, small)

all_four : (a b : Bool) → a ≡ true → b ≡ true → (true && (true && (a && (b && true)))) ≡ true
all_four true true one two = refl
all_four true false one two = two
all_four false b one two = one

numbered_valid : (b : ℕ) (rest : List ℕ) → AreChars rest → AreChars (numbered b ++ rest)
numbered_valid b rest ok =
    AreChars.numbered
    (all_four (is_hex (hex_digit (b % 256 / 16))) (is_hex (hex_digit (b % 256 % 16)))
    (hex_valid (b % 256 / 16) (omega arith)) (hex_valid (b % 256 % 16) (omega arith))) ok

by_test : (x : Bool) (p q rest : List ℕ) → (x ≡ true → AreChars (p ++ rest)) → (x ≡ false → AreChars (q ++ rest))
    → AreChars ((if x then p else q) ++ rest)
by_test true p q rest one two = one refl
by_test false p q rest one two = two refl

special : (b : ℕ) (rest : List ℕ) (x : Bool) → (b == 34) ≡ x → (x || b == 92) ≡ true → AreChars rest → AreChars (92 ∷ b ∷ rest)
special b rest true is either ok = subst (λ (c : ℕ). AreChars (92 ∷ c ∷ rest)) (sym (eqb-true b 34 is)) (AreChars.quote ok)
special b rest false is either ok = subst (λ (c : ℕ). AreChars (92 ∷ c ∷ rest)) (sym (eqb-true b 92 either)) (AreChars.backslash ok)

plain_low : (b : ℕ) → (b == 34 || b == 92) ≡ false → (nat_lt b 32 || b == 127) ≡ false → is_plain b ≡ true
plain_low b one two = grind (arith, one, two)

plain_high : (b : ℕ) → nat_lt b 128 ≡ false → is_plain b ≡ true
plain_high b high = grind (arith, high)

ascii_valid : (b : ℕ) (rest : List ℕ) → AreChars rest → AreChars (ascii_escape b ++ rest)
ascii_valid b rest ok =
    by_test (b == 34 || b == 92) (92 ∷ b ∷ []) (if nat_lt b 32 || b == 127 then numbered b else b ∷ []) rest
    (λ is. special b rest (b == 34) refl is ok)
    (λ other. by_test (nat_lt b 32 || b == 127) (numbered b) (b ∷ []) rest (λ _. numbered_valid b rest ok)
    (λ printed. AreChars.plain (plain_low b other printed) ok))

byte_valid : (is_text : Bool) (b : ℕ) (rest : List ℕ) → AreChars rest → AreChars (escape is_text b ++ rest)
byte_valid is_text b rest ok =
    by_test (nat_lt b 128) (ascii_escape b) (if is_text then b ∷ [] else numbered b) rest (λ _. ascii_valid b rest ok)
    (λ high. by_test is_text (b ∷ []) (numbered b) rest (λ _. AreChars.plain (plain_high b high) ok)
    (λ _. numbered_valid b rest ok))

chars_valid : (is_text : Bool) (bytes : List ℕ) → AreChars (escaped is_text bytes)
chars_valid is_text [] = AreChars.none
chars_valid is_text (b ∷ bytes) = byte_valid is_text b (escaped is_text bytes) (chars_valid is_text bytes)

string_valid : (bytes : List ℕ) → IsString (string_text bytes)
unfolding string_text
string_valid bytes =
    record { chars = escaped (is_utf8 bytes) bytes; whole = refl; valid = chars_valid (is_utf8 bytes) bytes }

-- ---- numbers

-- digits of which the first is not 0
record Leading (text : List ℕ) : Type 0 where
  first : ℕ
  others : List ℕ
  whole : text ≡ first ∷ others
  is_first : is_digit first ≡ true
  large : (first == 48) ≡ false
  are_digits : list_all is_digit others ≡ true

both_hold : (x y z : Bool) → (x && y) ≡ true → (y ≡ true → z ≡ true) → (x && z) ≡ true
both_hold true y z is more = more is
both_hold false y z is more = is

digits-append : (digits : List ℕ) (d : ℕ) → list_all is_digit digits ≡ true → is_digit d ≡ true
    → list_all is_digit (digits ++ (d ∷ [])) ≡ true
digits-append [] d all one = ap (λ (x : Bool). x && true) one
digits-append (c ∷ digits) d all one =
    both_hold (is_digit c) (list_all is_digit digits) (list_all is_digit (digits ++ (d ∷ []))) all
    (λ rest. digits-append digits d rest one)

abbrev AreDigits : ℕ → List ℕ → Type 0
AreDigits n text = (n ≡ 0 → text ≡ 48 ∷ []) × (0 < n → Leading text)

one_digit : (n : ℕ) → n < 10 → AreDigits n ((48 + n) ∷ [])
one_digit n small = (
  λ none. ap (λ (c : ℕ). c ∷ []) (omega (arith, none)),
  λ some. record {
    first = 48 + n;
    others = [];
    whole = refl;
    is_first = grind (arith, small);
    large = grind (arith, some);
    are_digits = refl;
  },
)

more_digits : (n : ℕ) (digits : List ℕ) → 10 ≤ n → AreDigits (n / 10) digits → AreDigits n (digits ++ ((48 + n % 10) ∷ []))
more_digits n digits large (none, some) =
    let front : Leading digits = some (omega (arith, large)) in (
      λ zero. absurd (omega (arith, large, zero)),
      λ _. record {
        first = front.first;
        others = front.others ++ ((48 + n % 10) ∷ []);
        whole = ap (λ (l : List ℕ). l ++ ((48 + n % 10) ∷ [])) front.whole;
        is_first = front.is_first;
        large = front.large;
        are_digits = digits-append front.others (48 + n % 10) front.are_digits (grind arith);
      },
    )

natural_of : (n : ℕ) (text : List ℕ) → AreDigits n text → IsNatural text
natural_of zero text (none, some) = subst IsNatural (sym (none refl)) IsNatural.nothing
natural_of (suc n) text (none, some) =
    let front : Leading text = some (omega arith) in
    subst IsNatural (sym front.whole) (IsNatural.natural front.is_first front.large front.are_digits)

number_valid : (n : ℕ) → IsNatural (number_text n)
number_valid n =
    natural_of (n % 2 ^ 64) (number_text n)
    (decimal_by_steps_wide AreDigits one_digit more_digits (n % 2 ^ 64) (omega arith))

-- ---- numbers with a fraction

two_hold : (x y : Bool) → x ≡ true → y ≡ true → (x && y) ≡ true
two_hold true y one two = two
two_hold false y one two = one

all_append : (digits more : List ℕ) → list_all is_digit digits ≡ true → list_all is_digit more ≡ true
    → list_all is_digit (digits ++ more) ≡ true
all_append [] more all rest = rest
all_append (c ∷ digits) more all rest =
    both_hold (is_digit c) (list_all is_digit digits) (list_all is_digit (digits ++ more)) all
    (λ each. all_append digits more each rest)

all_digits : (text : List ℕ) → IsNatural text → list_all is_digit text ≡ true
all_digits text IsNatural.nothing = refl
all_digits text (IsNatural.natural {c} {digits} one large all) = two_hold (is_digit c) (list_all is_digit digits) one all

small_natural : (n : ℕ) → n < 100 → IsNatural (decimal n)
small_natural n small = natural_of n (decimal n) (decimal_by_steps_wide AreDigits one_digit more_digits n (omega (arith, small)))

after_point : (whole tenths more : List ℕ) → IsNatural whole → IsNatural tenths → list_all is_digit more ≡ true
    → IsValue (whole ++ (codes "." ++ (tenths ++ more)))
after_point whole tenths more ok IsNatural.nothing rest = IsValue.fraction 48 more ok rest
after_point whole tenths more ok (IsNatural.natural {c} {digits} one large all) rest =
    IsValue.fraction c (digits ++ more) ok
    (two_hold (is_digit c) (list_all is_digit (digits ++ more)) one (all_append digits more all rest))

last_digits : (none : Bool) (last : List ℕ) → IsNatural last → list_all is_digit (if none then [] else last) ≡ true
last_digits true last ok = refl
last_digits false last ok = all_digits last ok

by_fraction : (none : Bool) (whole tenths more : List ℕ) → IsNatural whole → IsNatural tenths → list_all is_digit more ≡ true
    → IsValue (whole ++ (if none then [] else codes "." ++ (tenths ++ more)))
by_fraction true whole tenths more ok one rest = subst IsValue (sym (append-nil whole)) (IsValue.number ok)
by_fraction false whole tenths more ok one rest = after_point whole tenths more ok one rest

fraction_valid : (whole : List ℕ) (n : ℕ) → n < 100 → IsNatural whole → IsValue (whole ++ fraction_text n)
fraction_valid whole n small ok =
    by_fraction (n == 0) whole (decimal (n / 10)) (last_text (n % 10)) ok
    (small_natural (n / 10) (omega (arith, small)))
    (last_digits (n % 10 == 0) (decimal (n % 10)) (small_natural (n % 10) (omega arith)))

hundredths_valid : (n : ℕ) → IsValue (hundredths_text n)
hundredths_valid n = fraction_valid (number_text (n / 100)) (n % 100) (omega arith) (number_valid (n / 100))

-- ---- values

boolean_valid : (b : Bool) → IsValue (json_text (json.boolean b))
boolean_valid true = IsValue.true
boolean_valid false = IsValue.false

signed_valid : (z : ℤ) → IsValue (signed_text z)
signed_valid (pos n) = IsValue.number (number_valid n)
signed_valid (negsuc n) = IsValue.negative (number_valid (suc n))

AreValid : Items → Type 0
AreValid json.no_items = Unit {0}
AreValid (json.item value more) = AreItems (json_text value ++ items_text more)

AllValid : Members → Type 0
AllValid json.no_members = Unit {0}
AllValid (json.member key value more) =
    AreMembers (string_text key ++ (codes ":" ++ (json_text value ++ members_text more)))

array_valid : (items : Items) → AreValid items → IsValue (json_text (json.array items))
unfolding AreValid
array_valid json.no_items ok = IsValue.no_items
array_valid (json.item value more) ok = IsValue.array ok

object_valid : (members : Members) → AllValid members → IsValue (json_text (json.object members))
unfolding AllValid
object_valid json.no_members ok = IsValue.no_members
object_valid (json.member key value more) ok = IsValue.object ok

item_valid : (value : Json) (more : Items) → IsValue (json_text value) → AreValid more → AreValid (json.item value more)
unfolding AreValid
item_valid value json.no_items one rest = subst AreItems (sym (append-nil (json_text value))) (AreItems.one_item one)
item_valid value (json.item next more) one rest = AreItems.more_items one rest

member_valid : (key : List ℕ) (value : Json) (more : Members) → IsValue (json_text value) → AllValid more
    → AllValid (json.member key value more)
unfolding AllValid
member_valid key value json.no_members one rest =
    subst AreMembers
    (ap (λ (l : List ℕ). string_text key ++ (codes ":" ++ l)) (sym (append-nil (json_text value))))
    (AreMembers.one_member (string_valid key) one)
member_valid key value (json.member name next more) one rest = AreMembers.more_members (string_valid key) one rest

mutual
  unfolding AreValid AllValid

  pub value_valid : (value : Json) → IsValue (json_text value)
  value_valid json.null = IsValue.null
  value_valid (json.boolean b) = boolean_valid b
  value_valid (json.number n) = IsValue.number (number_valid n)
  value_valid (json.signed z) = signed_valid z
  value_valid (json.hundredths n) = hundredths_valid n
  value_valid (json.text bytes) = IsValue.string (string_valid bytes)
  value_valid (json.array items) = array_valid items (items_valid items)
  value_valid (json.object members) = object_valid members (members_valid members)

  items_valid : (items : Items) → AreValid items
  items_valid json.no_items = tt
  items_valid (json.item value more) = item_valid value more (value_valid value) (items_valid more)

  members_valid : (members : Members) → AllValid members
  members_valid json.no_members = tt
  members_valid (json.member key value more) = member_valid key value more (value_valid value) (members_valid more)
