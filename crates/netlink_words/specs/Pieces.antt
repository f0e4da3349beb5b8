-- A part that is written to the end of a text piece by piece.
use Rattle.std.proofs.Common.{◌≡◌, ◌∙◌, ◌<◌, ◌≤◌, ◌^◌, ◌+◌, ◌++◌, ap, arith, refl, sym, ℕ, Bool, decimal, true, false, List, [], ◌∷◌, append_assoc, codes, if◌then◌else◌, length, length-append, append-nil, drop, get_or, take, take_all, ◌-◌, ◌/◌, ◌%◌, bytes_eq, flat_map, nat_lt, nat_le, subst, ◌||◌, ◌==◌}
use Rattle.std.specs.List.{fold}
use Rattle.std.specs.Char.{digit_char}
use Rattle.std.specs.Net.Addr.{octets_of, segments_of}
use Rattle.std.specs.Net.Text.{compressed_text, groups_text, hex, hex_groups_text, ipv4_text, ipv6_text, leading_zero_digits, longest_zero_run}
use Rattle.netlink_packet_core.specs.Text.{hex_pair}
use Rattle.std.proofs.lemmas.Fmt.{decimal_nonempty}
use Rattle.std.proofs.lemmas.List.{length-drop}
use Rattle.netlink_words.specs.NumberNames.{protocol_text, scope_text, state_text, table_text}
use Rattle.netlink_words.specs.Parts.{keyed, prefix_end, prefix_of, with_part}
use Rattle.netlink_words.specs.Text.{byte_text, bytes_text, ip_words, is_compatible, name_text, plain_words, printable_text, sentence_text, pairs, separated, with_byte, with_pair, with_printable}

-- a part of which a piece is written, and the rest of it
pub part_more : (text front rest : List ℕ) → 0 < length front → with_part text (front ++ rest) ≡ with_part text front ++ rest
unfolding with_part
part_more text [] rest some = absurd (omega (arith, some))
part_more [] (b ∷ front) rest some = refl
part_more (c ∷ text) (b ∷ front) rest some = sym (append_assoc (c ∷ text) (codes " " ++ (b ∷ front)) rest)

-- a key and a space, and what follows them
pub key_more : (text key word : List ℕ)
    → with_part text (key ++ (codes " " ++ word)) ≡ (separated (codes " ") text key ++ codes " ") ++ word
unfolding with_part
key_more [] [] word = refl
key_more [] (b ∷ key) word = sym (append_assoc (b ∷ key) (codes " ") word)
key_more (c ∷ text) [] word =
    sym (append_assoc ((c ∷ text) ++ codes " ") (codes " ") word ∙ append_assoc (c ∷ text) (codes " ") (codes " " ++ word))
key_more (c ∷ text) (b ∷ key) word =
    sym (append_assoc ((c ∷ text) ++ (codes " " ++ (b ∷ key))) (codes " ") word
    ∙ append_assoc (c ∷ text) (codes " " ++ (b ∷ key)) (codes " " ++ word))

-- a key and a word that is not empty
pub keyed_some : (key word : List ℕ) → 0 < length word → keyed key word ≡ key ++ (codes " " ++ word)
unfolding keyed
keyed_some key [] some = absurd (omega (arith, some))
keyed_some key (b ∷ word) some = refl

pub keyed_more : (text key word : List ℕ) → 0 < length word
    → with_part text (keyed key word) ≡ (separated (codes " ") text key ++ codes " ") ++ word
keyed_more text key word some = ap (with_part text) (keyed_some key word some) ∙ key_more text key word

-- ---- names are as long as their bytes, or longer

pub chosen_some : (holds : Bool) (xs ys : List ℕ) → 0 < length xs → 0 < length ys → 0 < length (if holds then xs else ys)
chosen_some true xs ys some other = some
chosen_some false xs ys some other = other

byte_some : (least byte : ℕ) → 0 < length (byte_text least byte)
byte_some least byte =
    chosen_some (nat_lt byte least || nat_le 127 byte || byte == 92) (codes "\\x" ++ hex_pair byte) (byte ∷ []) (omega arith) (omega arith)

printable_long : (least : ℕ) (text bytes : List ℕ)
    → length text + length bytes ≤ length (fold (with_printable least) text bytes)
printable_long least text [] = omega arith
printable_long least text (b ∷ bytes) =
    omega (arith, printable_long least (text ++ byte_text least b) bytes, length-append text (byte_text least b), byte_some least b)

pub printable_some : (least : ℕ) (bytes : List ℕ) → 0 < length bytes → 0 < length (printable_text least bytes)
unfolding printable_text
printable_some least bytes some = omega (arith, some, printable_long least [] bytes)

-- so a key and a name that is not empty are the key, a space and the name
pub name_more : (text key name : List ℕ) → 0 < length name
    → with_part text (keyed key (name_text name)) ≡ (separated (codes " ") text key ++ codes " ") ++ name_text name
name_more text key name some = keyed_more text key (name_text name) (printable_some 33 name some)

pub sentence_more : (text key words : List ℕ) → 0 < length words
    → with_part text (keyed key (sentence_text words)) ≡ (separated (codes " ") text key ++ codes " ") ++ sentence_text words
sentence_more text key words some = keyed_more text key (sentence_text words) (printable_some 32 words some)

-- ---- addresses of four bytes

pub four_words : (bytes : List ℕ) → length bytes ≡ 4 → ip_words bytes ≡ ipv4_text bytes
four_words bytes four = grind (arith, four)

pub dotted_some : (bytes : List ℕ) → 0 < length (ipv4_text bytes)
dotted_some bytes = grind (arith, length-append)

pub four_more : (text key bytes : List ℕ) → length bytes ≡ 4
    → with_part text (keyed key (ip_words bytes)) ≡ (separated (codes " ") text key ++ codes " ") ++ ipv4_text bytes
four_more text key bytes four =
    ap (λ (w : List ℕ). with_part text (keyed key w)) (four_words bytes four) ∙ keyed_more text key (ipv4_text bytes) (dotted_some bytes)

-- an address that is not there
pub no_address : (text key bytes : List ℕ) → length bytes ≡ 0 → with_part text (keyed key (ip_words bytes)) ≡ text
unfolding keyed with_part
no_address text key [] none = refl
no_address text key (b ∷ bytes) none = absurd (omega (arith, none))

-- a destination of four bytes
pub part_some : (text word : List ℕ) → 0 < length word → with_part text word ≡ separated (codes " ") text [] ++ word
unfolding with_part
part_some text [] some = absurd (omega (arith, some))
part_some [] (b ∷ word) some = refl
part_some (c ∷ text) (b ∷ word) some = sym (append_assoc (c ∷ text) (codes " ") (b ∷ word))

kept : (holds : Bool) (word rest : List ℕ) → (if holds then word else word ++ rest) ≡ word ++ (if holds then [] else rest)
kept true word rest = sym (append-nil word)
kept false word rest = refl

pub prefix_some : (word : List ℕ) (size whole : ℕ) → 0 < length word → prefix_of word size whole ≡ word ++ prefix_end size whole
unfolding prefix_of
prefix_some [] size whole some = absurd (omega (arith, some))
prefix_some (b ∷ word) size whole some = kept (size == whole) (b ∷ word) (codes "/" ++ decimal size)

pub four_part : (text bytes : List ℕ) → length bytes ≡ 4
    → with_part text (ip_words bytes) ≡ separated (codes " ") text [] ++ ipv4_text bytes
four_part text bytes four = ap (with_part text) (four_words bytes four) ∙ part_some text (ipv4_text bytes) (dotted_some bytes)

-- ---- addresses of 16 bytes

zeros_few : (n : ℕ) → leading_zero_digits n ≤ 3
zeros_few n = grind (arith)

hex_some : (n : ℕ) → 0 < length (hex n)
unfolding hex
hex_some n =
    let digits : List ℕ = digit_char (n / 0x1000) ∷ digit_char (n / 0x100 % 16) ∷ digit_char (n / 0x10 % 16) ∷ digit_char (n % 16) ∷ [] in
    omega (arith, zeros_few n, length-drop (leading_zero_digits n) digits)

append_some : (xs ys : List ℕ) → 0 < length xs → 0 < length (xs ++ ys)
append_some xs ys some = omega (arith, some, length-append xs ys)

groups_some : (segments : List ℕ) → 0 < length segments → 0 < length (groups_text segments)
groups_some [] some = absurd (omega (arith, some))
groups_some (s ∷ rest) some = append_some (hex s) (flat_map (λ t. codes ":" ++ hex t) rest) (hex_some s)

compressed_some : (segments : List ℕ) (run : ℕ × ℕ) → 0 < length segments → 0 < length (compressed_text segments run)
compressed_some segments run some =
    let front : List ℕ = groups_text (take run.0 segments) in
    let back : List ℕ = groups_text (drop (run.0 + run.1) segments) in
    chosen_some (nat_lt 1 run.1) (front ++ codes "::" ++ back) (groups_text segments)
    (omega (arith, length-append (front ++ codes "::") back, length-append front (codes "::"))) (groups_some segments some)

six_some : (segments : List ℕ) → 0 < length segments → 0 < length (ipv6_text segments)
unfolding ipv6_text hex_groups_text
six_some segments some =
    chosen_some (bytes_eq (take 6 segments) (0 ∷ 0 ∷ 0 ∷ 0 ∷ 0 ∷ 0xffff ∷ []))
    (codes "::ffff:" ++ ipv4_text (octets_of (drop 6 segments))) (compressed_text segments (longest_zero_run segments))
    (omega arith) (compressed_some segments (longest_zero_run segments) some)

segments_some : (bytes : List ℕ) → 1 < length bytes → 0 < length (segments_of bytes)
segments_some [] some = absurd (omega (arith, some))
segments_some (a ∷ []) some = absurd (omega (arith, some))
segments_some (a ∷ b ∷ bytes) some = omega arith

plain_sixteen : (bytes : List ℕ) → length bytes ≡ 16 → plain_words bytes ≡ ipv6_text (segments_of bytes)
plain_sixteen bytes is = grind (arith, is)

pub sixteen_some : (bytes : List ℕ) → length bytes ≡ 16 → 0 < length (ip_words bytes)
sixteen_some bytes is =
    chosen_some (is_compatible bytes) (codes "::" ++ ipv4_text (drop 12 bytes)) (plain_words bytes) (omega arith)
    (subst (λ (w : List ℕ). 0 < length w) (sym (plain_sixteen bytes is))
    (six_some (segments_of bytes) (segments_some bytes (omega (arith, is)))))

pub sixteen_more : (text key bytes : List ℕ) → length bytes ≡ 16
    → with_part text (keyed key (ip_words bytes)) ≡ (separated (codes " ") text key ++ codes " ") ++ ip_words bytes
sixteen_more text key bytes is = keyed_more text key (ip_words bytes) (sixteen_some bytes is)

pub sixteen_part : (text bytes : List ℕ) → length bytes ≡ 16
    → with_part text (ip_words bytes) ≡ separated (codes " ") text [] ++ ip_words bytes
sixteen_part text bytes is = part_some text (ip_words bytes) (sixteen_some bytes is)

-- ---- links without a name

pub index_more : (text key : List ℕ) (n : ℕ)
    → with_part text (keyed key (codes "if" ++ decimal n)) ≡ (separated (codes " ") text key ++ codes " ") ++ (codes "if" ++ decimal n)
index_more text key n = keyed_more text key (codes "if" ++ decimal n) (omega arith)

-- ---- bytes with colons

-- after the first byte each has a colon before it
after_first : (b : ℕ) (text bytes : List ℕ) → fold with_byte (b ∷ text) bytes ≡ fold with_pair (b ∷ text) bytes
after_first b text [] = refl
after_first b text (c ∷ bytes) = after_first b (text ++ (codes ":" ++ hex_pair c)) bytes

from_any : (text bytes : List ℕ) → fold with_pair text bytes ≡ text ++ pairs bytes
from_any text [] = sym (append-nil text)
from_any text (c ∷ bytes) =
    let pair : List ℕ = codes ":" ++ hex_pair c in
    from_any (text ++ pair) bytes ∙ append_assoc text pair (pairs bytes) ∙ ap (λ (l : List ℕ). text ++ l) (sym (from_any pair bytes))

colons_at : (text : List ℕ) (b : ℕ) (bytes : List ℕ) → text ++ bytes_text (b ∷ bytes) ≡ (text ++ hex_pair b) ++ pairs bytes
colons_at text b bytes =
    ap (λ (l : List ℕ). text ++ l) (after_first _ _ bytes ∙ from_any (hex_pair b) bytes)
    ∙ sym (append_assoc text (hex_pair b) (pairs bytes))

pub colons_first : (text bytes : List ℕ) → 1 ≤ length bytes
    → text ++ bytes_text bytes ≡ (text ++ hex_pair (get_or bytes 0 0)) ++ pairs (take (length bytes - 1) (drop 1 bytes))
colons_first text [] some = absurd (omega (arith, some))
colons_first text (b ∷ bytes) some =
    let rest : take (length (b ∷ bytes) - 1) bytes ≡ bytes = take_all (length (b ∷ bytes) - 1) bytes (omega arith) in
    colons_at text b bytes ∙ ap (λ (l : List ℕ). (text ++ hex_pair b) ++ pairs l) (sym rest)

pub bytes_some : (bytes : List ℕ) → 0 < length bytes → 0 < length (bytes_text bytes)
bytes_some [] some = absurd (omega (arith, some))
bytes_some (b ∷ bytes) some =
    omega (arith, ap length (colons_at [] b bytes), length-append (hex_pair b) (pairs bytes))

pub bytes_more : (text key bytes : List ℕ) → 0 < length bytes
    → with_part text (keyed key (bytes_text bytes)) ≡ (separated (codes " ") text key ++ codes " ") ++ bytes_text bytes
bytes_more text key bytes some = keyed_more text key (bytes_text bytes) (bytes_some bytes some)

pub bytes_part : (text bytes : List ℕ) → 0 < length bytes
    → with_part text (bytes_text bytes) ≡ separated (codes " ") text [] ++ bytes_text bytes
bytes_part text bytes some = part_some text (bytes_text bytes) (bytes_some bytes some)

pub no_bytes : (text key bytes : List ℕ) → length bytes ≡ 0 → with_part text (keyed key (bytes_text bytes)) ≡ text
unfolding keyed with_part
no_bytes text key [] none = refl
no_bytes text key (b ∷ bytes) none = absurd (omega (arith, none))

-- ---- names of numbers

scope_some : (n : ℕ) → n < 2 ^ 32 → 0 < length (scope_text n)
scope_some n fits = grind (arith, decimal_nonempty n (omega (arith, fits)))

pub scope_more : (text key : List ℕ) (n : ℕ) → n < 2 ^ 32
    → with_part text (keyed key (scope_text n)) ≡ (separated (codes " ") text key ++ codes " ") ++ scope_text n
scope_more text key n fits = keyed_more text key (scope_text n) (scope_some n fits)

state_some : (n : ℕ) → 0 < length (state_text n)
state_some n = grind arith

pub state_more : (text key : List ℕ) (n : ℕ)
    → with_part text (keyed key (state_text n)) ≡ (separated (codes " ") text key ++ codes " ") ++ state_text n
state_more text key n = keyed_more text key (state_text n) (state_some n)

table_some : (n : ℕ) → n < 2 ^ 32 → 0 < length (table_text n)
unfolding table_text
table_some n fits = grind (arith, decimal_nonempty n (omega (arith, fits)))

pub table_more : (text key : List ℕ) (n : ℕ) → n < 2 ^ 32
    → with_part text (keyed key (table_text n)) ≡ (separated (codes " ") text key ++ codes " ") ++ table_text n
table_more text key n fits = keyed_more text key (table_text n) (table_some n fits)

protocol_some : (n : ℕ) → n < 2 ^ 32 → 0 < length (protocol_text n)
unfolding protocol_text
protocol_some n fits = grind (arith, decimal_nonempty n (omega (arith, fits)))

pub protocol_more : (text key : List ℕ) (n : ℕ) → n < 2 ^ 32
    → with_part text (keyed key (protocol_text n)) ≡ (separated (codes " ") text key ++ codes " ") ++ protocol_text n
protocol_more text key n fits = keyed_more text key (protocol_text n) (protocol_some n fits)

-- ---- labels

pub label_more : (text name : List ℕ) → 0 < length name
    → with_part text (name_text name) ≡ separated (codes " ") text [] ++ name_text name
label_more text name some = part_some text (name_text name) (printable_some 33 name some)
