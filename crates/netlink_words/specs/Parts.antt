-- Parts of a line, with one space between them.
use Rattle.std.specs.Prelude.{ℕ, ◌==◌, ◌≡◌, ◌/◌, ◌%◌, false, Bool, List, [], ◌∷◌, ◌++◌, Option, Some, None, String, codes, decimal, if◌then◌else◌, string_bytes}
use Rattle.std.specs.Fmt.{digits}
use Rattle.std.specs.List.{fold}
use Rattle.netlink_packet_core.specs.Text.{hex_pair}
use Rattle.netlink_words.specs.Text.{ip_words, name_text, sentence_text, separated}

-- a text, followed by a part; an empty part changes nothing
unfoldable pub with_part : List ℕ → List ℕ → List ℕ
with_part text [] = text
with_part text (b ∷ part) = separated (codes " ") text (b ∷ part)

-- a text, followed by parts
abbrev pub with_parts : List ℕ → List (List ℕ) → List ℕ
with_parts text parts = fold with_part text parts

-- a `String` has its old text and then a part, or parts
abbrev pub AddsPart : {Z : Type 0} → String Z → String Z → List ℕ → Type 0
AddsPart old new part = string_bytes new ≡ with_part (string_bytes old) part

abbrev pub AddsParts : {Z : Type 0} → String Z → String Z → List (List ℕ) → Type 0
AddsParts old new parts = string_bytes new ≡ with_parts (string_bytes old) parts

-- a part that is there if a condition holds
unfoldable pub when : Bool → List ℕ → List ℕ
when holds part = if holds then part else []

-- a key and a word, unless the word is empty
unfoldable pub keyed : List ℕ → List ℕ → List ℕ
keyed key [] = []
keyed key (b ∷ word) = key ++ (codes " " ++ (b ∷ word))

-- a key and a number, if there is one
unfoldable pub number_part : List ℕ → Option ℕ → List ℕ
number_part key None = []
number_part key (Some n) = key ++ (codes " " ++ decimal n)

-- a key and a name, and a key and a sentence, unless they are empty
unfoldable pub string_part : List ℕ → Option (List ℕ) → List ℕ
string_part key None = []
string_part key (Some name) = keyed key (name_text name)

unfoldable pub words_part : List ℕ → Option (List ℕ) → List ℕ
words_part key None = []
words_part key (Some words) = keyed key (sentence_text words)

-- a number in hexadecimal
unfoldable pub hex_part : ℕ → List ℕ
hex_part n = if n == 0 then codes "0" else codes "0x" ++ digits 16 false n

-- the text of an address and the length of its prefix, by the length of a whole address
unfoldable pub prefix_of : List ℕ → ℕ → ℕ → List ℕ
prefix_of [] size whole = if size == 0 then [] else codes "0/" ++ decimal size
prefix_of (b ∷ ip) size whole =
    if size == whole then b ∷ ip else (b ∷ ip) ++ (codes "/" ++ decimal size)

-- what follows an address
abbrev pub prefix_end : ℕ → ℕ → List ℕ
prefix_end size whole = if size == whole then [] else codes "/" ++ decimal size

unfoldable pub prefix_text : List ℕ → ℕ → ℕ → List ℕ
prefix_text bytes size whole = prefix_of (ip_words bytes) size whole

-- the bits of an address of a family; 0 for other families than IPv4 and IPv6
unfoldable pub host_length : ℕ → ℕ
host_length family = if family == 2 then 32 else if family == 10 then 128 else 0

-- a type of service other than 0
unfoldable pub tos_part : ℕ → List ℕ
tos_part tos = if tos == 0 then [] else codes "tos 0x" ++ hex_pair tos

unfoldable pub realm_text : ℕ → List ℕ
realm_text n = if n == 0 then codes "unknown" else decimal n

-- a flow of one realm or two, each with its key
unfoldable pub flow_part : List ℕ → List ℕ → ℕ → ℕ → List ℕ
flow_part one two from to =
    if from == 0 then one ++ (codes " " ++ realm_text to)
    else two ++ (codes " " ++ (realm_text from ++ (codes "/" ++ realm_text to)))

abbrev pub realms_part : List ℕ → List ℕ → Option ℕ → List ℕ
realms_part one two None = []
realms_part one two (Some flow) = flow_part one two (flow / 65536) (flow % 65536)

-- a number, or 0
abbrev pub or_zero : Option ℕ → ℕ
or_zero None = 0
or_zero (Some n) = n

-- the bytes, or none
abbrev pub or_empty : Option (List ℕ) → List ℕ
or_empty None = []
or_empty (Some bytes) = bytes
