-- Bytes as text.
use Rattle.std.specs.Prelude.{ℕ, ◌==◌, ◌&&◌, ◌||◌, not, Bool, List, [], ◌∷◌, ◌++◌, bytes_eq, codes, drop, length, nat_le, nat_lt, take, if◌then◌else◌}
use Rattle.std.specs.List.{fold}
use Rattle.std.specs.Net.Addr.{segments_of}
use Rattle.std.specs.Net.Text.{ipv4_text, ipv6_text}
use Rattle.netlink_packet_core.specs.Text.{hex_pair}

-- a word after a text, separated if the text is not empty
abbrev pub separated : List ℕ → List ℕ → List ℕ → List ℕ
separated separator [] word = word
separated separator (b ∷ text) word = (b ∷ text) ++ (separator ++ word)

abbrev pub with_byte : List ℕ → ℕ → List ℕ
with_byte text byte = separated (codes ":") text (hex_pair byte)

-- two digits per byte, separated by colons
abbrev pub bytes_text : List ℕ → List ℕ
bytes_text bytes = fold with_byte [] bytes

-- each with a colon before it
abbrev pub with_pair : List ℕ → ℕ → List ℕ
with_pair text byte = text ++ (codes ":" ++ hex_pair byte)

abbrev pub pairs : List ℕ → List ℕ
pairs bytes = fold with_pair [] bytes

-- a byte as it is, if it is printable ASCII from a least one on and no backslash, or `\x` and two
-- digits
abbrev pub byte_text : ℕ → ℕ → List ℕ
byte_text least byte =
    if nat_lt byte least || nat_le 127 byte || byte == 92 then codes "\\x" ++ hex_pair byte
    else byte ∷ []

abbrev pub with_printable : ℕ → List ℕ → ℕ → List ℕ
with_printable least text byte = text ++ byte_text least byte

-- each byte of a list in this way
unfoldable pub printable_text : ℕ → List ℕ → List ℕ
printable_text least bytes = fold (with_printable least) [] bytes

-- a name has no spaces, and a sentence may have some
abbrev pub name_text : List ℕ → List ℕ
name_text name = printable_text 33 name

abbrev pub sentence_text : List ℕ → List ℕ
sentence_text sentence = printable_text 32 sentence

-- 16 bytes of which 12 are zero, and not the two after them
abbrev pub is_compatible : List ℕ → Bool
is_compatible bytes =
    length bytes == 16
    && (bytes_eq (take 12 bytes) (0 ∷ 0 ∷ 0 ∷ 0 ∷ 0 ∷ 0 ∷ 0 ∷ 0 ∷ 0 ∷ 0 ∷ 0 ∷ 0 ∷ [])
    && not (bytes_eq (take 2 (drop 12 bytes)) (0 ∷ 0 ∷ [])))

-- an address of 4 bytes, or of 16 (RFC 5952)
abbrev pub plain_words : List ℕ → List ℕ
plain_words bytes =
    if length bytes == 4 then ipv4_text bytes
    else if length bytes == 16 then ipv6_text (segments_of bytes)
    else []

-- an address; an IPv4-compatible one has its IPv4 address at the end
abbrev pub ip_words : List ℕ → List ℕ
ip_words bytes =
    if is_compatible bytes then codes "::" ++ ipv4_text (drop 12 bytes) else plain_words bytes
