-- Strings of JSON (RFC 8259, section 7).
use Rattle.std.specs.Prelude.{ℕ, ◌==◌, ◌%◌, ◌||◌, Bool, List, [], ◌∷◌, ◌++◌, codes, nat_lt, if◌then◌else◌}
use Rattle.std.specs.Str.{is_utf8}
use Rattle.netlink_packet_core.specs.Text.{hex_pair}

-- `\u00` and the two digits of a byte
abbrev pub numbered : ℕ → List ℕ
numbered byte = codes "\\u00" ++ hex_pair (byte % 256)

-- a byte below 0x80: a quotation mark and a backslash follow a backslash, and a control character is a number
abbrev pub ascii_escape : ℕ → List ℕ
ascii_escape byte =
    if byte == 34 || byte == 92 then 92 ∷ byte ∷ []
    else if nat_lt byte 32 || byte == 127 then numbered byte
    else byte ∷ []

-- a byte of a string; one of 0x80 or more is a number, unless the string is UTF-8
abbrev pub escape : Bool → ℕ → List ℕ
escape is_text byte =
    if nat_lt byte 128 then ascii_escape byte else if is_text then byte ∷ [] else numbered byte

abbrev pub with_escaped : Bool → List ℕ → ℕ → List ℕ
with_escaped is_text text byte = text ++ escape is_text byte

abbrev pub escaped : Bool → List ℕ → List ℕ
escaped is_text [] = []
escaped is_text (byte ∷ bytes) = escape is_text byte ++ escaped is_text bytes

-- the string of these bytes
unfoldable pub string_text : List ℕ → List ℕ
string_text bytes = codes "\"" ++ (escaped (is_utf8 bytes) bytes ++ codes "\"")
