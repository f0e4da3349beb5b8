-- How the bytes of a value are shown.
use Rattle.std.specs.Prelude.{ℕ, ◌==◌, ◌||◌, not, Bool, false, true, List, [], ◌∷◌, ◌++◌, length, map, slice_index, Option, Some, None, codes, decimal, if◌then◌else◌}
use Rattle.std.specs.Fmt.{digits}
use Rattle.std.specs.Int.Bits.{bit_and}
use Rattle.std.specs.Option.{option_map}
use denote.Ref.{Bor}
use Rattle.netlink_family.specs.Strings.{until_nul}
use Rattle.netlink_packet_core.specs.Numbers.{number_be, number_le, signed}
use Rattle.netlink_packet_core.specs.Text.{hex_pair}
use Rattle.netlink_json.specs.Fields.{items_of}
use Rattle.netlink_json.specs.Json as json
use Rattle.netlink_json.specs.Json.{Json}
use Rattle.netlink_link_lines.specs.Hardware.{hardware_text}
use Rattle.netlink_link_lines.specs.LinkParts.{event_text, group_text, mode_text}
use Rattle.netlink_names.specs.Device.{name_of}
use Rattle.netlink_names.specs.declared.device.Known.{Known}
use Rattle.netlink_words.specs.NumberNames.{family_text, protocol_text, scope_text, state_text, table_text}
use Rattle.netlink_words.specs.Text.{bytes_text, ip_words}
use Rattle.netlink_objects.specs.declared.form.Form.{Form}
use Rattle.netlink_objects.specs.declared.form.Form.TheVariants as form

-- a number of one byte, of two and of four, in native byte order
abbrev pub byte_of : List ℕ → Option ℕ
byte_of value = if length value == 1 then Some (slice_index value 0) else None

abbrev pub sized : ℕ → List ℕ → Option ℕ
sized size value = if length value == size then Some (number_le value) else None

-- a number of any of these sizes, or of eight bytes
abbrev pub number_of : List ℕ → Option ℕ
number_of value =
    if length value == 1 then Some (slice_index value 0)
    else if length value == 2 then Some (number_le value)
    else if length value == 4 then Some (number_le value)
    else if length value == 8 then Some (number_le value)
    else None

-- ---- words

-- the name of a number of one byte
abbrev pub byte_word : Form → ℕ → List ℕ
byte_word form.State n = state_text n
byte_word form.Mode n = mode_text n
byte_word form.AnyScope n = scope_text n
byte_word (form.Scope but) n = if n == but then [] else scope_text n
byte_word form.Family n = family_text n
byte_word (form.Protocol one two) n = if n == one || n == two then [] else protocol_text n
byte_word form.Tos n = if n == 0 then [] else codes "0x" ++ hex_pair n
byte_word other n = []

-- and of four
abbrev pub long_word : Form → ℕ → List ℕ
long_word form.Group n = group_text n
long_word form.Event n = if n == 0 then [] else event_text n
long_word form.Table n = if n == 0 then [] else table_text n
long_word (form.Hex bits) n = if bit_and n bits == 0 then [] else digits 16 false (bit_and n bits)
long_word other n = []

-- a number of four bytes, or of one
abbrev pub long_of : List ℕ → Option ℕ
long_of value = if length value == 1 then Some (slice_index value 0) else sized 4 value

abbrev pub or_none : Option (List ℕ) → List ℕ
or_none None = []
or_none (Some word) = word

-- the word of a value; nothing if it has another size
abbrev pub form_word : Form → List ℕ → List ℕ
form_word form.Ip value = ip_words value
form_word form.Hardware value = bytes_text value
form_word form.LinkType value = or_none (option_map hardware_text (sized 2 value))
form_word form.Group value = or_none (option_map (long_word form.Group) (long_of value))
form_word form.Event value = or_none (option_map (long_word form.Event) (long_of value))
form_word form.Table value = or_none (option_map (long_word form.Table) (long_of value))
form_word (form.Hex bits) value = or_none (option_map (long_word (form.Hex bits)) (long_of value))
form_word form value = or_none (option_map (byte_word form) (byte_of value))

-- ---- values

-- a word, unless it is empty
abbrev pub word_json : List ℕ → Option Json
word_json [] = None
word_json (b ∷ word) = Some (json.text (b ∷ word))

-- the name of a link other than 0, or `if` and its index
abbrev pub device_bytes : ℕ → Option (List ℕ) → List ℕ
device_bytes index None = codes "if" ++ decimal index
device_bytes index (Some name) = name

abbrev pub device_json : List Known → Option ℕ → Option Json
device_json known None = None
device_json known (Some index) =
    if index == 0 then None else Some (json.text (device_bytes index (name_of known index)))

abbrev pub nonzero_json : Option ℕ → Option Json
nonzero_json None = None
nonzero_json (Some n) = if n == 0 then None else Some (json.number n)

-- there is a number, and some of these bits are set in it, or none
abbrev pub has_bits : ℕ → Option ℕ → Bool
has_bits bits None = false
has_bits bits (Some n) = not (bit_and n bits == 0)

abbrev pub lacks_bits : ℕ → Option ℕ → Bool
lacks_bits bits None = false
lacks_bits bits (Some n) = bit_and n bits == 0

-- a value if a condition holds
abbrev pub when_json : Bool → Json → Option Json
when_json holds value = if holds then Some value else None

-- an array of the names of the bits that are set in a number other than 0
abbrev pub Names : Type 0
Names = List (ℕ × List ℕ)

abbrev pub names_in : List (ℕ × Bor (List ℕ)) → Names
names_in names = map (λ name. (name.0, name.1.now)) names

abbrev pub bit_names : ℕ → Names → List Json
bit_names n [] = []
bit_names n (name ∷ names) =
    if bit_and n name.0 == 0 then bit_names n names else json.text name.1 ∷ bit_names n names

abbrev pub names_json : Names → Option ℕ → Option Json
names_json names None = None
names_json names (Some n) = if n == 0 then None else Some (json.array (items_of (bit_names n names)))

-- NUD_* of linux/neighbour.h
abbrev pub neighbour_states : Names
neighbour_states =
    (0x01, codes "INCOMPLETE") ∷ (0x02, codes "REACHABLE") ∷ (0x04, codes "STALE") ∷ (0x08, codes "DELAY")
    ∷ (0x10, codes "PROBE") ∷ (0x20, codes "FAILED") ∷ (0x40, codes "NOARP") ∷ (0x80, codes "PERMANENT") ∷ []

-- a big-endian number of eight bytes
abbrev pub big_json : List ℕ → Option Json
big_json value = if length value == 8 then Some (json.number (number_be value)) else None

abbrev pub signed_json : List ℕ → Option Json
signed_json value = if length value == 4 then Some (json.signed (signed 4 (number_le value))) else None

-- whether a number is another one than 0
abbrev pub boolean_json : Option ℕ → Option Json
boolean_json None = None
boolean_json (Some n) = Some (json.boolean (not (n == 0)))

-- a mode of the reverse path filter
abbrev pub filter_mode_json : ℕ → Json
filter_mode_json n =
    if n == 0 then json.text (codes "off")
    else if n == 1 then json.text (codes "strict")
    else if n == 2 then json.text (codes "loose")
    else json.number n

abbrev pub filter_json : Option ℕ → Option Json
filter_json None = None
filter_json (Some n) = Some (filter_mode_json n)

-- the value that bytes are shown as, if they have the form's size
unfoldable pub form_json : List Known → Form → List ℕ → Option Json
form_json known form.Number value = option_map json.number (number_of value)
form_json known form.NonZero value = nonzero_json (number_of value)
form_json known form.Signed value = signed_json value
form_json known form.Big value = big_json value
form_json known form.Hundredths value = option_map json.hundredths (number_of value)
form_json known form.Boolean value = boolean_json (number_of value)
form_json known (form.TrueIf bits) value = when_json (has_bits bits (number_of value)) (json.boolean true)
form_json known (form.TrueUnless bits) value = when_json (lacks_bits bits (number_of value)) (json.boolean true)
form_json known (form.NullIf bits) value = when_json (has_bits bits (number_of value)) json.null
form_json known form.Null value = Some json.null
form_json known form.Filter value = filter_json (sized 4 value)
form_json known form.States value = names_json neighbour_states (number_of value)
form_json known form.Name value = Some (json.text (until_nul value))
form_json known form.Device value = device_json known (sized 4 value)
form_json known other value = word_json (form_word other value)
