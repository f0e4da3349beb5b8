-- The object of an address, with the keys of an element of `addr_info` of `ip -o -j addr` and in its order.
use Rattle.std.specs.Prelude.{ℕ, ◌==◌, true, List, [], ◌∷◌, bytes_eq, codes, drop, slice_index, take, Option, Some, None, if◌then◌else◌}
use Rattle.netlink_family.specs.Finding.{found_in}
use Rattle.netlink_json.specs.Fields.{Field, absent}
use Rattle.netlink_json.specs.Json.{boolean}
use Rattle.netlink_names.specs.declared.device.Known.{Known}
use Rattle.netlink_objects.specs.Forms.{has_bits, number_of, when_json, word_json}
use Rattle.netlink_objects.specs.Rows.{Row, field_of, row_fields, value_at}
use Rattle.netlink_objects.specs.declared.form.Form.TheVariants as form
use Rattle.netlink_objects.specs.declared.row.Place.TheVariants.{Attribute, AttributeOr, Either, Header, Inside}
use Rattle.netlink_route.specs.declared.addresses.TheConstants.{IFA_ADDRESS, IFA_ANYCAST, IFA_BROADCAST, IFA_CACHEINFO, IFA_FLAGS, IFA_LABEL, IFA_LOCAL, IFA_RT_PRIORITY}
use Rattle.netlink_words.specs.Text.{ip_words}

-- `struct ifaddrmsg` has the family at 0, the length of the prefix at 1, flags at 2, the scope at 3 and the index at 4
abbrev pub own_rows : List Row
own_rows =
    (codes "index", Header 4 4, form.Number)
    ∷ (codes "dev", Header 4 4, form.Device)
    ∷ (codes "family", Header 0 1, form.Family)
    ∷ (codes "local", Either IFA_LOCAL IFA_ADDRESS, form.Ip) ∷ []

-- the peer's address, if it is another one than the local address
abbrev pub peer_field : Option (List ℕ) → Option (List ℕ) → Field
peer_field None far = absent
peer_field (Some local) None = absent
peer_field (Some local) (Some far) =
    if bytes_eq far local then absent else field_of (codes "address") (word_json (ip_words far))

abbrev pub place_rows : List Row
place_rows =
    (codes "prefixlen", Header 1 1, form.Number)
    ∷ (codes "metric", Attribute IFA_RT_PRIORITY, form.Number)
    ∷ (codes "broadcast", Attribute IFA_BROADCAST, form.Ip)
    ∷ (codes "anycast", Attribute IFA_ANYCAST, form.Ip)
    ∷ (codes "scope", Header 3 1, form.AnyScope) ∷ []

-- the first flag, which of an IPv6 address means that it is temporary
abbrev pub flags_in : Option (List ℕ) → Option ℕ
flags_in None = None
flags_in (Some value) = number_of value

abbrev pub first_flag : ℕ → Option ℕ → Field
first_flag family flags =
    field_of (if family == 10 then codes "temporary" else codes "secondary") (when_json (has_bits 1 flags) (boolean true))

-- IFA_F_* of linux/if_addr.h, and `struct ifa_cacheinfo`
abbrev pub flag_rows : List Row
flag_rows =
    (codes "nodad", AttributeOr IFA_FLAGS 2 1, form.TrueIf 0x2)
    ∷ (codes "optimistic", AttributeOr IFA_FLAGS 2 1, form.TrueIf 0x4)
    ∷ (codes "dadfailed", AttributeOr IFA_FLAGS 2 1, form.TrueIf 0x8)
    ∷ (codes "home", AttributeOr IFA_FLAGS 2 1, form.TrueIf 0x10)
    ∷ (codes "deprecated", AttributeOr IFA_FLAGS 2 1, form.TrueIf 0x20)
    ∷ (codes "tentative", AttributeOr IFA_FLAGS 2 1, form.TrueIf 0x40)
    ∷ (codes "dynamic", AttributeOr IFA_FLAGS 2 1, form.TrueUnless 0x80)
    ∷ (codes "mngtmpaddr", AttributeOr IFA_FLAGS 2 1, form.TrueIf 0x100)
    ∷ (codes "noprefixroute", AttributeOr IFA_FLAGS 2 1, form.TrueIf 0x200)
    ∷ (codes "autojoin", AttributeOr IFA_FLAGS 2 1, form.TrueIf 0x400)
    ∷ (codes "stable-privacy", AttributeOr IFA_FLAGS 2 1, form.TrueIf 0x800)
    ∷ (codes "ifa_flags", AttributeOr IFA_FLAGS 2 1, form.Hex 0xfffff000)
    ∷ (codes "label", Attribute IFA_LABEL, form.Name)
    ∷ (codes "valid_life_time", Inside IFA_CACHEINFO 4 4, form.Number)
    ∷ (codes "preferred_life_time", Inside IFA_CACHEINFO 0 4, form.Number) ∷ []

-- whether it is gone; the address, the peer's, the places, the flags, the label and the lifetimes
unfoldable pub address_parts : List Known → ℕ → List ℕ → List (List Field)
address_parts known t payload =
    (field_of (codes "deleted") (when_json (t == 21) (boolean true)) ∷ [])
    ∷ row_fields known (take 8 payload) (drop 8 payload) own_rows
    ∷ (peer_field (found_in (drop 8 payload) IFA_LOCAL) (found_in (drop 8 payload) IFA_ADDRESS) ∷ [])
    ∷ row_fields known (take 8 payload) (drop 8 payload) place_rows
    ∷ (first_flag (slice_index (take 8 payload) 0)
    (flags_in (value_at (take 8 payload) (drop 8 payload) (AttributeOr IFA_FLAGS 2 1))) ∷ [])
    ∷ row_fields known (take 8 payload) (drop 8 payload) flag_rows ∷ []
