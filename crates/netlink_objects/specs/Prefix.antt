-- The object of a prefix that a router announces. `ip` has none.
use Rattle.std.specs.Prelude.{ℕ, List, [], ◌∷◌, codes, drop, take}
use Rattle.netlink_json.specs.Fields.{Field}
use Rattle.netlink_names.specs.declared.device.Known.{Known}
use Rattle.netlink_objects.specs.Rows.{Row, row_fields}
use Rattle.netlink_objects.specs.declared.form.Form.TheVariants as form
use Rattle.netlink_objects.specs.declared.row.Place.TheVariants.{Attribute, Header, Inside}
use Rattle.netlink_route.specs.declared.prefixes.TheConstants.{PREFIX_ADDRESS, PREFIX_CACHEINFO}

-- `struct prefixmsg` has the index at 4, the length of the prefix at 9 and the flags at 10; IF_PREFIX_* of
-- net/if_inet6.h of the kernel; `struct prefix_cacheinfo`
abbrev pub prefix_rows : List Row
prefix_rows =
    (codes "prefix", Attribute PREFIX_ADDRESS, form.Ip)
    ∷ (codes "prefixlen", Header 9 1, form.Number)
    ∷ (codes "dev", Header 4 4, form.Device)
    ∷ (codes "onlink", Header 10 1, form.NullIf 0x81)
    ∷ (codes "autoconf", Header 10 1, form.NullIf 0x42)
    ∷ (codes "valid", Inside PREFIX_CACHEINFO 4 4, form.Number)
    ∷ (codes "preferred", Inside PREFIX_CACHEINFO 0 4, form.Number) ∷ []

unfoldable pub prefix_parts : List Known → List ℕ → List (List Field)
prefix_parts known payload = row_fields known (take 12 payload) (drop 12 payload) prefix_rows ∷ []
