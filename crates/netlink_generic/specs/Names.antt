-- The names of families.
use Rattle.std.specs.Prelude.{ℕ, ◌==◌, Bool, ◌&&◌, List, length, nat_lt}
use Rattle.netlink_family.specs.Strings.{until_nul}
use Rattle.netlink_generic.specs.declared.controller.TheConstants.{GENL_NAMSIZ}

-- the name and a NUL fit in `GENL_NAMSIZ` bytes, and the name has no NUL: it ends where its first
-- NUL would be
abbrev pub is_family_name : List ℕ → Bool
is_family_name name = nat_lt (length name) GENL_NAMSIZ && length (until_nul name) == length name
