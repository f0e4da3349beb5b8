-- What a table gives, by the record of its ghost members: `F.Table` in a clause, `g.F.Table` in a proof.
use Rattle.std.specs.Prelude.{ℕ, List, Option}
use Rattle.netlink_family.specs.ByteLines.{payload_lines}
use Rattle.netlink_family.specs.declared.family.Table.{Ghosts}
use Rattle.netlink_shapes.specs.Errors.{family_error}
use Rattle.netlink_shapes.specs.declared.error.FamilyError.{FamilyError}

-- the error of a payload
abbrev pub table_error : {F : Type 0} → Ghosts F → ℕ → List ℕ → Option FamilyError
table_error table = family_error table.types table.short table.header_len table.rows

-- the lines of the bytes of a payload, by the offsets of a fault, if there is one, and of the payload
abbrev pub table_lines : {F : Type 0} → Ghosts F → ℕ → Option ℕ → ℕ → List ℕ → List ℕ
table_lines table t = payload_lines (table.header_len t) (table.fields t) (table.rows t)
