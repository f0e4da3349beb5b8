-- What a family makes of a payload, by its message type.
use Rattle.std.specs.Prelude.{ℕ, List, Option}
use Rattle.netlink_family.specs.Tables.{table_error, table_lines}
use Rattle.netlink_family.specs.declared.family.Table.{Ghosts}
use Rattle.netlink_family.specs.declared.error.FamilyError.{FamilyError}

pub record Check : Type 0 where
  -- its error, if it has one
  pub error : ℕ → List ℕ → Option FamilyError
  -- the lines of its bytes, by the offsets of a fault, if there is one, and of the payload
  pub bytes : ℕ → Option ℕ → ℕ → List ℕ → List ℕ

abbrev pub check_of : {F : Type 0} → Ghosts F → Check
check_of table = record { error = table_error table; bytes = table_lines table }
