-- Integers and their encodings, re-exported. They have a file of their own, because an attribute
-- names definitions by file.
pub use Rattle.netlink_bytes.specs.Numbers.{IsBytes, IsSigned, Reads, Writes}
unfoldable pub use Rattle.netlink_bytes.specs.Numbers.{number_be, number_le, signed, bytes_be}
unfoldable pub use Rattle.netlink_bytes.specs.Numbers.{bytes_le, unsigned}
