-- Facts about integers and their encodings, re-exported. They have a file of their own, because an
-- attribute names definitions by file.
pub use Rattle.netlink_bytes.specs.NumberLaws.{length-bytes_le, number_le-bytes_le, number_le-fits}
pub use Rattle.netlink_bytes.specs.NumberLaws.{bytes_le-number_le, signed-unsigned, unsigned-fits}
pub use Rattle.netlink_bytes.specs.NumberLaws.{unsigned-signed, signed-fits, length-bytes_be}
pub use Rattle.netlink_bytes.specs.NumberLaws.{text_sizes, number_le-bytes_le_mod}
pub use Rattle.netlink_bytes.specs.NumberLaws.{number_be-bytes_be_mod, number_be-bytes_be}
pub use Rattle.netlink_bytes.specs.NumberLaws.{IsBytes-bytes_le, IsBytes-append, IsBytes-reverse}
pub use Rattle.netlink_bytes.specs.NumberLaws.{IsBytes-bytes_be, number_be-fits, bytes_be-number_be}
pub use Rattle.netlink_bytes.specs.NumberLaws.{take-bytes_le, take-bytes_be, IsBytes-drop}
pub use Rattle.netlink_bytes.specs.NumberLaws.{IsBytes-take, split_number, front-fits}
