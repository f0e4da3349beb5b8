-- The function that reads a block, re-exported. It has a file of its own, because an attribute
-- names definitions by file.
pub use Rattle.netlink_attributes.specs.Reading.{attributes_in, starts_whole}
unfoldable pub use Rattle.netlink_attributes.specs.Reading.{attributes_within}
