-- The sizes of attributes, re-exported. They have a file of their own, because an attribute names
-- definitions by file.
pub use Rattle.netlink_attributes.specs.Sizes.{length-attribute_bytes, length-padded}
pub use Rattle.netlink_attributes.specs.Sizes.{length-written, length-canonical_block}
pub use Rattle.netlink_attributes.specs.Sizes.{written_sizes}
