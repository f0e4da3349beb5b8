-- Parts of bytes.
use Rattle.std.specs.Prelude.{ℕ, ◌+◌, List, slice_range}
use Rattle.netlink_c.specs.declared.frame.Part.{Part}

-- the `size` bytes that start at an offset
abbrev pub part_from : ℕ → ℕ → List ℕ → List ℕ
part_from offset size bytes = slice_range bytes offset (offset + size)

-- the bytes of a part
abbrev pub part_of : Part → List ℕ → List ℕ
part_of part bytes = part_from part.offset part.size bytes
