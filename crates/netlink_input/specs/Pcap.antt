-- A pcap file: its numbers, the header by which it is recognized, and why one is not read. The header
-- of the file has 24 bytes: the magic number 0xa1b2c3d4 (times in microseconds) or 0xa1b23c4d
-- (nanoseconds), which tells the byte order; the version in two numbers of 2 bytes; 12 bytes that are
-- not looked at; and the link type in 4 bytes. Packets follow, one after another.
use Rattle.std.specs.Prelude.{◌==◌, ◌||◌, ◌&&◌, ◌+◌, ℕ, Bool, List, [], ◌++◌, length, slice_range, Option, None, Some, codes, decimal, is_some, nat_le, nat_lt, if◌then◌else◌}
use Rattle.netlink_packet_core.specs.Header.{field}
use Rattle.netlink_packet_core.specs.Numbers.{number_be, number_le}
use Rattle.netlink_input.specs.declared.pcap.Layout.{Layout}
use Rattle.netlink_input.specs.declared.pcap.Layout.TheVariants.{Blocks, Messages, Packets, Unread}
use Rattle.netlink_input.specs.declared.pcap.Order.{Order}
use Rattle.netlink_input.specs.declared.pcap.Order.TheVariants.{Little, Big}
use Rattle.netlink_input.specs.declared.pcap.PcapFault.{PcapFault}
use Rattle.netlink_input.specs.declared.pcap.PcapFault.TheVariants as why
use Rattle.netlink_input.specs.declared.stream.Cause.TheVariants.{Pcap}

-- the number in the w bytes at an offset
abbrev pub number_in : Order → ℕ → ℕ → List ℕ → ℕ
number_in Little at w bytes = number_le (slice_range bytes at (at + w))
number_in Big at w bytes = number_be (slice_range bytes at (at + w))

-- the byte order by the magic number, which is read as little-endian
abbrev pub order_of : ℕ → Option Order
order_of magic =
    if magic == 2712847316 || magic == 2712812621 then Some Little
    else if magic == 3569595041 || magic == 1295823521 then Some Big
    else None

-- the bytes start with the magic number of a pcap file
abbrev pub is_pcap : List ℕ → Bool
is_pcap bytes = nat_le 4 (length bytes) && is_some (order_of (field 0 4 bytes))

-- the times of a pcap file with this byte order are in nanoseconds
abbrev pub is_nano : Order → List ℕ → Bool
is_nano order bytes = number_in order 0 4 bytes == 2712812621

-- the input is not read, for this cause at this offset
abbrev pub unread : ℕ → PcapFault → Layout
unread at why = Unread (record { at = at; cause = Pcap why })

-- a pcap file by its header: version 2.4, and link type 253, netlink
abbrev pub pcap_layout : Order → List ℕ → Layout
pcap_layout order bytes =
    if nat_lt (length bytes) 24 then unread 0 (why.HeaderCut (length bytes))
    else if number_in order 4 2 bytes == 2 && number_in order 6 2 bytes == 4 then
    (if number_in order 20 4 bytes == 253 then Packets order
    else unread 20 (why.LinkType (number_in order 20 4 bytes)))
    else unread 4 (why.Version (number_in order 4 2 bytes) (number_in order 6 2 bytes))

abbrev pub ordered_layout : Option Order → List ℕ → Layout
ordered_layout None bytes = Messages
ordered_layout (Some order) bytes = pcap_layout order bytes

-- what an input is, by its first bytes: messages, unless the first four say something else. A pcapng
-- file starts with 0x0a0d0d0a in either byte order.
abbrev pub layout_of : List ℕ → Layout
layout_of bytes =
    if nat_lt (length bytes) 4 then Messages
    else if field 0 4 bytes == 168627466 then Blocks
    else ordered_layout (order_of (field 0 4 bytes)) bytes

-- names of some other link types (LINKTYPE_*)
abbrev pub link_type_name : ℕ → List ℕ
link_type_name n =
    if n == 0 then codes " (NULL)"
    else if n == 1 then codes " (ETHERNET)"
    else if n == 101 then codes " (RAW)"
    else if n == 113 then codes " (LINUX_SLL)"
    else if n == 276 then codes " (LINUX_SLL2)"
    else []

abbrev pub pcap_text : PcapFault → List ℕ
pcap_text (why.HeaderCut size) =
    codes "the header of a pcap file is cut to " ++ (decimal size ++ codes " of 24 bytes")
pcap_text (why.Version major minor) =
    codes "the version of the pcap file is " ++ (decimal major ++ (codes "." ++ (decimal minor
    ++ codes " instead of 2.4")))
pcap_text (why.LinkType n) =
    codes "the link type of the pcap file is " ++ (decimal n ++ (link_type_name n
    ++ codes " instead of 253 (NETLINK)"))
pcap_text (why.PacketShort size) =
    codes "the header of a packet is cut to " ++ (decimal size ++ codes " of 16 bytes")
pcap_text (why.PacketLong size) =
    codes "a packet of " ++ (decimal size ++ codes " bytes is longer than 1048576")
pcap_text (why.PacketCut captured size) =
    codes "a packet is cut to " ++ (decimal size ++ (codes " of " ++ (decimal captured
    ++ codes " bytes")))
pcap_text (why.BlockShort size least) =
    codes "the header of a block is cut to " ++ (decimal size ++ (codes " of " ++ (decimal least
    ++ codes " bytes")))
pcap_text why.SectionOrder = codes "a section has neither byte order"
pcap_text (why.SectionVersion major) =
    codes "the major version of a section is " ++ (decimal major ++ codes " instead of 1")
pcap_text (why.BlockUneven size) =
    codes "the length of a block is " ++ (decimal size ++ codes ", no multiple of 4")
pcap_text (why.BlockSmall size least) =
    codes "the length of a block is " ++ (decimal size ++ (codes ", less than " ++ decimal least))
pcap_text (why.InterfaceType n) =
    codes "the link type of an interface is " ++ (decimal n ++ (link_type_name n
    ++ codes " instead of 253 (NETLINK)"))
pcap_text (why.Interface id count) =
    codes "a packet of interface " ++ (decimal id ++ (codes " in a section with " ++ decimal count))
pcap_text (why.PacketOver captured room) =
    codes "a block has room for " ++ (decimal room ++ (codes " of the " ++ (decimal captured
    ++ codes " bytes of a packet")))
pcap_text (why.BlockCut said size) =
    codes "a block is cut to " ++ (decimal size ++ (codes " of " ++ (decimal said
    ++ codes " bytes")))
pcap_text (why.BlockEnds said end) =
    codes "the length of a block is " ++ (decimal said ++ (codes " at its start and " ++ (decimal end
    ++ codes " at its end")))
