-- A block of a pcapng file, by its first bytes, in the byte order of its section: its type in 4 bytes and its length
-- in 4, which its last 4 bytes repeat. The header of a section (type 0x0a0d0d0a, in either byte order) has its magic
-- number (0x1a2b3c4d) in 4 bytes, the version in two numbers of 2, and 8 that are not looked at. The description of an
-- interface (type 1) has its link type in 2 bytes, 2 that are not looked at, and the greatest number of bytes of a packet
-- that are captured in 4. A block with a packet (type 6) has its interface in 4, its time in 8, the number of bytes that
-- were captured in 4, the number of bytes that it had in 4, and the captured bytes. One without a header of its own
-- (type 3) has the number of bytes that it had in 4, and the captured bytes. Options follow, of which one of an
-- interface is looked at, which tells how it counts times.
use Rattle.std.specs.Prelude.{◌==◌, ◌%◌, ◌+◌, ◌-◌, ◌*◌, ◌/◌, ◌&&◌, ◌||◌, ℕ, zero, suc, List, drop, get_or, length, Option, None, Some, Result, Ok, Err, nat_lt, if◌then◌else◌}
use Rattle.netlink_input.specs.Pcap.{number_in}
use Rattle.netlink_input.specs.Stream.{longest}
use Rattle.netlink_input.specs.Time.{clock_time}
use Rattle.netlink_input.specs.declared.block.Block.{Block}
use Rattle.netlink_input.specs.declared.block.Section.{Section}
use Rattle.netlink_input.specs.declared.packet.Extent.{Extent}
use Rattle.netlink_input.specs.declared.time.Time.{Time}
use Rattle.netlink_input.specs.declared.pcap.Order.{Order}
use Rattle.netlink_input.specs.declared.pcap.Order.TheVariants.{Little, Big}
use Rattle.netlink_input.specs.declared.pcap.PcapFault.{PcapFault}
use Rattle.netlink_input.specs.declared.pcap.PcapFault.TheVariants.{SectionOrder, SectionVersion, BlockUneven, BlockSmall, InterfaceType, Interface, PacketLong, PacketOver}

-- a section without interfaces
abbrev pub new_section : Order → Section
new_section order = record { order = order; interfaces = 0; snap = 0; resolution = 6; timed = 0 }

-- what is known before the first block
abbrev pub start : Section
start = new_section Little

-- the offset at which the options of an interface end, in a block of this length; one that is longer than a packet may
-- be counts as one without options
abbrev pub options_end : ℕ → ℕ
options_end size = if nat_lt size 20 || nat_lt longest size then 16 else size - 4

-- how many bytes of a block of this type and length are looked at, except for the captured bytes and the last 4
abbrev pub fixed_of : ℕ → ℕ → ℕ
fixed_of kind size =
    if kind == 168627466 then 24
    else if kind == 1 then options_end size
    else if kind == 6 then 28
    else if kind == 3 then 12
    else 8

abbrev pub head_size : Order → List ℕ → ℕ
head_size order head = if nat_lt (length head) 8 then 8 else fixed_of (number_in order 0 4 head) (number_in order 4 4 head)

-- the byte order by the magic number of a section, which is read as little-endian
abbrev pub magic_order : ℕ → Option Order
magic_order magic =
    if magic == 439041101 then Some Little else if magic == 1295788826 then Some Big else None

-- what is wrong with the length of a block, which has to be at least this
abbrev pub size_fault : ℕ → ℕ → Option PcapFault
size_fault size least =
    if size % 4 == 0 then (if nat_lt size least then Some (BlockSmall size least) else None)
    else Some (BlockUneven size)

abbrev pub unless : Option PcapFault → Result Block PcapFault → Result Block PcapFault
unless None block = block
unless (Some why) block = Err why

-- a block without a packet that leaves this
abbrev pub plain_block : ℕ → Section → Block
plain_block size section = record { size = size; section = section; packet = None; time = None }

-- the header of a section: a new one, without interfaces
abbrev pub versioned : Order → List ℕ → Result Block PcapFault
versioned order head =
    if number_in order 12 2 head == 1
    then Ok (plain_block (number_in order 4 4 head) (new_section order))
    else Err (SectionVersion (number_in order 12 2 head))

abbrev pub section_in : Option Order → List ℕ → Result Block PcapFault
section_in None head = Err SectionOrder
section_in (Some order) head = unless (size_fault (number_in order 4 4 head) 28) (versioned order head)

abbrev pub section_block : List ℕ → Result Block PcapFault
section_block head = section_in (magic_order (number_in Little 8 4 head)) head

-- one more interface
abbrev pub one_more : ℕ → ℕ
one_more n = if nat_lt n 4294967295 then n + 1 else n

abbrev pub with_interface : Section → ℕ → ℕ → Section
with_interface section snap resolution =
    if section.interfaces == 0
    then record {
      order = section.order;
      interfaces = one_more section.interfaces;
      snap = snap;
      resolution = resolution;
      timed = 1;
    }
    else record {
      order = section.order;
      interfaces = one_more section.interfaces;
      snap = section.snap;
      resolution = section.resolution;
      timed =
          if section.timed == section.interfaces && section.resolution == resolution
          then one_more section.interfaces else section.timed;
    }

-- what follows an option with a value of this size, and its padding
abbrev pub after_option : List ℕ → ℕ → List ℕ
after_option bytes size = drop (4 + (size + 3) / 4 * 4) bytes

-- how an interface with these options counts times, by at most so many of them: as the first option 9 (`if_tsresol`)
-- says, or in microseconds
unfoldable pub resolution_in : ℕ → Order → List ℕ → ℕ
resolution_in zero order bytes = 6
resolution_in (suc n) order bytes =
    if nat_lt (length bytes) 4 then 6
    else if number_in order 0 2 bytes == 9 && nat_lt 4 (length bytes) then get_or bytes 4 0
    else if number_in order 0 2 bytes == 0 then 6
    else resolution_in n order (after_option bytes (number_in order 2 2 bytes))

abbrev pub resolution_of : Order → List ℕ → ℕ
resolution_of order bytes = resolution_in (length bytes / 4) order bytes

-- the description of an interface, which has the link type 253, netlink
abbrev pub interface_block : Section → List ℕ → Result Block PcapFault
interface_block section head =
    unless (size_fault (number_in section.order 4 4 head) 20)
    (if number_in section.order 8 2 head == 253
    then Ok (plain_block (number_in section.order 4 4 head)
    (with_interface section (number_in section.order 12 4 head) (resolution_of section.order (drop 16 head))))
    else Err (InterfaceType (number_in section.order 8 2 head)))

-- a block of this size with a packet of this interface
abbrev pub packet_block : Section → ℕ → ℕ → Extent → Option Time → Result Block PcapFault
packet_block section interface size packet time =
    if nat_lt interface section.interfaces then
    (if nat_lt longest packet.captured then Err (PacketLong packet.captured)
    else if nat_lt (size - (packet.from + 4)) packet.captured
    then Err (PacketOver packet.captured (size - (packet.from + 4)))
    else Ok (record { size = size; section = section; packet = Some packet; time = time }))
    else Err (Interface interface section.interfaces)

-- the number by which an interface counts the time of a packet
abbrev pub count_in : Order → List ℕ → ℕ
count_in order head = number_in order 12 4 head * 4294967296 + number_in order 16 4 head

abbrev pub enhanced_block : Section → List ℕ → Result Block PcapFault
enhanced_block section head =
    unless (size_fault (number_in section.order 4 4 head) 32)
    (packet_block section (number_in section.order 8 4 head) (number_in section.order 4 4 head)
    (record {
      from = 28;
      captured = number_in section.order 20 4 head;
      original = number_in section.order 24 4 head;
    })
    (if nat_lt (number_in section.order 8 4 head) section.timed
    then clock_time section.resolution (count_in section.order head) else None))

-- how many bytes of a packet are captured: at most `snap`, or all for 0
abbrev pub snapped : ℕ → ℕ → ℕ
snapped snap original = if snap == 0 then original else if nat_lt snap original then snap else original

-- a packet of the first interface
abbrev pub simple_block : Section → List ℕ → Result Block PcapFault
simple_block section head =
    unless (size_fault (number_in section.order 4 4 head) 16)
    (packet_block section 0 (number_in section.order 4 4 head)
    (record {
      from = 12;
      captured = snapped section.snap (number_in section.order 8 4 head);
      original = number_in section.order 8 4 head;
    }) None)

-- a block of any other type is skipped
abbrev pub other_block : Section → List ℕ → Result Block PcapFault
other_block section head =
    unless (size_fault (number_in section.order 4 4 head) 12)
    (Ok (plain_block (number_in section.order 4 4 head) section))

-- a block by its first bytes, which are as many as are looked at
abbrev pub block_of : Section → List ℕ → Result Block PcapFault
block_of section head =
    if number_in section.order 0 4 head == 168627466 then section_block head
    else if number_in section.order 0 4 head == 1 then interface_block section head
    else if number_in section.order 0 4 head == 6 then enhanced_block section head
    else if number_in section.order 0 4 head == 3 then simple_block section head
    else other_block section head

-- how many bytes of a block are kept: its first ones, and the packet in it
abbrev pub kept_by : Option Extent → ℕ → ℕ
kept_by None size = size
kept_by (Some packet) size = packet.from + packet.captured

abbrev pub kept_size : Block → List ℕ → ℕ
kept_size block head = kept_by block.packet (length head)
